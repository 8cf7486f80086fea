-- The order of cookies, the tests by which one is found, and what one change of the rows does.
use Rattle.std.proofs.Common.{◌≡◌, ℕ, true, false, cond, ◌&&◌, nat_lt, Some, None, List, [], length, count_by, refl, sym, subst, ◌∙◌}
use Rattle.std.specs.Str.{IsUtf8}
use Rattle.ff_name.specs.Spelling.{IsDomain}
use Rattle.std.specs.List.{position_or_len}
use Rattle.std.specs.declared.cmp.Ordering.{Ordering}
use Rattle.std.specs.declared.cmp.Ordering.TheVariants.{Less, Equal, Greater}
use Rattle.std.specs.Ordering.{nat_cmp, eq_by_cmp, is_eq, ordering_then}
use Rattle.std.specs.Cmp.{IsTotalOrder, eq_by_cmp_equiv}
use Rattle.std.specs.Cmp.Lexicographic.{slice_cmp, nat_list_cmp_total}
use Rattle.std.specs.FinMap as finmap
use Rattle.std.proofs.lemmas.Cmp.{then_total, on_total}
use Rattle.std.proofs.lemmas.Map.Lookups.{exact_bytes, exact_pairs}
use Rattle.std.proofs.lemmas.Map.Text.{is_eq-slice_cmp}
use Rattle.ff_value.specs.declared.fault.Fault.TheVariants as fault
use Rattle.ff_machine.specs.declared.limits.TheConstants.{MOST_COOKIES, MOST_COOKIES_OF_DOMAIN}
use Rattle.ff_machine.specs.Alone.{IsJar}
use Rattle.ff_machine.specs.Net.{Jar, cookie_cmp, cookie, cookies_of, cookie_fault, cookie_put, cookie_deleted, has_cookie_size, has_cookie_room}
use Rattle.ff_laws.proofs.Cookies.{put_valid, deleted_valid}
use Rattle.ff_net.specs.Cookies.{is_of, is_at, AreCookies}
use Rattle.ff_net.specs.Entries.{AreApart}
use Rattle.ff_net.proofs.Finding.{sum_entries, len_entries}
use Rattle.ff_net.proofs.Keyed.{IsPlace}

pub cookie_total : IsTotalOrder cookie_cmp
cookie_total = then_total (on_total (λ (s : List ℕ × List ℕ). s.0) nat_list_cmp_total) (on_total (λ (s : List ℕ × List ℕ). s.1) nat_list_cmp_total)

-- only equal keys tie
pub cookie_exact : finmap.IsAntisymmetric cookie_cmp
cookie_exact = exact_pairs (slice_cmp nat_cmp) (slice_cmp nat_cmp) exact_bytes exact_bytes

both_equal : (a b : Ordering) → is_eq (ordering_then a b) ≡ (is_eq a && is_eq b)
both_equal Less b = refl
both_equal Equal b = refl
both_equal Greater b = refl

-- the test of a domain and a key is that of the order
pub at_is_tied : (domain key : List ℕ) (cookie : (List ℕ × List ℕ) × List ℕ) → is_at domain key cookie ≡ eq_by_cmp cookie_cmp (domain, key) cookie.0
at_is_tied domain key cookie =
    sym (both_equal (slice_cmp nat_cmp cookie.0.0 domain) (slice_cmp nat_cmp cookie.0.1 key)
    ∙ cc (is_eq-slice_cmp cookie.0.0 domain, is_eq-slice_cmp cookie.0.1 key))
    ∙ (eq_by_cmp_equiv cookie_total).symm cookie.0 (domain, key)

-- a cookie as an entry
abbrev pub Entry : Type 0
Entry = (List ℕ × List ℕ) × List ℕ

-- the place of a cookie's key is the first that passes
pub cookie_place : (domain key : List ℕ) (rows : List Entry) (i : ℕ) → i ≡ position_or_len (is_at domain key) rows → IsPlace cookie_cmp rows (domain, key) i
cookie_place domain key rows i first = record {
  test = is_at domain key;
  tests = at_is_tied domain key;
  first = first;
}

-- how many cookies a domain has
pub counted : (domain : List ℕ) (rows : List Entry) → AreApart cookie_cmp rows → cookies_of (finmap.from_entries rows) domain ≡ count_by (is_of domain) rows
counted domain rows apart = sum_entries cookie_total (λ e. cond (is_of domain e) 1 0) rows apart

-- there is room by the counts of rows
pub room_is : (domain : List ℕ) (rows : List Entry) → AreApart cookie_cmp rows → has_cookie_room (finmap.from_entries rows) domain ≡ (nat_lt (count_by (is_of domain) rows) MOST_COOKIES_OF_DOMAIN && nat_lt (length rows) MOST_COOKIES)
room_is domain rows apart = rw (counted domain rows apart, len_entries cookie_total rows apart) refl

-- a cookie of a key that is there may always be put, within its sizes
pub no_fault : (jar : Jar) (domain key value old : List ℕ) → has_cookie_size key value ≡ true → cookie jar domain key ≡ Some old → cookie_fault jar domain key value ≡ None
no_fault jar domain key value old size is = rw (size, is) refl

-- a new one without room is refused
pub no_room : (jar : Jar) (domain key value : List ℕ) → has_cookie_size key value ≡ true → cookie jar domain key ≡ None → has_cookie_room jar domain ≡ false → cookie_fault jar domain key value ≡ Some fault.Limit
no_room jar domain key value size none full = rw (size, none, full) refl

-- with room it may be put
pub room_left : (jar : Jar) (domain key value : List ℕ) → has_cookie_size key value ≡ true → cookie jar domain key ≡ None → has_cookie_room jar domain ≡ true → cookie_fault jar domain key value ≡ None
room_left jar domain key value size none room = rw (size, none, room) refl

-- rows with a cookie that may be put
pub cookies_put : (rows new : List Entry) (domain key value : List ℕ) → AreCookies rows → AreApart cookie_cmp new → finmap.from_entries new ≡ cookie_put (finmap.from_entries rows) domain key value
    → cookie_fault (finmap.from_entries rows) domain key value ≡ None → IsDomain domain → IsUtf8 key → IsUtf8 value → AreCookies new
cookies_put rows new domain key value are apart now no_fault is_domain is_key is_value = record {
  apart = apart;
  valid = subst IsJar (sym now) (put_valid (finmap.from_entries rows) domain key value are.valid is_domain is_key is_value no_fault);
}

-- rows without one
pub cookies_deleted : (rows new : List Entry) (domain key : List ℕ) → AreCookies rows → AreApart cookie_cmp new → finmap.from_entries new ≡ cookie_deleted (finmap.from_entries rows) domain key → AreCookies new
cookies_deleted rows new domain key are apart now = record {
  apart = apart;
  valid = subst IsJar (sym now) (deleted_valid (finmap.from_entries rows) domain key [] are.valid);
}
