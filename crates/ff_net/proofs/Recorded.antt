-- Cookies and their records.
use Rattle.std.proofs.Common.{◌≡◌, ℕ, ◌+◌, ◌<◌, Bool, true, false, cond, ◌&&◌, ◌||◌, nat_lt, ltb-false, sum_by, Some, None, List, [], ◌∷◌, ◌++◌, map, take, drop, length, get_or, bytes_eq, is_some, refl, sym, ap, ◌∙◌, arith}
use Rattle.std.proofs.lemmas.List.{length-append}
use Rattle.std.proofs.lemmas.List.Sums.{sum_by-cons, sum_by-append}
use Rattle.std.specs.FinMap as finmap
use Rattle.std.proofs.lemmas.Slice.Eq.{bytes_eq-Decides}
use Rattle.ff_value.specs.declared.fault.Fault.TheVariants as fault
use Rattle.ff_machine.specs.Faults.{limit_unless}
use Rattle.ff_machine.specs.declared.limits.TheConstants.{MOST_COOKIES, MOST_COOKIES_OF_DOMAIN}
use Rattle.ff_machine.specs.Net.{Jar, cookie, cookies_of, cookie_put, cookie_fault, has_cookie_size, has_cookie_room}
use Rattle.ff_machine.specs.Alone.{IsJar}
use Rattle.ff_records.specs.Records.{cookie_rec, cookie_recs}
use Rattle.ff_records.specs.declared.records.CookieRec.{CookieRec}
use Rattle.ff_net.specs.Cookies.{entry_of}
use Rattle.ff_net.proofs.Cookies.{Entry, cookie_total}
use Rattle.ff_records.proofs.Rising as rising

same_recs : (rs : List CookieRec) → map cookie_rec (map entry_of rs) ≡ rs
same_recs [] = refl
same_recs (r ∷ rs) = ap (λ rest. r ∷ rest) (same_recs rs)

same_entries : (es : List Entry) → map entry_of (map cookie_rec es) ≡ es
same_entries [] = refl
same_entries (e ∷ es) = ap (λ rest. e ∷ rest) (same_entries es)

pub entries_of : (v : Jar) (rs : List CookieRec) → cookie_recs v ≡ rs → finmap.entries v ≡ map entry_of rs
entries_of v rs e = sym (same_entries (finmap.entries v)) ∙ ap (map entry_of) e

pub recs_of : (v : Jar) (rs : List CookieRec) → finmap.entries v ≡ map entry_of rs → cookie_recs v ≡ rs
recs_of v rs e = ap (map cookie_rec) e ∙ same_recs rs

-- records that rise
abbrev pub Rises : List CookieRec → Type 0
Rises = rising.Rise cookie_total entry_of

-- the records of a jar rise
pub jar_rises : (v : Jar) (rs : List CookieRec) → cookie_recs v ≡ rs → Rises rs
jar_rises v rs e = rising.entries_rise cookie_total entry_of v rs (entries_of v rs e)

is_less : (a b : ℕ) → a < b → nat_lt a b ≡ true
is_less a b less = elim (nat_lt a b) as (λ c. nat_lt a b ≡ c → c ≡ true) [
  | true ↦ λ e. refl
  | false ↦ λ e. absurd (omega (arith, less, ltb-false a b e))
] refl

both_true : (a b : Bool) → a ≡ true → b ≡ true → (a && b) ≡ true
both_true a b e f = rw (e, f) refl

no_refusal : (size there room : Bool) → size ≡ true → room ≡ true → cond size (limit_unless (there || room)) (Some fault.Range) ≡ None
no_refusal true true room e f = refl
no_refusal true false true e f = refl
no_refusal true false false e f = cc
no_refusal false there room e f = cc

module _ (rs : List CookieRec) (i : ℕ) (x : CookieRec) (within : i < length rs) (is : x ≡ get_or rs i x) (rise : Rises rs) where
  -- a cookie more
  pub one_more : (jar after : Jar) → finmap.entries jar ≡ map entry_of (take i rs) → after ≡ cookie_put jar x.domain x.key x.value → finmap.entries after ≡ map entry_of (take (i + 1) rs)
  one_more jar after so_far e = ap finmap.entries e ∙ rising.one_more cookie_total entry_of rs i x within is rise jar so_far

  -- where a valid jar has these records, the cookie may be put
  module _ (v : Jar) (are : IsJar v) (has : cookie_recs v ≡ rs) (jar : Jar) (so_far : finmap.entries jar ≡ map entry_of (take i rs)) where
    all_of : finmap.entries v ≡ map entry_of (take i rs) ++ entry_of x ∷ map entry_of (drop (i + 1) rs)
    all_of = entries_of v rs has ∙ rising.whole cookie_total entry_of rs i x within is

    f : Entry → ℕ
    f e = cond (bytes_eq e.0.0 x.domain) 1 0

    itself : f (entry_of x) ≡ 1
    unfolding f
    itself = ap (λ b. cond b 1 0) ((bytes_eq-Decides x.domain x.domain).1 refl)

    counts : sum_by f (finmap.entries v) ≡ sum_by f (finmap.entries jar) + (f (entry_of x) + sum_by f (map entry_of (drop (i + 1) rs)))
    counts =
        ap (sum_by f) all_of
        ∙ sum_by-append f (map entry_of (take i rs)) (entry_of x ∷ map entry_of (drop (i + 1) rs))
        ∙ ap (λ n. sum_by f (map entry_of (take i rs)) + n) (sum_by-cons f (entry_of x) (map entry_of (drop (i + 1) rs)))
        ∙ ap (λ n. n + (f (entry_of x) + sum_by f (map entry_of (drop (i + 1) rs)))) (sym (ap (sum_by f) so_far))

    fewer_of : cookies_of jar x.domain < MOST_COOKIES_OF_DOMAIN
    unfolding f
    fewer_of = omega (arith, counts, itself, are.few_of x.domain)

    fewer : finmap.len jar < MOST_COOKIES
    fewer =
        let all = finmap.len-entries v ∙ ap length all_of ∙ length-append (map entry_of (take i rs)) (entry_of x ∷ map entry_of (drop (i + 1) rs)) in
        let some = finmap.len-entries jar ∙ ap length so_far in
        omega (arith, all, some, are.few)

    -- so it may be put
    pub may_put : cookie_fault jar x.domain x.key x.value ≡ None
    may_put =
        no_refusal (has_cookie_size x.key x.value) (is_some (cookie jar x.domain x.key)) (has_cookie_room jar x.domain)
        (are.each x.domain x.key x.value (rising.found_there cookie_total entry_of rs i x within is rise v (entries_of v rs has))).sizes
        (both_true (nat_lt (cookies_of jar x.domain) MOST_COOKIES_OF_DOMAIN) (nat_lt (finmap.len jar) MOST_COOKIES) (is_less _ _ fewer_of) (is_less _ _ fewer))
