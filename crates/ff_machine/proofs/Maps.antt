-- What is read off stores of cookies, requests and touched pages to which little was done.
use Rattle.std.proofs.Common.{◌≡◌, ℕ, Bool, true, false, cond, Option, Some, None, List, [], ◌∷◌, ◌++◌, length, sum_by, map, filter, refl, sym, ap, ◌∙◌, unwrap_or, arith, remove, bytes_eq, ◌||◌}
use Rattle.std.specs.declared.cmp.Ordering.{Ordering}
use Rattle.std.specs.Ordering.{nat_cmp, eq_by_cmp}
use Rattle.std.specs.Cmp.{nat_cmp_total, eq_by_cmp_equiv}
use Rattle.std.specs.Cmp.Lexicographic.{slice_cmp, nat_list_cmp_total}
use Rattle.std.specs.FinMap as finmap
use Rattle.std.specs.FinSet as finset
use Rattle.ff_machine.specs.declared.records.Pending.{Pending}
use Rattle.ff_machine.specs.Net.{cookie_cmp, pairs_of, asked, with_ask, with_asked, answered, count_asks, has_ask_room}
use Rattle.ff_value.specs.declared.output.Pair.{Pair}

no_length : {A : Type 0} (xs : List A) → length xs ≡ 0 → xs ≡ []
no_length [] e = refl
no_length (x ∷ xs) e = absurd (omega (arith, e))

-- an empty map has no entries
pub entries-empty : {K X : Type 0} (R : K → K → Ordering) → finmap.entries (finmap.empty {X = X} {R = R}) ≡ []
entries-empty {X = X} R = no_length _ (sym (finmap.len-entries (finmap.empty {X = X} {R = R})) ∙ finmap.len-empty R X)

-- without cookies none are sent
pub no_pairs : (domain : List ℕ) → pairs_of finmap.empty domain ≡ []
no_pairs domain =
    ap (λ (es : List ((List ℕ × List ℕ) × List ℕ)). map (λ e. let pair : Pair = record { key = e.0.1; value = e.1 } in pair) (filter (λ e. bytes_eq e.0.0 domain) es)) (entries-empty cookie_cmp)

-- nothing was asked
pub asked_none : (domain : List ℕ) → asked finmap.empty domain ≡ []
asked_none domain = ap (λ (o : Option (List Pending)). unwrap_or o []) (finmap.get-empty (slice_cmp nat_cmp) domain)

count_none : count_asks finmap.empty ≡ 0
count_none = ap (λ (es : List (List ℕ × List Pending)). sum_by length (map (λ e. e.1) es)) (entries-empty (slice_cmp nat_cmp))

-- the first request has room
pub room_first : (domain : List ℕ) → has_ask_room finmap.empty domain ≡ true
room_first domain = rw (asked_none domain, count_none) refl

-- one request is pending
pub asked_one : (domain : List ℕ) (p : Pending) → eq_by_cmp (slice_cmp nat_cmp) domain domain ≡ true → asked (with_ask finmap.empty domain p) domain ≡ p ∷ []
asked_one domain p same =
    ap (λ (o : Option (List Pending)). unwrap_or o [])
    (finmap.get-insert nat_list_cmp_total finmap.empty domain (asked finmap.empty domain ++ p ∷ []) domain
    ∙ ap (λ b. cond b (Some (asked finmap.empty domain ++ p ∷ [])) (finmap.get {R = slice_cmp nat_cmp} finmap.empty domain)) same)
    ∙ ap (λ ps. ps ++ p ∷ []) (asked_none domain)

-- the one request was answered: nothing is pending
pub answered_one : (domain : List ℕ) (p : Pending) → eq_by_cmp (slice_cmp nat_cmp) domain domain ≡ true → answered (with_ask finmap.empty domain p) domain 0 ≡ finmap.empty
answered_one domain p same =
    ap (λ (ps : List Pending). with_asked (with_ask finmap.empty domain p) domain (remove ps 0)) (asked_one domain p same)
    ∙ finmap.same_map nat_list_cmp_total (finmap.slice_cmp-IsAntisymmetric finmap.nat_cmp-IsAntisymmetric) (finmap.remove (with_ask finmap.empty domain p) domain) finmap.empty gone where
      now : List Pending
      now = asked finmap.empty domain ++ p ∷ []

      by : (b : Bool) (q : List ℕ) → cond b None (cond b (Some now) (finmap.get {R = slice_cmp nat_cmp} (finmap.empty {X = List Pending}) q)) ≡ finmap.get {R = slice_cmp nat_cmp} (finmap.empty {X = List Pending}) q
      by true q = sym (finmap.get-empty (slice_cmp nat_cmp) q)
      by false q = refl

      gone : (q : List ℕ) → finmap.get (finmap.remove (with_ask finmap.empty domain p) domain) q ≡ finmap.get {R = slice_cmp nat_cmp} finmap.empty q
      gone q =
          finmap.get-remove nat_list_cmp_total (with_ask finmap.empty domain p) domain q
          ∙ ap (cond (eq_by_cmp (slice_cmp nat_cmp) q domain) None) (finmap.get-insert nat_list_cmp_total finmap.empty domain now q)
          ∙ by (eq_by_cmp (slice_cmp nat_cmp) q domain) q

-- a domain is itself
pub same_domain : (domain : List ℕ) → eq_by_cmp (slice_cmp nat_cmp) domain domain ≡ true
same_domain domain = (eq_by_cmp_equiv nat_list_cmp_total).refl domain

-- no page was touched
pub touched_none : (page : ℕ) → finset.contains (finset.empty {R = nat_cmp}) page ≡ false
touched_none page = finset.contains-empty nat_cmp page

-- the page that was touched last
pub touched_last : (pages : finset.FinSet nat_cmp) (page : ℕ) → eq_by_cmp nat_cmp page page ≡ true → finset.contains (finset.insert pages page) page ≡ true
touched_last pages page same =
    finset.contains-insert nat_cmp_total pages page page
    ∙ ap (λ b. b || finset.contains pages page) same
