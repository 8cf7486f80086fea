-- A request that was answered is taken out, which keeps stores valid.
use Rattle.std.proofs.Common.{◌≡◌, ℕ, suc, ◌≤◌, Bool, true, false, cond, Option, Some, None, List, [], ◌∷◌, length, take, drop, remove, sum_by, All, refl, sym, ap, subst, ◌∙◌, arith, unwrap_or, length-append, length-take, length-drop}
use Rattle.std.proofs.lemmas.List.Elements.{All-append, All-take, All-drop, All-nil}
use Rattle.std.specs.Ordering.{nat_cmp, eq_by_cmp}
use Rattle.std.specs.Cmp.Lexicographic.{slice_cmp, nat_list_cmp_total}
use Rattle.std.specs.FinMap as finmap
use Rattle.std.specs.FinMap.Entries.{where_key}
use Rattle.ff_machine.specs.declared.records.Pending.{Pending}
use Rattle.ff_machine.specs.Net.{Requests, asked, count_asks, with_asked, answered}
use Rattle.ff_machine.specs.Stores.{Stores}
use Rattle.ff_machine.specs.Alone.{IsPending, AreAsked, AreRequests}
use Rattle.ff_machine.specs.References.{made, RequestsRefer}
use Rattle.ff_machine.specs.Valid.{IsStores}
use Rattle.ff_laws.specs.Keeps.{Keeps}
use Rattle.ff_laws.proofs.Sums.{sum_values, sum_where}
use Rattle.ff_laws.proofs.Removing.{others, entries-removed}
use Rattle.ff_laws.proofs.Asking.{PendingRefers, requests_changed, asked_set, set_valid}

-- a list without one of its items
pub All-removed : {X : Type 0} (P : X → Type 0) (xs : List X) (k : ℕ) → All P xs → All P (remove xs k)
All-removed P xs k h = All-append P (take k xs) (drop (suc k) xs) (All-take P k xs h) (All-drop P (suc k) xs h)

removed_size : {X : Type 0} (xs : List X) (k : ℕ) → length (remove xs k) ≤ length xs
removed_size xs k = omega (arith, length-append (take k xs) (drop (suc k) xs), length-take k xs, length-drop (suc k) xs)

left_valid : (requests : Requests) (domain : List ℕ) (k : ℕ) (o : Option (List Pending)) (p : Pending) (ps : List Pending) → AreRequests requests → finmap.get requests domain ≡ o
    → remove (unwrap_or o []) k ≡ p ∷ ps → AreAsked domain (p ∷ ps)
left_valid requests domain k None p ps are e h = absurd (omega (arith, removed_size (let none : List Pending = [] in none) k, ap (λ (xs : List Pending). length xs) h))
left_valid requests domain k (Some qs) p ps are e h =
    let old = are.each domain qs e in
    record {
      domain_is = old.domain_is;
      some = λ none. absurd (not_empty none);
      each = subst (All IsPending) h (All-removed IsPending qs k old.each);
      few = omega (arith, old.few, removed_size qs k, ap (λ (xs : List Pending). length xs) h);
    } where
      not_empty : p ∷ ps ≡ [] → ⊥
      not_empty e = cc

kept_get : (b : Bool) (o : Option (List Pending)) (ps : List Pending) → cond b None o ≡ Some ps → o ≡ Some ps
kept_get true o ps e = cc
kept_get false o ps e = e

-- no request of the domain is pending
none_valid : (requests : Requests) (domain : List ℕ) → AreRequests requests → AreRequests (finmap.remove requests domain)
none_valid requests domain are =
    let exact = finmap.slice_cmp-IsAntisymmetric finmap.nat_cmp-IsAntisymmetric in
    let left = where_key (slice_cmp nat_cmp) (others nat_list_cmp_total exact requests domain) (finmap.entries requests) in
    let now : count_asks (finmap.remove requests domain) ≡ sum_by (λ (e : List ℕ × List Pending). length e.1) left =
    sum_values length (finmap.entries (finmap.remove requests domain))
    ∙ ap (λ (es : List (List ℕ × List Pending)). sum_by (λ (e : List ℕ × List Pending). length e.1) es) (entries-removed nat_list_cmp_total exact requests domain) in
    let before : count_asks requests ≡ sum_by (λ (e : List ℕ × List Pending). length e.1) (finmap.entries requests) = sum_values length (finmap.entries requests) in
    record {
      each = λ q ps e. are.each q ps (kept_get (eq_by_cmp (slice_cmp nat_cmp) q domain) (finmap.get requests q) ps (sym (finmap.get-remove nat_list_cmp_total requests domain q) ∙ e));
      few = omega (arith, now, before, are.few, sum_where nat_list_cmp_total (λ (ps : List Pending). length ps) (others nat_list_cmp_total exact requests domain) (finmap.entries requests));
    }

none_asked : (P : List Pending → Type 0) (requests : Requests) (domain q : List ℕ) → P [] → P (asked requests q) → P (asked (finmap.remove requests domain) q)
none_asked P requests domain q none old =
    subst P (sym (ap (λ (o : Option (List Pending)). unwrap_or o []) (finmap.get-remove nat_list_cmp_total requests domain q))) (by (eq_by_cmp (slice_cmp nat_cmp) q domain)) where
      by : (b : Bool) → P (unwrap_or (cond b None (finmap.get requests q)) [])
      by true = none
      by false = old

-- a request that is taken out keeps requests valid
module _ (requests : Requests) (domain : List ℕ) (k : ℕ) (are : AreRequests requests) where
  left_alone : (left : List Pending) → remove (asked requests domain) k ≡ left → AreRequests (with_asked requests domain left)
  left_alone [] h = none_valid requests domain are
  left_alone (p ∷ ps) h =
      set_valid requests domain (p ∷ ps) are (left_valid requests domain k (finmap.get requests domain) p ps are refl h)
      (omega (arith, are.few, removed_size (asked requests domain) k, ap (λ (xs : List Pending). length xs) h))

  pub answered_alone : AreRequests (answered requests domain k)
  answered_alone = left_alone (remove (asked requests domain) k) refl

module _ (s : Stores) (domain : List ℕ) (k : ℕ) (valid : IsStores s) where
  left_refer : All (PendingRefers (made s)) (remove (asked s.requests domain) k)
  left_refer = All-removed (PendingRefers (made s)) (asked s.requests domain) k (valid.refer.requests domain)

  refer_by : (left : List Pending) → remove (asked s.requests domain) k ≡ left → RequestsRefer (made s) (with_asked s.requests domain left)
  refer_by [] h = λ q. none_asked (All (PendingRefers (made s))) s.requests domain q (All-nil (PendingRefers (made s))) (valid.refer.requests q)
  refer_by (p ∷ ps) h = λ q. asked_set s.requests domain (p ∷ ps) (All (PendingRefers (made s))) q (subst (All (PendingRefers (made s))) h left_refer) (valid.refer.requests q)

  -- a request that is taken out keeps stores valid
  pub answered_valid : Keeps s (record s { requests = answered s.requests domain k })
  answered_valid =
      requests_changed s (answered s.requests domain k) valid (answered_alone s.requests domain k valid.requests)
      (refer_by (remove (asked s.requests domain) k) refl)
