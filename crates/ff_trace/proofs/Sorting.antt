-- What a stable sort leaves is the pairs in the order of their keys.
use Rattle.std.proofs.Common.{◌≡◌, ◌<◌, ◌+◌, ℕ, zero, suc, Bool, true, false, ◌&&◌, not, List, [], ◌∷◌, length, get_or, cond, refl, sym, ap, ◌∙◌, subst, arith}
use Rattle.std.specs.Cmp.{IsStrictWeakOrder}
use Rattle.std.specs.List.{AllByRecursion, filter}
use Rattle.std.specs.List.Sorted.{IsSortedBy, IsStableBy, IsPermutation, ties}
use Rattle.std.proofs.lemmas.Bool.{and_parts, true≢false}
use Rattle.std.proofs.lemmas.Cmp.{nat_list_cmp_total}
use Rattle.std.proofs.lemmas.List.Sorted.{sorted_far, ranks_by, IsPermutation-refl, IsPermutation-cons, IsPermutation-trans, IsPermutation-append_left, IsPermutation-append_comm}
use native.Mathlib.Numerals.{unary_clauses}
use Rattle.ff_value.specs.declared.output.Pair.{Pair}
use Rattle.ff_trace.specs.Printed.{key_below, placed, in_key_order}

-- ---- lists in order

module _ {X : Type 0} (lt : X → X → Bool) (order : IsStrictWeakOrder lt) where
  -- no element is below one that stands before it
  abbrev pub Rises : List X → Type 0
  Rises [] = Unit {0}
  Rises (x ∷ xs) = AllByRecursion (λ y. lt y x ≡ false) xs × Rises xs

  each_from : (P : X → Type 0) (xs : List X) → ((k : ℕ) (d : X) → k < length xs → P (get_or xs k d)) → AllByRecursion P xs
  each_from P [] at = tt
  each_from P (x ∷ xs) at = (at 0 x (omega arith), each_from P xs (λ k d inside. at (suc k) d (omega (arith, inside))))

  far_from : (x : X) (xs : List X) → IsSortedBy lt (x ∷ xs) → AllByRecursion (λ y. lt y x ≡ false) xs
  far_from x xs sorted = each_from (λ y. lt y x ≡ false) xs (λ k d inside. sorted_far lt order (x ∷ xs) sorted 0 (suc k) d (omega arith) (omega (arith, inside)))

  sorted_rest : (x : X) (xs : List X) → IsSortedBy lt (x ∷ xs) → IsSortedBy lt xs
  sorted_rest x xs sorted k d low inside = let next : get_or (x ∷ xs) (suc k + 1) d ≡ get_or xs (k + 1) d = simp unary_clauses refl in subst (λ y. lt y (get_or xs k d) ≡ false) next (sorted (suc k) d (omega arith) (omega (arith, inside)))

  rises_from : (xs : List X) → IsSortedBy lt xs → Rises xs
  rises_from [] sorted = tt
  rises_from (x ∷ xs) sorted = (far_from x xs sorted, rises_from xs (sorted_rest x xs sorted))

  self : (x : X) → lt x x ≡ false
  self x = go (lt x x) refl where
    go : (t : Bool) → lt x x ≡ t → lt x x ≡ false
    go true e = order.one_way x x e
    go false e = e

  ties_self : (x : X) → ties lt x x ≡ true
  ties_self x = let one : lt x x ≡ false = self x in rw one refl

  -- what is kept first stands in the list
  kept : (P : X → Type 0) (test : X → Bool) (xs : List X) → AllByRecursion P xs → (y : X) (others : List X) → filter test xs ≡ y ∷ others → P y
  kept P test [] all y others e = cc
  kept P test (x ∷ xs) all y others e = go (test x) refl e (kept P test xs all.1 y others) where
    go : (t : Bool) → test x ≡ t → cond t (x ∷ filter test xs) (filter test xs) ≡ y ∷ others → (filter test xs ≡ y ∷ others → P y) → P y
    go true q f later = let same : x ≡ y = cc in subst P same all.0
    go false q f later = later f

  filter-true : (test : X → Bool) (x : X) (xs : List X) → test x ≡ true → filter test (x ∷ xs) ≡ x ∷ filter test xs
  filter-true test x xs e = rw e refl

  filter-false : (test : X → Bool) (x : X) (xs : List X) → test x ≡ false → filter test (x ∷ xs) ≡ filter test xs
  filter-false test x xs e = rw e refl

  ties-flip : (x y : X) → ties lt x y ≡ ties lt y x
  ties-flip x y = go (lt x y) (lt y x) where
    go : (a b : Bool) → not a && not b ≡ not b && not a
    go true true = refl
    go true false = refl
    go false true = refl
    go false false = refl

  same_tails : (x : X) (xs ys : List X) → ((z : X) → filter (ties lt z) (x ∷ xs) ≡ filter (ties lt z) (x ∷ ys)) → (z : X) → filter (ties lt z) xs ≡ filter (ties lt z) ys
  same_tails x xs ys same z = go (ties lt z x) refl where
    go : (t : Bool) → ties lt z x ≡ t → filter (ties lt z) xs ≡ filter (ties lt z) ys
    go true e =
        let both : x ∷ filter (ties lt z) xs ≡ x ∷ filter (ties lt z) ys = sym (filter-true (ties lt z) x xs e) ∙ same z ∙ filter-true (ties lt z) x ys e in
        cc
    go false e = sym (filter-false (ties lt z) x xs e) ∙ same z ∙ filter-false (ties lt z) x ys e

  -- heads that don't tie: neither is below the other
  not_below : (x y : X) (xs ys : List X) → Rises (y ∷ ys) → filter (ties lt x) (x ∷ xs) ≡ filter (ties lt x) (y ∷ ys) → ties lt x y ≡ false → lt x y ≡ false
  not_below x y xs ys rises same apart =
      kept (λ z. lt z y ≡ false) (ties lt x) ys rises.0 x (filter (ties lt x) xs)
      (sym (filter-false (ties lt x) y ys apart) ∙ sym same ∙ filter-true (ties lt x) x xs (ties_self x))

  tie_from : (x y : X) → lt x y ≡ false → lt y x ≡ false → ties lt x y ≡ true
  tie_from x y a b = rw (a, b) refl

  heads_tie : (x y : X) (xs ys : List X) → Rises (x ∷ xs) → Rises (y ∷ ys) → ((z : X) → filter (ties lt z) (x ∷ xs) ≡ filter (ties lt z) (y ∷ ys)) → ties lt x y ≡ true
  heads_tie x y xs ys rx ry same = go (ties lt x y) refl where
    go : (t : Bool) → ties lt x y ≡ t → ties lt x y ≡ true
    go true e = e
    go false e = tie_from x y (not_below x y xs ys ry (same x) e) (not_below y x ys xs rx (sym (same y)) (ties-flip y x ∙ e))

  -- two lists in order that keep the same elements of each tie are equal
  pub same_sorted : (xs ys : List X) → Rises xs → Rises ys → ((z : X) → filter (ties lt z) xs ≡ filter (ties lt z) ys) → xs ≡ ys
  same_sorted [] [] rx ry same = refl
  same_sorted [] (y ∷ ys) rx ry same = let e : [] ≡ y ∷ filter (ties lt y) ys = same y ∙ filter-true (ties lt y) y ys (ties_self y) in cc
  same_sorted (x ∷ xs) [] rx ry same = let e : x ∷ filter (ties lt x) xs ≡ [] = sym (filter-true (ties lt x) x xs (ties_self x)) ∙ same x in cc
  same_sorted (x ∷ xs) (y ∷ ys) rx ry same =
      let tie = heads_tie x y xs ys rx ry same in
      let both : x ∷ filter (ties lt x) xs ≡ y ∷ filter (ties lt x) ys = sym (filter-true (ties lt x) x xs (ties_self x)) ∙ same x ∙ filter-true (ties lt x) y ys tie in
      let heads : x ≡ y = cc in
      let tails : xs ≡ ys = same_sorted xs ys rx.1 ry.1 (same_tails x xs ys (λ z. same z ∙ ap (λ (h : X). filter (ties lt z) (h ∷ ys)) (sym heads))) in
      ap (λ (h : X). h ∷ xs) heads ∙ ap (λ (t : List X). y ∷ t) tails

-- ---- the pairs in the order of their keys

pub key_order : IsStrictWeakOrder key_below
key_order = ranks_by nat_list_cmp_total (λ (p : Pair). p.key)

all_placed : (P : Pair → Type 0) (p : Pair) (pairs : List Pair) → P p → AllByRecursion P pairs → AllByRecursion P (placed p pairs)
all_placed P p [] one all = (one, tt)
all_placed P p (q ∷ others) one all = go (key_below q p) refl (all_placed P p others one all.1) where
  go : (t : Bool) → key_below q p ≡ t → AllByRecursion P (placed p others) → AllByRecursion P (placed p (q ∷ others))
  go true e rest = rw e (all.0, rest)
  go false e rest = rw e (one, all)

all_wider : (P Q : Pair → Type 0) → ((p : Pair) → P p → Q p) → (pairs : List Pair) → AllByRecursion P pairs → AllByRecursion Q pairs
all_wider P Q each [] all = tt
all_wider P Q each (p ∷ pairs) all = (each p all.0, all_wider P Q each pairs all.1)

rises_placed : (p : Pair) (pairs : List Pair) → Rises key_below key_order pairs → Rises key_below key_order (placed p pairs)
rises_placed p [] rises = (tt, tt)
rises_placed p (q ∷ others) rises = go (key_below q p) refl (rises_placed p others rises.1) where
  go : (t : Bool) → key_below q p ≡ t → Rises key_below key_order (placed p others) → Rises key_below key_order (placed p (q ∷ others))
  go true e rest = rw e (all_placed (λ y. key_below y q ≡ false) p others (key_order.one_way q p e) rises.0, rest)
  go false e rest =
      rw e ((e, all_wider (λ y. key_below y q ≡ false) (λ y. key_below y p ≡ false) (λ y below. key_order.chain y q p below e) others rises.0), rises)

pub rises_ordered : (pairs : List Pair) → Rises key_below key_order (in_key_order pairs)
rises_ordered [] = tt
rises_ordered (p ∷ pairs) = rises_placed p (in_key_order pairs) (rises_ordered pairs)

false_from_not : (b : Bool) → not b ≡ true → b ≡ false
false_from_not true e = absurd (true≢false (sym e))
false_from_not false e = refl

not_both : (z p q : Pair) → key_below q p ≡ true → ties key_below z p ≡ true → ties key_below z q ≡ true → ⊥
not_both z p q below at_p at_q =
    let one = and_parts (not (key_below z p)) (not (key_below p z)) at_p in
    let two = and_parts (not (key_below z q)) (not (key_below q z)) at_q in
    let not_below : key_below q p ≡ false = key_order.chain q z p (false_from_not (key_below q z) two.1) (false_from_not (key_below z p) one.0) in
    true≢false (sym below ∙ not_below)

filter_more : (test : Pair → Bool) (q : Pair) (xs ys : List Pair) → filter test xs ≡ filter test ys → filter test (q ∷ xs) ≡ filter test (q ∷ ys)
filter_more test q xs ys same = ap (λ (kept : List Pair). cond (test q) (q ∷ kept) kept) same

filter_swap : (test : Pair → Bool) (p q : Pair) (others : List Pair) → (test p ≡ true → test q ≡ true → ⊥) → filter test (q ∷ p ∷ others) ≡ filter test (p ∷ q ∷ others)
filter_swap test p q others apart = go (test p) (test q) refl refl where
  go : (a b : Bool) → test p ≡ a → test q ≡ b → filter test (q ∷ p ∷ others) ≡ filter test (p ∷ q ∷ others)
  go true true e f = absurd (apart e f)
  go true false e f = rw (e, f) refl
  go false true e f = rw (e, f) refl
  go false false e f = rw (e, f) refl

stable_placed : (z p : Pair) (pairs : List Pair) → filter (ties key_below z) (placed p pairs) ≡ filter (ties key_below z) (p ∷ pairs)
stable_placed z p [] = refl
stable_placed z p (q ∷ others) = go (key_below q p) refl (stable_placed z p others) where
  go : (t : Bool) → key_below q p ≡ t → filter (ties key_below z) (placed p others) ≡ filter (ties key_below z) (p ∷ others) → filter (ties key_below z) (placed p (q ∷ others)) ≡ filter (ties key_below z) (p ∷ q ∷ others)
  go true e rest =
      rw e (filter_more (ties key_below z) q (placed p others) (p ∷ others) rest
      ∙ filter_swap (ties key_below z) p q others (λ at_p at_q. not_both z p q e at_p at_q))
  go false e rest = rw e refl

-- pairs with the same key stay in the order that they had
pub stable_ordered : (pairs : List Pair) → IsStableBy key_below pairs (in_key_order pairs)
stable_ordered [] z = refl
stable_ordered (p ∷ pairs) z = stable_placed z p (in_key_order pairs) ∙ filter_more (ties key_below z) p (in_key_order pairs) pairs (stable_ordered pairs z)

-- and that is what a stable sort leaves
pub ordered_by_sort : (pairs sorted : List Pair) → IsSortedBy key_below sorted → IsStableBy key_below pairs sorted → sorted ≡ in_key_order pairs
ordered_by_sort pairs sorted rises stable =
    same_sorted key_below key_order sorted (in_key_order pairs) (rises_from key_below key_order sorted rises) (rises_ordered pairs) (λ z. stable z ∙ sym (stable_ordered pairs z))

-- ---- laws

sorted_from : (pairs : List Pair) → Rises key_below key_order pairs → IsSortedBy key_below pairs
sorted_from [] rises k d low inside = absurd (omega (arith, inside))
sorted_from (x ∷ []) rises k d low inside = absurd (omega (arith, inside))
sorted_from (x ∷ y ∷ pairs) rises zero d low inside = rises.0.0
sorted_from (x ∷ y ∷ pairs) rises (suc k) d low inside =
    let next : get_or (x ∷ y ∷ pairs) (suc k + 1) d ≡ get_or (y ∷ pairs) (k + 1) d = simp unary_clauses refl in
    subst (λ z. key_below z (get_or (y ∷ pairs) k d) ≡ false) (sym next) (sorted_from (y ∷ pairs) rises.1 k d (omega arith) (omega (arith, inside)))

pub sorted_ordered : (pairs : List Pair) → IsSortedBy key_below (in_key_order pairs)
sorted_ordered pairs = sorted_from (in_key_order pairs) (rises_ordered pairs)

pub kept_ordered : (pairs : List Pair) → IsSortedBy key_below pairs → in_key_order pairs ≡ pairs
kept_ordered pairs sorted = sym (ordered_by_sort pairs pairs sorted (λ z. refl))

swapped : (p q : Pair) (others : List Pair) → IsPermutation (p ∷ q ∷ others) (q ∷ p ∷ others)
swapped p q others = IsPermutation-append_left others (p ∷ q ∷ []) (q ∷ p ∷ []) (IsPermutation-append_comm (p ∷ []) (q ∷ []))

permuted_placed : (p : Pair) (pairs : List Pair) → IsPermutation (p ∷ pairs) (placed p pairs)
permuted_placed p [] = IsPermutation-refl (p ∷ [])
permuted_placed p (q ∷ others) = go (key_below q p) refl (permuted_placed p others) where
  go : (t : Bool) → key_below q p ≡ t → IsPermutation (p ∷ others) (placed p others) → IsPermutation (p ∷ q ∷ others) (placed p (q ∷ others))
  go true e rest =
      rw e (IsPermutation-trans (p ∷ q ∷ others) (q ∷ p ∷ others) (q ∷ placed p others) (swapped p q others) (IsPermutation-cons q (p ∷ others) (placed p others) rest))
  go false e rest = rw e (IsPermutation-refl (p ∷ q ∷ others))

pub permuted_ordered : (pairs : List Pair) → IsPermutation pairs (in_key_order pairs)
permuted_ordered [] = IsPermutation-refl []
permuted_ordered (p ∷ pairs) =
    IsPermutation-trans (p ∷ pairs) (p ∷ in_key_order pairs) (placed p (in_key_order pairs)) (IsPermutation-cons p pairs (in_key_order pairs) (permuted_ordered pairs)) (permuted_placed p (in_key_order pairs))
