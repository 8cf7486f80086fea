-- The pairs of different levels give back the order that they come from.
use Rattle.std.proofs.Common.{◌≡◌, ◌≢◌, ◌⊎◌, inl, inr, ℕ, zero, suc, ◌<◌, ◌↔◌, Bool, true, false, cond, not, ◌==◌, List, [], ◌∷◌, ◌++◌, length, get_or, flat_map, All, refl, sym, ap, subst, ◌∙◌, arith}
use Rattle.std.proofs.lemmas.Bool.{and_parts, and_from, cases_eq, cases_lt}
use Rattle.std.proofs.lemmas.Bool.Decides.{nat_tests}
use Rattle.std.proofs.lemmas.List.Elements.{All-nil, All-cons, All-push, All-weaker, All-append, All-head, All-tail, All-get_or}
use Rattle.ff_lattice.specs.declared.pair.Pair.{Pair}
use Rattle.ff_lattice.specs.Bounds.{Chain}
use Rattle.ff_lattice.specs.Bounds.Chain.{here, step}
use Rattle.ff_lattice.specs.LevelSet.{below}
use Rattle.ff_lattice.specs.Levels.{pair_at, IsGiven, Reaches, IsKnown, AreLevels, IsLatticeOf}
use Rattle.ff_lattice.specs.Order.{Order, size, leq, name, AtOrBelow, IsOrder}
use Rattle.ff_lattice.proofs.Orders.{IsLattice-agree}
use Rattle.ff_policy.specs.Printing.{is_under, pair_if, pairs_from, pairs_in}

-- ---- what stands in a list

-- x is one of the list's
Has : {X : Type 0} → List X → X → Type 0
Has [] x = ⊥
Has (y ∷ ys) x = (y ≡ x) ⊎ Has ys x

has_first : {X : Type 0} (x : X) → Has (x ∷ []) x
unfolding Has
has_first x = inl refl

has_left : {X : Type 0} (xs ys : List X) (x : X) → Has xs x → Has (xs ++ ys) x
unfolding Has
has_left [] ys x h = absurd h
has_left (y ∷ xs) ys x (inl e) = inl e
has_left (y ∷ xs) ys x (inr h) = inr (has_left xs ys x h)

has_right : {X : Type 0} (xs ys : List X) (x : X) → Has ys x → Has (xs ++ ys) x
unfolding Has
has_right [] ys x h = h
has_right (y ∷ xs) ys x h = inr (has_right xs ys x h)

has_flat : {X Y : Type 0} (f : X → List Y) (xs : List X) (x : X) (y : Y) → Has xs x → Has (f x) y → Has (flat_map f xs) y
unfolding Has
has_flat f [] x y h inner = absurd h
has_flat {X} {Y} f (z ∷ zs) x y (inl e) inner = has_left (f z) (flat_map f zs) y (subst (λ (w : X). Has (f w) y) (sym e) inner)
has_flat f (z ∷ zs) x y (inr h) inner = has_right (f z) (flat_map f zs) y (has_flat f zs x y h inner)

has_below : (n l : ℕ) → l < n → Has (below n) l
unfolding Has below
has_below zero l less = absurd (omega arith)
has_below (suc n) l less =
    elim (cases_lt l n) as (λ _. Has (below n ++ n ∷ []) l) [
      | inl lower ↦ has_left (below n) (n ∷ []) l (has_below n l lower)
      | inr far ↦ has_right (below n) (n ∷ []) l (inl (omega arith))
    ]

-- its place
record Stands {X : Type 0} (xs : List X) (x d : X) : Type 0 where
  place : ℕ
  within : place < length xs
  is : get_or xs place d ≡ x

has_place : {X : Type 0} (xs : List X) (x d : X) → Has xs x → Stands xs x d
unfolding Has
has_place [] x d h = absurd h
has_place (y ∷ ys) x d (inl e) = record { place = 0; within = omega arith; is = e }
has_place (y ∷ ys) x d (inr h) = let p = has_place ys x d h in record { place = suc p.place; within = omega (arith, p.within); is = p.is }

all_flat : {X Y : Type 0} (P : Y → Type 0) (f : X → List Y) (xs : List X) → All (λ x. All P (f x)) xs → All P (flat_map f xs)
all_flat P f [] each = All-nil P
all_flat P f (x ∷ xs) each = All-append P (f x) (flat_map f xs) (All-head (λ x. All P (f x)) x xs each) (all_flat P f xs (All-tail (λ x. All P (f x)) x xs each))

all_below : (n : ℕ) → All (λ l. l < n) (below n)
unfolding below
all_below zero = All-nil (λ l. l < 0)
all_below (suc n) = All-push (λ l. l < suc n) (below n) n (All-weaker (λ l. l < n) (λ l. l < suc n) (λ l less. omega arith) (below n) (all_below n)) (omega arith)

-- ---- the pairs

-- the names of two levels, of which the first is at or below the second
record IsUnder (order : Order) (pair : Pair) : Type 0 where
  low : ℕ
  high : ℕ
  in_low : low < size order
  in_high : high < size order
  under : leq order low high ≡ true
  low_is : pair.low ≡ name order low
  high_is : pair.high ≡ name order high

abbrev names_of : Order → ℕ → ℕ → Pair
names_of order a b = record { low = name order a; high = name order b }

module _ (order : Order) where
  if_under : (a b : ℕ) → a < size order → b < size order → All (IsUnder order) (pair_if order a b)
  if_under a b in_a in_b = go (is_under order a b) refl
    where
      go : (under : Bool) → is_under order a b ≡ under → All (IsUnder order) (cond under (names_of order a b ∷ []) [])
      go true is =
          let pair : IsUnder order (names_of order a b) = record { low = a; high = b; in_low = in_a; in_high = in_b; under = (and_parts (leq order a b) (not (a == b)) is).0; low_is = refl; high_is = refl } in
          All-cons (IsUnder order) (names_of order a b) [] pair (All-nil (IsUnder order))
      go false is = All-nil (IsUnder order)

  from_under : (a : ℕ) → a < size order → All (IsUnder order) (pairs_from order a)
  from_under a in_a =
      let n = size order in
      all_flat (IsUnder order) (pair_if order a) (below n) (All-weaker (λ l. l < n) (λ l. All (IsUnder order) (pair_if order a l)) (λ l in_l. if_under a l in_a in_l) (below n) (all_below n))

  all_under : All (IsUnder order) (pairs_in order)
  all_under = all_flat (IsUnder order) (pairs_from order) (below (size order)) (All-weaker (λ l. l < size order) (λ l. All (IsUnder order) (pairs_from order l)) from_under (below (size order)) (all_below (size order)))

  pair_under : (k : ℕ) → k < length (pairs_in order) → IsUnder order (pair_at (pairs_in order) k)
  pair_under k less = All-get_or (IsUnder order) (pairs_in order) k (record { low = []; high = [] }) less all_under

  pair_given : (a b : ℕ) → a < size order → b < size order → is_under order a b ≡ true → IsGiven (pairs_in order) (name order a) (name order b)
  pair_given a b in_a in_b under =
      let here : Has (pair_if order a b) (names_of order a b) = subst (λ (passes : Bool). Has (cond passes (names_of order a b ∷ []) []) (names_of order a b)) (sym under) (has_first (names_of order a b)) in
      let found = has_place (pairs_in order) (names_of order a b) (record { low = []; high = [] })
      (has_flat (pairs_from order) (below (size order)) a (names_of order a b) (has_below (size order) a in_a)
      (has_flat (pair_if order a) (below (size order)) b (names_of order a b) (has_below (size order) b in_b) here)) in
      (found.place, found.within, ap (λ (p : Pair). p.low) found.is, ap (λ (p : Pair). p.high) found.is)

module _ (order : Order) (valid : IsOrder order) where
  same_level : (a b : ℕ) (text : List ℕ) → a < size order → b < size order → name order a ≡ text → text ≡ name order b → a ≡ b
  same_level a b text in_a in_b one other = valid.apart a b in_a in_b (one ∙ other)

  reached : (x y : List ℕ) → Chain (IsGiven (pairs_in order)) x y → (a b : ℕ) → a < size order → b < size order → name order a ≡ x → y ≡ name order b → leq order a b ≡ true
  reached x y (here _) a b in_a in_b from to = subst (λ (c : ℕ). leq order a c ≡ true) (same_level a b x in_a in_b from to) (valid.reflexive a in_a)
  reached x y (step _ z _ (k, less, low, high) rest) a b in_a in_b from to =
      let pair = pair_under order k less in
      let first : a ≡ pair.low = same_level a pair.low x in_a pair.in_low from (sym low ∙ pair.low_is) in
      let then : leq order pair.high b ≡ true = reached z y rest pair.high b pair.in_high in_b (sym pair.high_is ∙ high) to in
      valid.transitive a pair.high b (subst (λ (c : ℕ). leq order c pair.high ≡ true) (sym first) pair.under) then

  reaches : (a b : ℕ) → a < size order → b < size order → leq order a b ≡ true → Reaches order.names (pairs_in order) a b
  reaches a b in_a in_b under =
      elim (cases_eq a b) as (λ _. Reaches order.names (pairs_in order) a b) [
        | inl same ↦ subst (λ (c : ℕ). Chain (IsGiven (pairs_in order)) (name order a) (name order c)) same (here (name order a))
        | inr other ↦ step (name order a) (name order b) (name order b) (pair_given order a b in_a in_b (and_from (leq order a b) (not (a == b)) under (differ a b other))) (here (name order b))
      ]
    where
      differ : (a b : ℕ) → a ≢ b → not (a == b) ≡ true
      differ a b other = grind (arith, nat_tests)

  known : (k : ℕ) → k < length (pairs_in order) → IsKnown order.names (pair_at (pairs_in order) k)
  known k less = let pair = pair_under order k less in ((pair.low, pair.in_low, sym pair.low_is), (pair.high, pair.in_high, sym pair.high_is))

  levels : AreLevels order.names (pairs_in order)
  levels = record {
    apart = record {
      named = record { sized = record { some = valid.some; few = valid.few }; named = valid.named };
      apart = λ l in_l (k, less, same). let equal : k ≡ l = valid.apart k l (omega arith) in_l same in omega (arith, less, equal);
    };
    known = known;
  }

  agrees : (a b : ℕ) → a < size order → b < size order → (leq order a b ≡ true) ↔ Reaches order.names (pairs_in order) a b
  agrees a b in_a in_b = (reaches a b in_a in_b, λ chain. reached (name order a) (name order b) chain a b in_a in_b refl refl)

  -- the levels and their pairs are that lattice
  pub lattice_again : IsLatticeOf order.names (pairs_in order) order
  lattice_again = record {
    levels = levels;
    named = refl;
    order = agrees;
    lattice = IsLattice-agree (size order) (AtOrBelow order) (Reaches order.names (pairs_in order)) agrees valid.lattice;
    valid = valid;
  }
