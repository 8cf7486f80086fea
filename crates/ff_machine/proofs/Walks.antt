-- Each node of a walk was made, and a node has no more children than there are nodes.
use Rattle.std.proofs.Common.{◌≡◌, ℕ, zero, suc, ◌+◌, ◌<◌, ◌≤◌, ◌==◌, ◌||◌, Bool, true, false, cond, List, [], ◌∷◌, ◌++◌, length, map, flat_map, count_by, arith, refl, sym, subst, ap, ◌∙◌}
use Rattle.std.specs.Prelude.{nat_eq}
use Rattle.std.specs.List.{AllByRecursion, IsDistinct, list_any}
use Rattle.std.proofs.lemmas.Bool.{eqb-true}
use Rattle.std.proofs.lemmas.Bool.Decides.{nat_tests}
use Rattle.std.proofs.lemmas.List.{length-map}
use Rattle.std.proofs.lemmas.List.Elements.{recursion_from_All}
use Rattle.std.proofs.lemmas.List.Sums.{sum_by-append}
use Rattle.std.proofs.lemmas.Map.Steps.{length-le_from_distinct_below}
use Rattle.ff_value.specs.declared.ids.NodeId.{NodeId}
use Rattle.ff_machine.specs.declared.limits.TheConstants.{MOST_TREE_DEPTH}
use Rattle.ff_machine.specs.Nodes.{Node, Walk, walk_within, children}
use Rattle.ff_machine.specs.Alone.{AreTrees}

both : {X : Type 0} (P : X → Type 0) (xs ys : List X) → AllByRecursion P xs → AllByRecursion P ys → AllByRecursion P (xs ++ ys)
both P [] ys h k = k
both P (x ∷ xs) ys h k = (h.0, both P xs ys h.1 k)

each : {X Y : Type 0} (P : Y → Type 0) (Q : X → Type 0) (f : X → List Y) → ((x : X) → Q x → AllByRecursion P (f x)) → (xs : List X) → AllByRecursion Q xs → AllByRecursion P (flat_map f xs)
each P Q f made [] h = tt
each P Q f made (x ∷ xs) h = both P (f x) (flat_map f xs) (made x h.0) (each P Q f made xs h.1)

module _ (nodes : List Node) (trees : AreTrees nodes) where
  -- the node was made
  abbrev pub IsThere : NodeId → Type 0
  IsThere n = n.0 < length nodes

  walk_within_made : (more : ℕ) (n : NodeId) → IsThere n → AllByRecursion IsThere (walk_within more nodes n)
  walk_within_made zero n here = tt
  walk_within_made (suc more) n here = (here, each IsThere IsThere (walk_within more nodes) (walk_within_made more) (children nodes n) (recursion_from_All IsThere (children nodes n) (trees.below n)))

  -- each node of a walk from a node that was made
  pub walk_made : (n : NodeId) → IsThere n → AllByRecursion IsThere (Walk nodes n)
  unfolding Walk
  walk_made n here = walk_within_made (suc MOST_TREE_DEPTH) n here

-- Children differ.

-- how often a number is in a list
abbrev count : List ℕ → ℕ → ℕ
count xs x = count_by (λ y. y == x) xs

one_if : Bool → ℕ
one_if b = cond b 1 0

zero_plus : (n : ℕ) → 0 + n ≡ n
zero_plus n = omega arith

-- how many of a list that has one more pass a test
count_more : {X : Type 0} (test : X → Bool) (x : X) (xs : List X) → count_by test (x ∷ xs) ≡ one_if (test x) + count_by test xs
unfolding one_if
count_more test x xs = sum_by-append (λ y. cond (test y) 1 0) (x ∷ []) xs ∙ ap (λ k. k + count_by test xs) (zero_plus (one_if (test x)))

counted : (x y : ℕ) (xs : List ℕ) → count (x ∷ xs) y ≡ one_if (x == y) + count xs y
counted x y xs = count_more (λ z. z == y) x xs

-- two facts of each element, as one of each
joined : {X : Type 0} (P Q R : X → Type 0) → ((x : X) → P x → Q x → R x) → (xs : List X) → AllByRecursion P xs → AllByRecursion Q xs → AllByRecursion R xs
joined P Q R f [] p q = tt
joined P Q R f (x ∷ xs) p q = (f x p.0 q.0, joined P Q R f xs p.1 q.1)

there_self : (x : ℕ) → one_if (x == x) ≡ 1
unfolding one_if
there_self x = let e : (x == x) ≡ true = grind (arith, nat_tests) in ap (λ b. cond b 1 0) e

-- each element is counted
there : (xs : List ℕ) → AllByRecursion (λ x. 1 ≤ count xs x) xs
there [] = tt
there (x ∷ xs) = (
  let one = there_self x in let e = counted x x xs in omega (arith, one, e),
  joined (λ y. 1 ≤ count xs y) (λ y. 1 ≤ count xs y) (λ y. 1 ≤ count (x ∷ xs) y) (λ y p q. let e = counted x y xs in omega (arith, p, e)) xs (there xs) (there xs),
)

none_again : (x : ℕ) (xs : List ℕ) → count xs x ≡ 0 → AllByRecursion (λ y. nat_eq x y ≡ false) xs
unfolding one_if
none_again x [] h = tt
none_again x (y ∷ ys) h = (apart (y == x) refl, none_again x ys (let e = counted y x ys in omega (arith, h, e))) where
  no_one : one_if (y == x) ≡ 0
  no_one = let e = counted y x ys in omega (arith, h, e)

  apart : (b : Bool) → (y == x) ≡ b → nat_eq x y ≡ false
  apart true e = absurd (let one : one_if (y == x) ≡ 1 = ap (λ b. cond b 1 0) e in let none = no_one in omega (arith, one, none))
  apart false e = grind (arith, nat_tests, e)

-- numbers that are each counted once differ
differ : (xs : List ℕ) → AllByRecursion (λ x. count xs x ≡ 1) xs → IsDistinct nat_eq xs
unfolding IsDistinct
differ [] h = tt
differ (x ∷ xs) h = (
  none_again x xs (let one = there_self x in let e = counted x x xs in let all = h.0 in omega (arith, one, e, all)),
  differ xs (joined (λ y. count (x ∷ xs) y ≡ 1) (λ y. 1 ≤ count xs y) (λ y. count xs y ≡ 1) (λ y p q. let e = counted x y xs in omega (arith, p, q, e)) xs h.1 (there xs)),
)

-- the numbers of children
abbrev numbers : List NodeId → List ℕ
numbers cs = map (λ c. c.0) cs

count_numbers : (cs : List NodeId) (n : ℕ) → count (numbers cs) n ≡ count_by (λ c. c.0 == n) cs
count_numbers [] n = refl
count_numbers (c ∷ cs) n = counted c.0 n (numbers cs) ∙ ap (λ k. one_if (c.0 == n) + k) (count_numbers cs n) ∙ sym (count_more (λ d. d.0 == n) c cs)

mapped : (P : ℕ → Type 0) (cs : List NodeId) → AllByRecursion (λ c. P c.0) cs → AllByRecursion P (numbers cs)
mapped P [] h = tt
mapped P (c ∷ cs) h = (h.0, mapped P cs h.1)

found_there : (P : ℕ → Type 0) (xs : List ℕ) → AllByRecursion P xs → (q : ℕ) → list_any (nat_eq q) xs ≡ true → P q
found_there P [] h q e = cc
found_there P (x ∷ xs) h q e = by (nat_eq q x) refl (λ is. found_there P xs h.1 q (ap (λ b. b || list_any (nat_eq q) xs) (sym is) ∙ e)) where
  by : (b : Bool) → nat_eq q x ≡ b → (nat_eq q x ≡ false → P q) → P q
  by true is more = subst P (sym (eqb-true q x is)) h.0
  by false is more = more is

-- a node has no more children than there are nodes
pub few_children : (nodes : List Node) → AreTrees nodes → (n : NodeId) → length (children nodes n) ≤ length nodes
few_children nodes trees n =
    let cs = children nodes n in
    let once = recursion_from_All (λ c. count_by (λ d. d.0 == c.0) cs ≡ 1) cs (λ k d here. trees.once _ n (trees.agree n k d here)) in
    let single = mapped (λ x. count (numbers cs) x ≡ 1) cs (joined (λ c. count_by (λ d. d.0 == c.0) cs ≡ 1) (λ c. count_by (λ d. d.0 == c.0) cs ≡ 1) (λ c. count (numbers cs) c.0 ≡ 1) (λ c p q. count_numbers cs c.0 ∙ p) cs once once) in
    let below = mapped (λ x. x < length nodes) cs (recursion_from_All (λ c. c.0 < length nodes) cs (trees.below n)) in
    subst (λ k. k ≤ length nodes) (length-map cs (λ (c : NodeId). c.0)) (length-le_from_distinct_below (numbers cs) (length nodes) (differ (numbers cs) single) (found_there (λ x. x < length nodes) (numbers cs) below))
