-- Depths, roots and walks of trees, by a node's parent.
use Rattle.std.proofs.Common.{◌≡◌, ℕ, zero, suc, ◌-◌, ◌<◌, ◌≤◌, ◌⊎◌, inl, inr, ◌==◌, nat_lt, Bool, true, false, cond, Option, Some, None, List, [], ◌∷◌, ◌++◌, map, flat_map, length, arith, refl, sym, subst, ap, ◌∙◌}
use Rattle.std.proofs.lemmas.Bool.Decides.{nat_tests}
use Rattle.std.proofs.lemmas.List.{get_or_past}
use Rattle.std.proofs.lemmas.List.Sums.{sum_by-cons}
use Rattle.ff_tree.specs.Spelled.{most}
use Rattle.ff_value.specs.declared.ids.NodeId.{NodeId}
use Rattle.ff_machine.specs.declared.limits.TheConstants.{MOST_TREE_DEPTH}
use Rattle.ff_machine.specs.Nodes.{Node, no_node, Walk, walk_within, children, parent, at_parent, depth, depth_within, root, root_within, height}
use Rattle.ff_machine.specs.Alone.{AreTrees}
use Rattle.ff_machine.proofs.Numbers.{more, more_is}
use Rattle.ff_machine.proofs.Parts.{times}

-- Lists.

-- the node is in the list
abbrev pub In : NodeId → List NodeId → Type 0
In n [] = ⊥
In n (x ∷ xs) = (x ≡ n) ⊎ In n xs

in_left : (n : NodeId) (xs ys : List NodeId) → In n xs → In n (xs ++ ys)
in_left n [] ys h = absurd h
in_left n (x ∷ xs) ys (inl e) = inl e
in_left n (x ∷ xs) ys (inr h) = inr (in_left n xs ys h)

in_right : (n : NodeId) (xs ys : List NodeId) → In n ys → In n (xs ++ ys)
in_right n [] ys h = h
in_right n (x ∷ xs) ys h = inr (in_right n xs ys h)

in_each : (f : NodeId → List NodeId) (y n : NodeId) (xs : List NodeId) → In y xs → In n (f y) → In n (flat_map f xs)
in_each f y n [] there h = absurd there
in_each f y n (x ∷ xs) (inl e) h = in_left n (f x) (flat_map f xs) (subst (λ z. In n (f z)) (sym e) h)
in_each f y n (x ∷ xs) (inr rest) h = in_right n (f x) (flat_map f xs) (in_each f y n xs rest h)

split : (n : NodeId) (xs ys : List NodeId) → In n (xs ++ ys) → In n xs ⊎ In n ys
split n [] ys h = inr h
split n (x ∷ xs) ys (inl e) = inl (inl e)
split n (x ∷ xs) ys (inr h) = more (split n xs ys h) where
  more : In n xs ⊎ In n ys → In n (x ∷ xs) ⊎ In n ys
  more (inl a) = inl (inr a)
  more (inr b) = inr b

-- where a node of lists that are joined comes from
from_each : (f : NodeId → List NodeId) (n : NodeId) (xs : List NodeId) → In n (flat_map f xs) → (y : NodeId) × In y xs × In n (f y)
from_each f n [] h = absurd h
from_each f n (x ∷ xs) h = of (split n (f x) (flat_map f xs) h) (from_each f n xs) where
  of : In n (f x) ⊎ In n (flat_map f xs) → (In n (flat_map f xs) → (y : NodeId) × In y xs × In n (f y)) → (y : NodeId) × In y (x ∷ xs) × In n (f y)
  of (inl a) rest = (x, inl refl, a)
  of (inr b) rest = let found = rest b in (found.0, inr found.1, found.2)

-- what is counted is there
counted_in : (n : NodeId) (xs : List NodeId) → times n xs ≡ 1 → In n xs
counted_in n [] h = absurd (omega (arith, h))
counted_in n (x ∷ xs) h = by (x.0 == n.0) refl (counted_in n xs) where
  by : (b : Bool) → (x.0 == n.0) ≡ b → (times n xs ≡ 1 → In n xs) → In n (x ∷ xs)
  by true e rest = let same : x.0 ≡ n.0 = grind (arith, nat_tests, e) in inl (ap (λ k. let m : NodeId = record { 0 = k } in m) same)
  by false e rest = inr (rest (let step = sum_by-cons (λ (d : NodeId). cond (d.0 == n.0) 1 0) x xs in let none : cond {A = ℕ} (x.0 == n.0) 1 0 ≡ 0 = ap (λ b. cond b 1 0) e in omega (arith, step, none, h)))

-- what is there is no greater than the greatest
most_of : (f : NodeId → ℕ) (n : NodeId) (xs : List NodeId) → In n xs → f n ≤ most (map f xs)
most_of f n [] h = absurd h
most_of f n (x ∷ xs) (inl e) = let same : f x ≡ f n = ap f e in grind (arith, same)
most_of f n (x ∷ xs) (inr h) = let rest = most_of f n xs h in grind (arith, rest)

-- Depths and roots.

module _ (nodes : List Node) where
  -- a depth that doesn't use its fuel up needs less
  depth_steady : (k : ℕ) (n : NodeId) → depth_within (suc k) nodes n ≤ k → depth_within (suc k) nodes n ≡ depth_within k nodes n
  depth_steady zero n h = omega (arith, h)
  depth_steady (suc k) n h = by (parent nodes n) h (depth_steady k) where
    by : (o : Option NodeId) → at_parent 0 (λ p. suc (depth_within (suc k) nodes p)) o ≤ suc k → ((q : NodeId) → depth_within (suc k) nodes q ≤ k → depth_within (suc k) nodes q ≡ depth_within k nodes q)
        → at_parent 0 (λ p. suc (depth_within (suc k) nodes p)) o ≡ at_parent 0 (λ p. suc (depth_within k nodes p)) o
    by None g rest = refl
    by (Some q) g rest = ap (λ d. suc d) (rest q (omega (arith, g)))

  -- then the root doesn't either
  root_steady : (k : ℕ) (n : NodeId) → depth_within (suc k) nodes n ≤ k → root_within (suc k) nodes n ≡ root_within k nodes n
  root_steady zero n h = by (parent nodes n) h where
    by : (o : Option NodeId) → at_parent 0 (λ p. suc (depth_within 0 nodes p)) o ≤ 0 → at_parent n (root_within 0 nodes) o ≡ n
    by None g = refl
    by (Some q) g = absurd (omega (arith, g))
  root_steady (suc k) n h = by (parent nodes n) h (root_steady k) where
    by : (o : Option NodeId) → at_parent 0 (λ p. suc (depth_within (suc k) nodes p)) o ≤ suc k → ((q : NodeId) → depth_within (suc k) nodes q ≤ k → root_within (suc k) nodes q ≡ root_within k nodes q)
        → at_parent n (root_within (suc k) nodes) o ≡ at_parent n (root_within k nodes) o
    by None g rest = refl
    by (Some q) g rest = rest q (omega (arith, g))

  module _ (trees : AreTrees nodes) where
    -- a parent was made
    pub parent_made : (n p : NodeId) → parent nodes n ≡ Some p → p.0 < length nodes
    parent_made n p e = by (nat_lt p.0 (length nodes)) refl where
      by : (b : Bool) → nat_lt p.0 (length nodes) ≡ b → p.0 < length nodes
      by true t = grind (arith, nat_tests, t)
      by false t =
          let none : children nodes p ≡ [] = ap (λ (m : Node). m.children) (get_or_past nodes p.0 no_node (grind (arith, nat_tests, t))) in
          let zero_times : 0 ≡ 1 = ap (times n) (sym none) ∙ trees.once n p e in
          absurd (omega (arith, zero_times))

    -- below its parent a node stands one deeper
    pub depth_up : (n q : NodeId) → parent nodes n ≡ Some q → depth nodes n ≡ suc (depth nodes q)
    unfolding depth
    depth_up n q e = ap (at_parent 0 (λ p. suc (depth_within MOST_TREE_DEPTH nodes p))) e ∙ ap (λ d. suc d) (sym (depth_steady MOST_TREE_DEPTH q (trees.ends q)))

    -- and has its root
    pub root_up : (n q : NodeId) → parent nodes n ≡ Some q → root nodes n ≡ root nodes q
    unfolding root depth
    root_up n q e = ap (at_parent n (root_within MOST_TREE_DEPTH nodes)) e ∙ sym (root_steady MOST_TREE_DEPTH q (trees.ends q))

  -- without a parent it is a root
  pub depth_top : (n : NodeId) → parent nodes n ≡ None → depth nodes n ≡ 0
  unfolding depth
  depth_top n e = ap (at_parent 0 (λ p. suc (depth_within MOST_TREE_DEPTH nodes p))) e

  pub root_top : (n : NodeId) → parent nodes n ≡ None → root nodes n ≡ n
  unfolding root
  root_top n e = ap (at_parent n (root_within MOST_TREE_DEPTH nodes)) e

  -- Walks.

  -- the children of a node of a walk come in the next generation
  walk_step : (k : ℕ) (r q n : NodeId) → In q (walk_within k nodes r) → In n (children nodes q) → In n (walk_within (suc k) nodes r)
  walk_step zero r q n there child = absurd there
  walk_step (suc k) r q n (inl e) child = inr (in_each (walk_within (suc k) nodes) n n (children nodes r) (subst (λ m. In n (children nodes m)) (sym e) child) (inl refl))
  walk_step (suc k) r q n (inr h) child =
      let found = from_each (walk_within k nodes) q (children nodes r) h in
      inr (in_each (walk_within (suc k) nodes) found.0 n (children nodes r) found.1 (walk_step k found.0 q n found.2 child))

  -- a walk through more generations has the nodes of one through fewer
  walk_more : (k : ℕ) (r n : NodeId) → In n (walk_within k nodes r) → In n (walk_within (suc k) nodes r)
  walk_more zero r n h = absurd h
  walk_more (suc k) r n (inl e) = inl e
  walk_more (suc k) r n (inr h) =
      let found = from_each (walk_within k nodes) n (children nodes r) h in
      inr (in_each (walk_within (suc k) nodes) found.0 n (children nodes r) found.1 (walk_more k found.0 n found.2))

  walk_many : (j k : ℕ) (r n : NodeId) → In n (walk_within k nodes r) → In n (walk_within (more j k) nodes r)
  walk_many zero k r n h = h
  walk_many (suc j) k r n h = walk_more (more j k) r n (walk_many j k r n h)

  module _ (trees : AreTrees nodes) where
    -- a node is in the walk from its root through as many generations as it stands deep, and one
    walk_at : (d : ℕ) (n : NodeId) → depth nodes n ≡ d → In n (walk_within (suc d) nodes (root nodes n))
    walk_at zero n e = by (parent nodes n) refl where
      by : (o : Option NodeId) → parent nodes n ≡ o → In n (walk_within 1 nodes (root nodes n))
      by None none = inl (root_top n none)
      by (Some q) some = absurd (let up = depth_up trees n q some in omega (arith, up, e))
    walk_at (suc d) n e = by (parent nodes n) refl (walk_at d) where
      by : (o : Option NodeId) → parent nodes n ≡ o → ((q : NodeId) → depth nodes q ≡ d → In q (walk_within (suc d) nodes (root nodes q))) → In n (walk_within (suc (suc d)) nodes (root nodes n))
      by None none rest = absurd (let top = depth_top n none in omega (arith, top, e))
      by (Some q) some rest =
          let above : depth nodes q ≡ d = let up = depth_up trees n q some in omega (arith, up, e) in
          subst (λ r. In n (walk_within (suc (suc d)) nodes r)) (sym (root_up trees n q some)) (walk_step (suc d) (root nodes q) q n (rest q above) (counted_in n (children nodes q) (trees.once n q some)))

    -- a node is in the walk from its root
    pub in_walk : (n : NodeId) → In n (Walk nodes (root nodes n))
    unfolding Walk
    in_walk n =
        let deep = trees.ends n in
        let e : more (MOST_TREE_DEPTH - depth nodes n) (suc (depth nodes n)) ≡ suc MOST_TREE_DEPTH = more_is (MOST_TREE_DEPTH - depth nodes n) (suc (depth nodes n)) ∙ omega (arith, deep) in
        subst (λ k. In n (walk_within k nodes (root nodes n))) e (walk_many (MOST_TREE_DEPTH - depth nodes n) (suc (depth nodes n)) (root nodes n) n (walk_at (depth nodes n) n refl))

    -- so it stands no deeper than the tree of its root is high
    pub within_height : (n : NodeId) → depth nodes n ≤ height nodes (root nodes n)
    within_height n = most_of (depth nodes) n (Walk nodes (root nodes n)) (in_walk n)
