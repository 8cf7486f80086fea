-- How deep the deepest node of a tree stands, by the children of a node.
use Rattle.std.proofs.Common.{◌≡◌, ℕ, ◌+◌, ◌<◌, ◌≤◌, max, List, [], ◌∷◌, ◌++◌, map, flat_map, length, get_or, drop, arith, refl, subst, ap, ◌∙◌}
use Rattle.std.proofs.lemmas.List.{map-append}
use Rattle.ff_tree.specs.Spelled.{most}
use Rattle.ff_value.specs.declared.ids.NodeId.{NodeId}
use Rattle.ff_machine.specs.Nodes.{Node, Walk, children, depth, height}
use Rattle.ff_machine.specs.Alone.{AreTrees}
use Rattle.ff_nodes.proofs.Below.{walk_out}
use Rattle.ff_nodes.proofs.Searching.{each_next, each_past}

-- the greatest number of two lists is the greater one of theirs
most_both : (xs ys : List ℕ) → most (xs ++ ys) ≡ max (most xs) (most ys)
most_both [] ys = omega arith
most_both (x ∷ xs) ys = let rest = most_both xs ys in omega (arith, rest)

-- how deep the deepest node of some trees stands
abbrev pub deepest : List Node → List NodeId → ℕ
deepest nodes cs = most (map (depth nodes) (flat_map (Walk nodes) cs))

module _ (nodes : List Node) (trees : AreTrees nodes) where
  -- of a tree it is its root, or one below
  pub height_out : (n : NodeId) → height nodes n ≡ max (depth nodes n) (deepest nodes (children nodes n))
  height_out n = ap (λ ns. most (map (depth nodes) ns)) (walk_out nodes trees n)

-- of the trees from a place on it is in the next one, or after it
deepest_next : (nodes : List Node) (cs : List NodeId) (i : ℕ) (d : NodeId) → i < length cs → deepest nodes (drop i cs) ≡ max (height nodes (get_or cs i d)) (deepest nodes (drop (i + 1) cs))
deepest_next nodes cs i d here =
    ap (λ ns. most (map (depth nodes) ns)) (each_next (Walk nodes) cs i (i + 1) d refl here)
    ∙ ap most (map-append (depth nodes) (Walk nodes (get_or cs i d)) (flat_map (Walk nodes) (drop (i + 1) cs)))
    ∙ most_both (map (depth nodes) (Walk nodes (get_or cs i d))) (map (depth nodes) (flat_map (Walk nodes) (drop (i + 1) cs)))

-- The children of a node, as the items of a list that is lent.
module _ (nodes : List Node) (n : NodeId) (items : List NodeId) (lent : items ≡ children nodes n) (i : ℕ) where
  -- of those from a place on it is below the next one, or after it
  pub deepest_at : i < length items → deepest nodes (drop i (children nodes n)) ≡ max (height nodes (get_or items i (record { 0 = 0 }))) (deepest nodes (drop (i + 1) (children nodes n)))
  deepest_at here = subst (λ (cs : List NodeId). deepest nodes (drop i cs) ≡ max (height nodes (get_or items i (record { 0 = 0 }))) (deepest nodes (drop (i + 1) cs))) lent (deepest_next nodes items i (record { 0 = 0 }) here)

  -- past the last there is none
  pub deepest_past : length items ≤ i → deepest nodes (drop i (children nodes n)) ≡ 0
  deepest_past past = subst (λ (cs : List NodeId). deepest nodes (drop i cs) ≡ 0) lent (ap (λ ns. most (map (depth nodes) ns)) (each_past (Walk nodes) items i past))
