-- Walks of valid trees, and what is shown of them, by the children of a node.
use Rattle.std.proofs.Common.{◌≡◌, ℕ, zero, suc, ◌+◌, ◌<◌, List, [], ◌∷◌, ◌++◌, length, flat_map, get_or, arith, refl, sym, ap, ◌∙◌}
use Rattle.std.specs.List.{AllByRecursion}
use Rattle.std.proofs.lemmas.List.Elements.{recursion_from_All}
use Rattle.ff_value.specs.declared.ids.NodeId.{NodeId}
use Rattle.ff_value.specs.declared.output.ShownPart.{ShownPart}
use Rattle.ff_machine.specs.declared.limits.TheConstants.{MOST_TREE_DEPTH}
use Rattle.ff_machine.specs.Shapes.{shown_as}
use Rattle.ff_machine.specs.Nodes.{Node, Walk, walk_within, node_at, children, depth, shown, shown_within}
use Rattle.ff_machine.specs.Alone.{AreTrees}
use Rattle.ff_machine.proofs.Depths.{depth_up}

-- lists that agree at each element, put together
pub same_each : {X Y : Type 0} (f g : X → List Y) (xs : List X) → AllByRecursion (λ x. f x ≡ g x) xs → flat_map f xs ≡ flat_map g xs
same_each f g [] h = refl
same_each f g (x ∷ xs) h = ap (λ ys. ys ++ flat_map f xs) h.0 ∙ ap (λ ys. g x ++ ys) (same_each f g xs h.1)

module _ (nodes : List Node) (trees : AreTrees nodes) where
  -- a child stands one deeper than its parent
  pub depth_child : (n : NodeId) (i : ℕ) (d : NodeId) → i < length (children nodes n) → depth nodes (get_or (children nodes n) i d) ≡ suc (depth nodes n)
  depth_child n i d here = depth_up nodes trees (get_or (children nodes n) i d) n (trees.agree n i d here)

  -- a walk through as many generations as there may be is one through more
  walk_steady : (k : ℕ) (n : NodeId) → MOST_TREE_DEPTH < k + depth nodes n → walk_within (suc k) nodes n ≡ walk_within k nodes n
  walk_steady zero n h = absurd (let ends = trees.ends n in omega (arith, ends, h))
  walk_steady (suc k) n h =
      ap (λ ms. n ∷ ms) (same_each (walk_within (suc k) nodes) (walk_within k nodes) (children nodes n) (recursion_from_All (λ c. walk_within (suc k) nodes c ≡ walk_within k nodes c) (children nodes n) (λ i d here. walk_steady k (get_or (children nodes n) i d) (let deep = depth_child n i d here in omega (arith, deep, h)))))

  -- a walk is the node, and the walks of its children
  pub walk_out : (n : NodeId) → Walk nodes n ≡ n ∷ flat_map (Walk nodes) (children nodes n)
  unfolding Walk
  walk_out n =
      ap (λ ms. n ∷ ms) (sym (same_each (walk_within (suc MOST_TREE_DEPTH) nodes) (walk_within MOST_TREE_DEPTH nodes) (children nodes n) (recursion_from_All (λ c. walk_within (suc MOST_TREE_DEPTH) nodes c ≡ walk_within MOST_TREE_DEPTH nodes c) (children nodes n) (λ i d here. walk_steady MOST_TREE_DEPTH (get_or (children nodes n) i d) (let deep = depth_child n i d here in omega (arith, deep))))))

  -- what is shown of a child, where its own children are shown through so many generations
  abbrev shown_part_within : ℕ → NodeId → List ShownPart
  shown_part_within k c = shown_as (node_at nodes c).shape (shown_within k nodes c)

  shown_steady : (k : ℕ) (n : NodeId) → MOST_TREE_DEPTH < k + depth nodes n → shown_within (suc k) nodes n ≡ shown_within k nodes n
  shown_steady zero n h = absurd (let ends = trees.ends n in omega (arith, ends, h))
  shown_steady (suc k) n h =
      same_each (shown_part_within (suc k)) (shown_part_within k) (children nodes n) (recursion_from_All (λ c. shown_part_within (suc k) c ≡ shown_part_within k c) (children nodes n) (λ i d here. ap (shown_as (node_at nodes (get_or (children nodes n) i d)).shape) (shown_steady k (get_or (children nodes n) i d) (let deep = depth_child n i d here in omega (arith, deep, h)))))

  -- what is shown of a node
  abbrev pub shown_part : NodeId → List ShownPart
  shown_part c = shown_as (node_at nodes c).shape (shown nodes c)

  -- what is shown of a node is what is shown of its children
  pub shown_out : (n : NodeId) → shown nodes n ≡ flat_map shown_part (children nodes n)
  unfolding shown
  shown_out n =
      sym (same_each (shown_part_within (suc MOST_TREE_DEPTH)) (shown_part_within MOST_TREE_DEPTH) (children nodes n) (recursion_from_All (λ c. shown_part_within (suc MOST_TREE_DEPTH) c ≡ shown_part_within MOST_TREE_DEPTH c) (children nodes n) (λ i d here. ap (shown_as (node_at nodes (get_or (children nodes n) i d)).shape) (shown_steady MOST_TREE_DEPTH (get_or (children nodes n) i d) (let deep = depth_child n i d here in omega (arith, deep))))))
