-- How deep nodes stand, by their parents alone.
use Rattle.std.proofs.Common.{◌≡◌, ℕ, zero, suc, ◌+◌, ◌-◌, ◌<◌, ◌≤◌, Option, Some, None, List, length, refl, sym, ap, ◌∙◌, arith}
use Rattle.std.proofs.Math.ListN.{get_or-map}
use Rattle.ff_value.specs.declared.ids.NodeId.{NodeId}
use Rattle.ff_machine.specs.declared.limits.TheConstants.{MOST_TREE_DEPTH}
use Rattle.ff_machine.specs.Nodes.{Node, no_node, parent, at_parent, depth, depth_within}
use Rattle.ff_nodes.specs.Recorded.{bare, parent_at}

-- nodes of equal parents stand equally deep
same_within : (xs ys : List Node) → ((m : NodeId) → parent xs m ≡ parent ys m) → (k : ℕ) (n : NodeId) → depth_within k xs n ≡ depth_within k ys n
same_within xs ys same zero n = refl
same_within xs ys same (suc k) n = ap (at_parent 0 (λ p. suc (depth_within k xs p))) (same n) ∙ by (parent ys n) (same_within xs ys same k) where
  by : (o : Option NodeId) → ((p : NodeId) → depth_within k xs p ≡ depth_within k ys p) → at_parent 0 (λ p. suc (depth_within k xs p)) o ≡ at_parent 0 (λ p. suc (depth_within k ys p)) o
  by None rest = refl
  by (Some p) rest = ap (λ d. suc d) (rest p)

pub same_depth : (xs ys : List Node) → ((m : NodeId) → parent xs m ≡ parent ys m) → (n : NodeId) → depth xs n ≡ depth ys n
unfolding depth
same_depth xs ys same n = same_within xs ys same (suc MOST_TREE_DEPTH) n

-- the parent that is kept is that of the bare node
pub bare_parent : (ps : List (Option NodeId)) (n : NodeId) → parent (bare ps) n ≡ parent_at ps n.0
bare_parent ps n = ap (λ (m : Node). m.parent) (get_or-map (λ (p : Option NodeId). let node : Node = record no_node { parent = p } in node) ps n.0 None)

-- Steps upwards.

-- so many steps led to a node
pub record Climbs (ps : List (Option NodeId)) (n : NodeId) (steps : ℕ) (at : ℕ) : Type 0 where
  pub there : at < length ps
  pub few : steps ≤ suc MOST_TREE_DEPTH
  pub depth : depth (bare ps) n ≡ steps + depth_within (suc MOST_TREE_DEPTH - steps) (bare ps) (record { 0 = at })

zero_plus : (n : ℕ) → n ≡ 0 + n
zero_plus n = omega arith

pub climb_begun : (ps : List (Option NodeId)) (n : ℕ) → n < length ps → Climbs ps (record { 0 = n }) 0 n
unfolding depth
climb_begun ps n less = record { there = less; few = omega arith; depth = zero_plus (depth_within (suc MOST_TREE_DEPTH) (bare ps) (record { 0 = n })) }

module _ (ps : List (Option NodeId)) (n : NodeId) (steps at : ℕ) (climbs : Climbs ps n steps at) (more : steps < suc MOST_TREE_DEPTH) where
  left : suc MOST_TREE_DEPTH - steps ≡ suc (MOST_TREE_DEPTH - steps)
  left = omega (arith, more)

  next : depth_within (suc MOST_TREE_DEPTH - steps) (bare ps) (record { 0 = at }) ≡ at_parent 0 (λ p. suc (depth_within (MOST_TREE_DEPTH - steps) (bare ps) p)) (parent_at ps at)
  next = ap (λ k. depth_within k (bare ps) (record { 0 = at })) left ∙ ap (at_parent 0 (λ p. suc (depth_within (MOST_TREE_DEPTH - steps) (bare ps) p))) (bare_parent ps (record { 0 = at }))

  -- at the top
  pub climb_ended : parent_at ps at ≡ None → steps ≡ depth (bare ps) n
  climb_ended top = let none = next ∙ ap (at_parent 0 (λ p. suc (depth_within (MOST_TREE_DEPTH - steps) (bare ps) p))) top in omega (arith, climbs.depth, none)

  -- a step more
  pub climb_more : (p : NodeId) → parent_at ps at ≡ Some p → p.0 < length ps → Climbs ps n (steps + 1) p.0
  climb_more p up there =
      let one = next ∙ ap (at_parent 0 (λ q. suc (depth_within (MOST_TREE_DEPTH - steps) (bare ps) q))) up in
      let same : suc MOST_TREE_DEPTH - (steps + 1) ≡ MOST_TREE_DEPTH - steps = omega (arith, more) in
      let rest = ap (λ k. depth_within k (bare ps) p) (sym same) in
      record { there = there; few = omega (arith, more); depth = omega (arith, climbs.depth, one, rest) }

-- no top was found
pub climb_deep : (ps : List (Option NodeId)) (n : NodeId) (steps at : ℕ) → Climbs ps n steps at → suc MOST_TREE_DEPTH ≤ steps → MOST_TREE_DEPTH < depth (bare ps) n
climb_deep ps n steps at climbs past = omega (arith, climbs.depth, past)
