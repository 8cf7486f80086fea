-- Nodes with a laid tree more are trees.
use Rattle.std.proofs.Common.{◌≡◌, ℕ, zero, suc, ◌+◌, ◌<◌, ◌≤◌, ◌⊎◌, inl, inr, nat_lt, Bool, true, false, Option, Some, None, List, [], ◌∷◌, length, All, arith, refl, sym, subst, ap, ◌∙◌}
use Rattle.std.proofs.lemmas.Bool.Decides.{nat_tests}
use Rattle.std.proofs.lemmas.List.{length-append, get_or-append-add, get_or_past}
use Rattle.std.proofs.lemmas.List.Elements.{All-nil}
use Rattle.std.proofs.Math.ListN.{get_or-append}
use Rattle.ff_value.specs.declared.ids.NodeId.{NodeId}
use Rattle.ff_machine.specs.declared.limits.TheConstants.{MOST_TREE_DEPTH}
use Rattle.ff_machine.specs.Nodes.{Node, node_at, no_node, children, parent, at_parent, depth, depth_within}
use Rattle.ff_machine.specs.Documents.{Laid, with_tree}
use Rattle.ff_machine.specs.Alone.{AreTrees}
use Rattle.ff_machine.proofs.Depths.{parent_made}
use Rattle.ff_machine.proofs.Numbers.{node}
use Rattle.ff_machine.proofs.Parts.{IsIn, IsPart, IsTop, IsChild, IsLaid, times}

module _ (nodes : List Node) (trees : AreTrees nodes) (d : Laid) (h : ℕ) (is : IsLaid d h) (shallow : h ≤ MOST_TREE_DEPTH) where
  abbrev new : List Node
  new = d.nodes (length nodes) None

  abbrev all : List Node
  all = with_tree nodes d

  total : length all ≡ length nodes + d.size
  total = length-append nodes new ∙ ap (λ k. length nodes + k) (is.sized (length nodes) None)

  part : IsPart all None h (length nodes) d.size (node (length nodes) ∷ [])
  part = is.part all (length nodes) None (λ i less. get_or-append-add nodes new i no_node)

  old_node : (n : NodeId) → n.0 < length nodes → node_at all n ≡ node_at nodes n
  old_node n less = get_or-append nodes new no_node n.0 less

  past_node : (ns : List Node) (n : NodeId) → length ns ≤ n.0 → node_at ns n ≡ no_node
  past_node ns n past = get_or_past ns n.0 no_node past

  -- each number is an old node's, a new one's or none's
  by_age : (P : NodeId → Type 0) → ((n : NodeId) → n.0 < length nodes → P n) → ((n : NodeId) → IsIn (length nodes) d.size n → P n) → ((n : NodeId) → length all ≤ n.0 → P n) → (n : NodeId) → P n
  by_age P old young none n = by (nat_lt n.0 (length nodes)) refl where
    later : length nodes ≤ n.0 → (b : Bool) → nat_lt n.0 (length nodes + d.size) ≡ b → P n
    later low true e = young n (low, grind (arith, nat_tests, e))
    later low false e = none n (let past : length nodes + d.size ≤ n.0 = grind (arith, nat_tests, e) in let t = total in omega (arith, past, t))

    by : (b : Bool) → nat_lt n.0 (length nodes) ≡ b → P n
    by true e = old n (grind (arith, nat_tests, e))
    by false e = later (grind (arith, nat_tests, e)) (nat_lt n.0 (length nodes + d.size)) refl

  depth_old : (f : ℕ) (n : NodeId) → n.0 < length nodes → depth_within f all n ≡ depth_within f nodes n
  depth_old zero n less = refl
  depth_old (suc f) n less = ap (at_parent 0 (λ p. suc (depth_within f all p))) (ap (λ (m : Node). m.parent) (old_node n less)) ∙ by (parent nodes n) refl (depth_old f) where
    by : (o : Option NodeId) → parent nodes n ≡ o → ((p : NodeId) → p.0 < length nodes → depth_within f all p ≡ depth_within f nodes p)
        → at_parent 0 (λ p. suc (depth_within f all p)) o ≡ at_parent 0 (λ p. suc (depth_within f nodes p)) o
    by None e rest = refl
    by (Some p) e rest = ap (λ k. suc k) (rest p (parent_made nodes trees n p e))

  below : (n : NodeId) → All (λ c. c.0 < length all) (children all n)
  below = by_age (λ n. All (λ c. c.0 < length all) (children all n))
      (λ n less. subst (λ cs. All (λ c. c.0 < length all) cs) (sym (ap (λ (m : Node). m.children) (old_node n less))) (λ k c here. let low = trees.below n k c here in let t = total in omega (arith, low, t)))
      (λ n here. subst (λ most. All (λ c. c.0 < most) (children all n)) (sym total) (part.below n here))
      (λ n past. subst (λ cs. All (λ c. c.0 < length all) cs) (sym (ap (λ (m : Node). m.children) (past_node all n past))) (All-nil (λ c. c.0 < length all)))

  agree : (n : NodeId) → All (λ c. parent all c ≡ Some n) (children all n)
  agree = by_age (λ n. All (λ c. parent all c ≡ Some n) (children all n))
      (λ n less. subst (λ cs. All (λ c. parent all c ≡ Some n) cs) (sym (ap (λ (m : Node). m.children) (old_node n less))) (λ k c here. ap (λ (m : Node). m.parent) (old_node _ (trees.below n k c here)) ∙ trees.agree n k c here))
      part.agree
      (λ n past. subst (λ cs. All (λ c. parent all c ≡ Some n) cs) (sym (ap (λ (m : Node). m.children) (past_node all n past))) (All-nil (λ c. parent all c ≡ Some n)))

  young_once : (n p : NodeId) → IsTop all None (node (length nodes) ∷ []) n ⊎ IsChild all n → parent all n ≡ Some p → times n (children all p) ≡ 1
  young_once n p (inl top) e = let none = top.parent_is in cc
  young_once n p (inr child) e = let same : child.of ≡ p = let c = child.parent_is in cc in subst (λ q. times n (children all q) ≡ 1) same child.once

  old_once : (n p : NodeId) → n.0 < length nodes → parent all n ≡ Some p → times n (children all p) ≡ 1
  old_once n p less e =
      let before : parent nodes n ≡ Some p = sym (ap (λ (m : Node). m.parent) (old_node n less)) ∙ e in
      ap (times n) (ap (λ (m : Node). m.children) (old_node p (parent_made nodes trees n p before))) ∙ trees.once n p before

  once : (n p : NodeId) → parent all n ≡ Some p → times n (children all p) ≡ 1
  once n p = by_age (λ n. parent all n ≡ Some p → times n (children all p) ≡ 1)
      (λ n less. old_once n p less)
      (λ n here. young_once n p (part.up n here))
      (λ n past e. let none : parent all n ≡ None = ap (λ (m : Node). m.parent) (past_node all n past) in cc)
      n

  ends : (n : NodeId) → depth all n ≤ MOST_TREE_DEPTH
  unfolding depth
  ends = by_age (λ n. depth_within (suc MOST_TREE_DEPTH) all n ≤ MOST_TREE_DEPTH)
      (λ n less. subst (λ k. k ≤ MOST_TREE_DEPTH) (sym (depth_old (suc MOST_TREE_DEPTH) n less)) (trees.ends n))
      (λ n here. let deep = part.deep 0 (λ f. omega arith) n here (suc MOST_TREE_DEPTH) in omega (arith, deep, shallow))
      (λ n past. subst (λ o. at_parent 0 (λ p. suc (depth_within MOST_TREE_DEPTH all p)) o ≤ MOST_TREE_DEPTH) (sym (ap (λ (m : Node). m.parent) (past_node all n past))) (omega arith))

  -- trees with a tree more are trees
  pub more_trees : AreTrees all
  more_trees = record { below = below; agree = agree; once = once; ends = ends }
