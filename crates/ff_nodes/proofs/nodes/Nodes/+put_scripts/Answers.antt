use Rattle.std.proofs.Common.{◌≡◌, ◌≤◌, length, subst, Vec, Global, List, [], ◌∷◌, ◌++◌, sym, ap, ◌∙◌, arith, append_assoc, append-nil}
use Rattle.ff_value.specs.declared.ids.NodeId.{NodeId}
use Rattle.ff_machine.specs.Shapes.{is_unstarted}
use Rattle.ff_machine.specs.Nodes.{Node, children}
use Rattle.ff_nodes.proofs.Lacking.{no_scripts}
use Rattle.ff_nodes.proofs.Rest.{scripts_from}
use Rattle.ff_nodes.proofs.Turns.{scripts_here, scripts_below, scripts_past, deeper, lives}
use Rattle.ff_nodes.proofs.nodes.Nodes.+put_scripts.Goals as goal
use Rattle.ff_nodes.proofs.nodes.Nodes.+put_scripts.Goals.{then-is_unstarted+in_ok-push, else-is_unstarted}

pub returns-then-lacks_kind-2 : goal.returns-then-lacks_kind-2
returns-then-lacks_kind-2 t c =
    let none = no_scripts c.args.self.now c.args.root (c.lacks_kind.ensures c.if-lacks_kind.true) (c.lacks_kind-then-lacks_kind.ensures c.if-lacks_kind-2.true) in
    sym (ap (λ (l : List NodeId). c.args.found.now.items ++ l) none ∙ append-nil c.args.found.now.items)

pub put_scripts-requires : goal.put_scripts-requires
put_scripts-requires t c =
    let all = c.args.self.now in
    let trees = c.at-node.ensures.valid.trees in
    let items = c.as_slice-child-items.result.now in
    let lent : items ≡ children all c.args.root = c.as_slice-child-items.ensures ∙ c.children.ensures ∙ ap (λ (m : Node). m.children) c.at-node.ensures.value in
    (omega (arith, deeper all trees c.args.root items lent c.loop-child.child-index c.loop-child-test.true, trees.ends c.args.root), lives all trees c.args.root items lent c.loop-child.child-index c.loop-child-test.true)

pub returns : goal.returns
returns t c =
    let all = c.args.self.now in
    let trees = c.at-node.ensures.valid.trees in
    let cs = children all c.args.root in
    let old = c.args.found.now.items in
    let last = c.loop-child.found.items in
    let items = c.as_slice-child-items.result.now in
    let lent : items ≡ cs = c.as_slice-child-items.ensures ∙ c.children.ensures ∙ ap (λ (m : Node). m.children) c.at-node.ensures.value in
    let past = scripts_past all trees c.args.root c.loop-child.child-index (subst (λ (l : List NodeId). length l ≤ c.loop-child.child-index) lent c.loop-child-test.false) in
    let found : last ≡ c.if-is_unstarted.found.items ++ scripts_from all cs = sym (ap (λ (l : List NodeId). last ++ l) past ∙ append-nil last) ∙ c.loop-child.invariant in
    let test = sym (c.is_unstarted.ensures ∙ ap (λ (m : Node). is_unstarted m.shape) c.at-node.ensures.value) in
    elim c.if-is_unstarted.branch [
      | then-is_unstarted+in_ok-push w ↦
          let start : c.if-is_unstarted.found.items ≡ old ++ c.args.root ∷ [] = ap (λ (v : Vec NodeId Global). v.items) w.found-is ∙ w.in_ok-push.ensures.items in
          found ∙ ap (λ (l : List NodeId). l ++ scripts_from all cs) start ∙ append_assoc old (c.args.root ∷ []) (scripts_from all cs) ∙ ap (λ (l : List NodeId). old ++ l) (sym (scripts_here all trees c.args.root (test ∙ w.if-is_unstarted.true)))
      | else-is_unstarted w ↦
          let start : c.if-is_unstarted.found.items ≡ old = ap (λ (v : Vec NodeId Global). v.items) w.found-is in
          found ∙ ap (λ (l : List NodeId). l ++ scripts_from all cs) start ∙ ap (λ (l : List NodeId). old ++ l) (sym (scripts_below all trees c.args.root (test ∙ w.if-is_unstarted.false)))
    ]
