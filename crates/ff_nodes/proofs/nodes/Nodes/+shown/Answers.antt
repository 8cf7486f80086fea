use Rattle.std.proofs.Common.{◌≡◌, ◌++◌, List, sym, ap, ◌∙◌, arith}
use Rattle.ff_value.specs.declared.output.ShownPart.{ShownPart}
use Rattle.ff_machine.specs.Nodes.{Node, children}
use Rattle.ff_nodes.proofs.Rest.{shown_from}
use Rattle.ff_nodes.proofs.Turns.{shown_below, deeper, lives}
use Rattle.ff_nodes.proofs.nodes.Nodes.+shown.Goals as goal

pub shown-loop-child-init : goal.shown-loop-child-init
shown-loop-child-init t c =
    let all = c.args.self.now in
    ap (λ (l : List ShownPart). l ++ shown_from all (children all c.args.root)) c.new-parts.ensures.items ∙ sym (shown_below all c.at.ensures.valid.trees c.args.root)

pub shown-put_shown_part-requires : goal.shown-put_shown_part-requires
shown-put_shown_part-requires t c =
    let all = c.args.self.now in
    let trees = c.at.ensures.valid.trees in
    let items = c.as_slice-child-items.result.now in
    let lent : items ≡ children all c.args.root = c.as_slice-child-items.ensures ∙ c.children.ensures ∙ ap (λ (m : Node). m.children) c.at.ensures.value in
    (omega (arith, deeper all trees c.args.root items lent c.loop-child.child-index c.loop-child-test.true, trees.ends c.args.root), lives all trees c.args.root items lent c.loop-child.child-index c.loop-child-test.true)
