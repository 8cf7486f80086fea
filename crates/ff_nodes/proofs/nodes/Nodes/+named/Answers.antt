use Rattle.std.proofs.Common.{◌≡◌, true, false, sym, ap, ◌∙◌, arith}
use Rattle.ff_machine.specs.Shapes.{name_of}
use Rattle.ff_machine.specs.Nodes.{Node, node_at, is_name, children}
use Rattle.ff_nodes.proofs.Turns.{named_here, named_below, deeper, lives, named_in_next, named_after_next}
use Rattle.ff_nodes.proofs.nodes.Nodes.+named.Goals as goal

pub returns-then-is_named : goal.returns-then-is_named
returns-then-is_named t c =
    let x = c.args.name.now in
    let is : is_name x (name_of (node_at c.args.self.now c.args.root).shape) ≡ true = sym (c.is_named.ensures ∙ ap (λ (m : Node). is_name x (name_of m.shape)) c.at-node.ensures.value) ∙ c.if-is_named.true in
    sym (named_here c.args.self.now c.at-node.ensures.valid.trees c.args.root x is)

pub loop-child-init : goal.loop-child-init
loop-child-init t c =
    let x = c.args.name.now in
    let is : is_name x (name_of (node_at c.args.self.now c.args.root).shape) ≡ false = sym (c.is_named.ensures ∙ ap (λ (m : Node). is_name x (name_of m.shape)) c.at-node.ensures.value) ∙ c.if-is_named.false in
    named_below c.args.self.now c.at-node.ensures.valid.trees c.args.root x is

pub named-requires : goal.named-requires
named-requires t c =
    let all = c.args.self.now in
    let trees = c.at-node.ensures.valid.trees in
    let items = c.as_slice-child-items.result.now in
    let lent : items ≡ children all c.args.root = c.as_slice-child-items.ensures ∙ c.children.ensures ∙ ap (λ (m : Node). m.children) c.at-node.ensures.value in
    (omega (arith, deeper all trees c.args.root items lent c.loop-child.child-index c.loop-child-test.true, trees.ends c.args.root), (lives all trees c.args.root items lent c.loop-child.child-index c.loop-child-test.true, (c.requires.bit, c.requires.small)))

pub returns-in-Some : goal.returns-in-Some
returns-in-Some t c =
    let all = c.args.self.now in
    let items = c.as_slice-child-items.result.now in
    let lent : items ≡ children all c.args.root = c.as_slice-child-items.ensures ∙ c.children.ensures ∙ ap (λ (m : Node). m.children) c.at-node.ensures.value in
    sym (c.loop-child.invariant ∙ named_in_next all c.at-node.ensures.valid.trees c.args.root items lent c.loop-child.child-index c.loop-child-test.true c.args.name.now c.in-Some.found (sym c.in-Some.ensures))

pub loop-child-preserved : goal.loop-child-preserved
loop-child-preserved t c =
    let all = c.args.self.now in
    let items = c.as_slice-child-items.result.now in
    let lent : items ≡ children all c.args.root = c.as_slice-child-items.ensures ∙ c.children.ensures ∙ ap (λ (m : Node). m.children) c.at-node.ensures.value in
    c.loop-child.invariant ∙ named_after_next all c.at-node.ensures.valid.trees c.args.root items lent c.loop-child.child-index c.loop-child-test.true c.args.name.now (sym c.in_default.ensures)
