use Rattle.std.proofs.Common.{◌≡◌, ℕ, max, sym, ap, ◌∙◌, arith}
use Rattle.ff_machine.specs.Nodes.{Node, children}
use Rattle.ff_nodes.proofs.Heights.{deepest, height_out, deepest_at, deepest_past}
use Rattle.ff_nodes.proofs.Turns.{deeper, lives}
use Rattle.ff_nodes.proofs.nodes.Nodes.+height.Goals as goal

pub loop-child-init : goal.loop-child-init
loop-child-init t c =
    let all = c.args.self.now in
    let trees = c.at-node.ensures.valid.trees in
    record {
      rest = ap (λ (d : ℕ). max d (deepest all (children all c.args.n))) c.requires.depth ∙ sym (height_out all trees c.args.n);
      bound = let ends = trees.ends c.args.n in omega (arith, c.requires.depth, ends);
    }

pub height-requires : goal.height-requires
height-requires t c =
    let all = c.args.self.now in
    let trees = c.at-node.ensures.valid.trees in
    let items = c.as_slice-child-items.result.now in
    let lent : items ≡ children all c.args.n = c.as_slice-child-items.ensures ∙ c.children.ensures ∙ ap (λ (m : Node). m.children) c.at-node.ensures.value in
    let down = deeper all trees c.args.n items lent c.loop-child.child-index c.loop-child-test.true in
    (omega (arith, down, trees.ends c.args.n), (lives all trees c.args.n items lent c.loop-child.child-index c.loop-child-test.true, omega (arith, down, c.requires.depth)))

pub loop-child-preserved : goal.loop-child-preserved
loop-child-preserved t c =
    let all = c.args.self.now in
    let items = c.as_slice-child-items.result.now in
    let lent : items ≡ children all c.args.n = c.as_slice-child-items.ensures ∙ c.children.ensures ∙ ap (λ (m : Node). m.children) c.at-node.ensures.value in
    let next = deepest_at all c.args.n items lent c.loop-child.child-index c.loop-child-test.true in
    record {
      rest = omega (arith, next, c.loop-child.invariant.rest, c.height.ensures.value, c.max-deepest.ensures);
      bound = omega (arith, c.loop-child.invariant.bound, c.height.ensures.bound, c.max-deepest.ensures);
    }

pub returns-clause-value : goal.returns-clause-value
returns-clause-value t c =
    let all = c.args.self.now in
    let items = c.as_slice-child-items.result.now in
    let lent : items ≡ children all c.args.n = c.as_slice-child-items.ensures ∙ c.children.ensures ∙ ap (λ (m : Node). m.children) c.at-node.ensures.value in
    let past = deepest_past all c.args.n items lent c.loop-child.child-index c.loop-child-test.false in
    omega (arith, past, c.loop-child.invariant.rest)
