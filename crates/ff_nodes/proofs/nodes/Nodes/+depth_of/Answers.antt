use Rattle.std.proofs.Common.{◌≡◌, Some, None, sym, ap, ◌∙◌, arith}
use Rattle.ff_machine.specs.Nodes.{Node, parent}
use Rattle.ff_machine.proofs.Depths.{parent_made, depth_up, depth_top}
use Rattle.ff_nodes.proofs.nodes.Nodes.+depth_of.Goals as goal

pub depth_of-requires : goal.depth_of-requires
depth_of-requires t c =
    let all = c.args.self.now in
    let up : parent all c.args.n ≡ Some c.in-Some.parent = sym (c.in-Some.ensures ∙ ap (λ (m : Node). m.parent) c.at.ensures.value) in
    let trees = c.at.ensures.valid.trees in
    (omega (arith, depth_up all trees c.args.n c.in-Some.parent up, trees.ends c.args.n), parent_made all trees c.args.n c.in-Some.parent up)

pub returns-in-Some-clause-value : goal.returns-in-Some-clause-value
returns-in-Some-clause-value t c =
    let all = c.args.self.now in
    let up : parent all c.args.n ≡ Some c.in-Some.parent = sym (c.in-Some.ensures ∙ ap (λ (m : Node). m.parent) c.at.ensures.value) in
    omega (arith, c.depth_of.ensures.value, depth_up all c.at.ensures.valid.trees c.args.n c.in-Some.parent up)

pub returns-in-Some-clause-bound : goal.returns-in-Some-clause-bound
returns-in-Some-clause-bound t c =
    let all = c.args.self.now in
    let up : parent all c.args.n ≡ Some c.in-Some.parent = sym (c.in-Some.ensures ∙ ap (λ (m : Node). m.parent) c.at.ensures.value) in
    let trees = c.at.ensures.valid.trees in
    omega (arith, c.depth_of.ensures.value, depth_up all trees c.args.n c.in-Some.parent up, trees.ends c.args.n)

pub returns-in-None-clause-value : goal.returns-in-None-clause-value
returns-in-None-clause-value t c =
    let all = c.args.self.now in
    let up : parent all c.args.n ≡ None = sym (c.in-None.ensures ∙ ap (λ (m : Node). m.parent) c.at.ensures.value) in
    sym (depth_top all c.args.n up)
