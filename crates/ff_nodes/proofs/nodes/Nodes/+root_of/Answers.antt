use Rattle.std.proofs.Common.{◌≡◌, Some, None, sym, ap, ◌∙◌, arith}
use Rattle.ff_machine.specs.Nodes.{Node, parent}
use Rattle.ff_machine.proofs.Depths.{parent_made, depth_up, root_up, root_top}
use Rattle.ff_nodes.proofs.nodes.Nodes.+root_of.Goals as goal

pub root_of-requires : goal.root_of-requires
root_of-requires t c =
    let all = c.args.self.now in
    let up : parent all c.args.n ≡ Some c.in-Some.parent = sym (c.in-Some.ensures ∙ ap (λ (m : Node). m.parent) c.at.ensures.value) in
    let trees = c.at.ensures.valid.trees in
    (omega (arith, depth_up all trees c.args.n c.in-Some.parent up, trees.ends c.args.n), parent_made all trees c.args.n c.in-Some.parent up)

pub returns-in-Some-clause-value : goal.returns-in-Some-clause-value
returns-in-Some-clause-value t c =
    let all = c.args.self.now in
    let up : parent all c.args.n ≡ Some c.in-Some.parent = sym (c.in-Some.ensures ∙ ap (λ (m : Node). m.parent) c.at.ensures.value) in
    c.root_of.ensures.value ∙ sym (root_up all c.at.ensures.valid.trees c.args.n c.in-Some.parent up)

pub returns-in-None-clause-value : goal.returns-in-None-clause-value
returns-in-None-clause-value t c =
    let all = c.args.self.now in
    let up : parent all c.args.n ≡ None = sym (c.in-None.ensures ∙ ap (λ (m : Node). m.parent) c.at.ensures.value) in
    sym (root_top all c.args.n up)
