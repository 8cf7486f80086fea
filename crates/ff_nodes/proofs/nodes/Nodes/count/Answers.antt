use Rattle.std.proofs.Common.{◌≡◌, length, ap, ◌∙◌, arith}
use Rattle.ff_machine.specs.Nodes.{Node, children}
use Rattle.ff_machine.proofs.Walks.{few_children}
use Rattle.ff_nodes.proofs.nodes.Nodes.count.Goals as goal

pub overflow_cast-result : goal.overflow_cast-result
overflow_cast-result c =
    let few = few_children c.args.self.now c.at.ensures.valid.trees c.args.n in
    let e : c.len.result ≡ length (children c.args.self.now c.args.n) = c.len.ensures ∙ ap length (c.children.ensures ∙ ap (λ (m : Node). m.children) c.at.ensures.value) in
    omega (arith, e, few, c.at.ensures.valid.few)
