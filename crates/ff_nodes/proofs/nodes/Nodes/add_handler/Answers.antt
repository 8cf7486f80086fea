use Rattle.std.proofs.Common.{◌≡◌, ◌<◌, true, List, [], ◌∷◌, ◌++◌, length, sym, subst, ap, ◌∙◌, arith}
use Rattle.ff_value.specs.declared.value.Code.{Code}
use Rattle.ff_machine.specs.Shapes.{may_have_handlers}
use Rattle.ff_machine.specs.Nodes.{Node, node_at, no_node}
use Rattle.ff_machine.specs.Alone.{IsNode}
use Rattle.ff_machine.proofs.Changes.{handler_node}
use Rattle.ff_nodes.proofs.CellChanges.{no_handler_fault}
use Rattle.ff_nodes.proofs.nodes.Nodes.add_handler.Goals as goal

pub change-requires-clause-valid : goal.change-requires-clause-valid
change-requires-clause-valid g c =
    let all = c.args.self.now in
    let is : c.at-node.result.now ≡ node_at all c.args.n = c.at-node.ensures.value in
    let may : may_have_handlers (node_at all c.args.n).shape ≡ true = sym (c.may_have_handlers.ensures ∙ ap (λ (m : Node). may_have_handlers m.shape) is) ∙ (cc) in
    let one : length c.args.code.now.params ≡ 1 = (cc) in
    let few : length (node_at all c.args.n).handlers < 16 = let e : c.len-2.result ≡ length (node_at all c.args.n).handlers = c.len-2.ensures ∙ ap length (c.handlers.ensures ∙ ap (λ (m : Node). m.handlers) is) in omega (arith, e) in
    subst IsNode (ap (λ (hs : List Code). let x : Node = record (node_at all c.args.n) { handlers = hs } in x) (sym (c.in_ok-handlers.ensures ∙ ap (λ (m : Node). m.handlers ++ c.args.code.now ∷ []) is)))
    (handler_node all c.args.n c.args.code.now (c.at-node.ensures.valid.each c.args.n.0 no_node c.requires.lives) c.requires.spelled (no_handler_fault all c.args.n c.args.code.now may one few))
