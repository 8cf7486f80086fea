use Rattle.std.proofs.Common.{◌≡◌, None, sym, subst, ◌∙◌}
use Rattle.ff_machine.specs.Nodes.{text_fault}
use Rattle.ff_machine.specs.State.{State}
use Rattle.ff_core.proofs.Pointed.{box_has_text}
use Rattle.ff_core.proofs.parts.Parts.types.Goals as goal

pub type_text-requires-clause-has_text : goal.type_text-requires-clause-has_text
type_text-requires-clause-has_text g c =
    subst (λ (t : State). text_fault t.stores.nodes c.in-Some.field ≡ None) (sym c.self.view_is)
    (box_has_text c.args.self.now c.args.window c.in-Some.field c.args.n (sym c.node_of.ensures.value ∙ c.in-Some.is))
