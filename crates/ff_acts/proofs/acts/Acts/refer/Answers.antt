use Rattle.std.proofs.Common.{List, sym, subst}
use Rattle.ff_value.specs.declared.ids.ActId.{ActId}
use Rattle.ff_machine.specs.Windows.{Activation, act_at}
use Rattle.ff_machine.specs.References.{ActRefers}
use Rattle.ff_records.specs.Counted.{made}
use Rattle.ff_acts.proofs.Recorded.{of_cells, to_cells}
use Rattle.ff_acts.proofs.acts.Acts.refer.Goals as goal

pub returns : goal.returns
returns c = (
  λ h. subst (λ (acts : List Activation). (a : ActId) → ActRefers (made c.args.counts) (act_at acts a)) c.self.view_is (of_cells (made c.args.counts) c.self.inside.acts c.self.inside.vars c.self.invariant (c.vars_refer.ensures.0 h)),
  λ h. c.vars_refer.ensures.1 (to_cells (made c.args.counts) c.self.inside.acts c.self.inside.vars c.self.invariant (subst (λ (acts : List Activation). (a : ActId) → ActRefers (made c.args.counts) (act_at acts a)) (sym c.self.view_is) h)),
)
