use Rattle.std.proofs.Common.{◌<◌, length, sym, subst}
use Rattle.ff_windows.proofs.Kept.{called_kept}
use Rattle.ff_windows.proofs.windows.Windows.new_act.Goals as goal

pub invariant_of-self : goal.invariant_of-self
invariant_of-self g c =
    rw c.in-Ok-fault_or_emptied.ensures.done
    (called_kept _ c.args.parent c.args.params.now c.args.args.now c.self.invariant (subst (λ w. c.args.parent.0 < length w.acts) (sym c.self.view_is) c.requires.lives) c.requires.names c.requires.values c.in-Ok-fault_or_emptied.ensures.answer)
