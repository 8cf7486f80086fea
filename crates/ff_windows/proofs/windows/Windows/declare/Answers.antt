use Rattle.std.proofs.Common.{◌<◌, length, sym, subst}
use Rattle.ff_windows.proofs.Kept.{declared_kept}
use Rattle.ff_windows.proofs.windows.Windows.declare.Goals as goal

pub invariant_of-self : goal.invariant_of-self
invariant_of-self g c =
    rw c.in-Ok-fault_or_emptied.ensures.done
    (declared_kept _ c.args.a c.args.x.now c.args.v.now c.self.invariant (subst (λ w. c.args.a.0 < length w.acts) (sym c.self.view_is) c.requires.lives) c.requires.name c.requires.value c.in-Ok-fault_or_emptied.ensures.answer)
