use Rattle.ff_windows.proofs.Kept.{assigned_kept}
use Rattle.ff_windows.proofs.windows.Windows.assign.Goals as goal

pub invariant_of-self : goal.invariant_of-self
invariant_of-self g c = rw c.in-Ok-fault_or_emptied.ensures.done (assigned_kept _ c.args.a c.args.x.now c.args.v.now c.self.invariant c.requires.value)
