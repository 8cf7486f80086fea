use Rattle.std.proofs.Common.{◌<◌, subst, sym, length}
use Rattle.ff_machine.specs.Stores as stores
use Rattle.ff_laws.proofs.NodeChanges.{started_valid}
use Rattle.ff_stores.specs.Views.{stores_of}
use Rattle.ff_stores.proofs.stores.Stores.mark_started.Goals as goal

pub invariant_of-self : goal.invariant_of-self
invariant_of-self g c =
    let lives = subst (λ (t : stores.Stores). c.args.n.0 < length t.nodes) (sym c.self.view_is) c.requires in
    rw c.in-Ok-or_emptied.ensures.done ((started_valid (stores_of c.self.inside) c.args.n c.self.invariant lives).stores)
