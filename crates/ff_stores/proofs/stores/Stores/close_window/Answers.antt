use Rattle.ff_laws.proofs.Slots.{closed_valid}
use Rattle.ff_stores.specs.Views.{stores_of}
use Rattle.ff_stores.proofs.stores.Stores.close_window.Goals as goal

pub invariant_of-self : goal.invariant_of-self
invariant_of-self g c = rw c.in-Ok.ensures.done ((closed_valid (stores_of c.self.inside) c.args.window c.self.invariant).stores)
