use Rattle.ff_laws.proofs.Simple.{settled_valid}
use Rattle.ff_stores.specs.Views.{stores_of}
use Rattle.ff_stores.proofs.stores.Stores.settle.Goals as goal

pub invariant_of-self : goal.invariant_of-self
invariant_of-self c = rw c.new.ensures ((settled_valid (stores_of c.self.inside) c.self.invariant).stores)
