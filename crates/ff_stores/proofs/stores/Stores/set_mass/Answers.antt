use Rattle.ff_laws.proofs.Simple.{mass_changed}
use Rattle.ff_stores.specs.Views.{stores_of}
use Rattle.ff_stores.proofs.stores.Stores.set_mass.Goals as goal

pub invariant_of-self : goal.invariant_of-self
invariant_of-self c = (mass_changed (stores_of c.self.inside) c.args.mass c.self.invariant c.requires).stores
