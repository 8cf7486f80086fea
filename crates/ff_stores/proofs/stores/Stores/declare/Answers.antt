use Rattle.std.proofs.Common.{◌<◌, subst, sym, length}
use Rattle.ff_machine.specs.Stores as stores
use Rattle.ff_machine.specs.References.{made}
use Rattle.ff_machine.specs.Valid.{IsVal}
use Rattle.ff_laws.proofs.Acts.{declared_valid}
use Rattle.ff_stores.specs.Views.{stores_of}
use Rattle.ff_stores.proofs.stores.Stores.declare.Goals as goal

pub invariant_of-self : goal.invariant_of-self
invariant_of-self g c =
    let lives = subst (λ (t : stores.Stores). c.args.a.0 < length t.windows.acts) (sym c.self.view_is) c.requires.lives in
    let value = subst (λ (t : stores.Stores). IsVal (made t) c.args.v.now) (sym c.self.view_is) c.requires.value in
    rw c.in-Ok-fault_or_emptied.ensures.done ((declared_valid (stores_of c.self.inside) c.args.a c.args.x.now c.args.v.now c.self.invariant lives c.requires.name value c.in-Ok-fault_or_emptied.ensures.answer).stores)
