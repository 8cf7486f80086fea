use Rattle.std.proofs.Common.{subst, sym}
use Rattle.ff_machine.specs.Stores as stores
use Rattle.ff_machine.specs.References.{made}
use Rattle.ff_machine.specs.Valid.{IsVal}
use Rattle.ff_laws.proofs.Acts.{assigned_valid}
use Rattle.ff_stores.specs.Views.{stores_of}
use Rattle.ff_stores.proofs.stores.Stores.assign.Goals as goal

pub invariant_of-self : goal.invariant_of-self
invariant_of-self g c =
    let value = subst (λ (t : stores.Stores). IsVal (made t) c.args.v.now) (sym c.self.view_is) c.requires.value in
    rw c.in-Ok-fault_or_emptied.ensures.done ((assigned_valid (stores_of c.self.inside) c.args.a c.args.x.now c.args.v.now c.self.invariant value c.in-Ok-fault_or_emptied.ensures.answer).stores)
