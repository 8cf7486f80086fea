use Rattle.std.proofs.Common.{◌<◌, subst, sym, length, All}
use Rattle.ff_machine.specs.Stores as stores
use Rattle.ff_machine.specs.References.{made}
use Rattle.ff_machine.specs.Valid.{IsVal}
use Rattle.ff_laws.proofs.Calling.{called_valid}
use Rattle.ff_stores.specs.Views.{stores_of}
use Rattle.ff_stores.proofs.stores.Stores.new_act.Goals as goal

pub invariant_of-self : goal.invariant_of-self
invariant_of-self g c =
    let lives = subst (λ (t : stores.Stores). c.args.parent.0 < length t.windows.acts) (sym c.self.view_is) c.requires.lives in
    let values = subst (λ (t : stores.Stores). All (IsVal (made t)) c.args.args.now) (sym c.self.view_is) c.requires.values in
    rw c.in-Ok-fault_or_emptied.ensures.done ((called_valid (stores_of c.self.inside) c.args.parent c.args.params.now c.args.args.now c.self.invariant lives c.requires.names values c.in-Ok-fault_or_emptied.ensures.answer).stores)
