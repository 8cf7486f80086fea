use Rattle.std.proofs.Common.{◌<◌, subst, sym, length}
use Rattle.ff_machine.specs.Stores as stores
use Rattle.ff_machine.specs.References.{made}
use Rattle.ff_machine.specs.Valid.{IsCode}
use Rattle.ff_laws.proofs.Texts.{handler_added_valid}
use Rattle.ff_stores.specs.Views.{stores_of}
use Rattle.ff_stores.proofs.stores.Stores.add_handler.Goals as goal

pub invariant_of-self : goal.invariant_of-self
invariant_of-self g c =
    let lives = subst (λ (t : stores.Stores). c.args.n.0 < length t.nodes) (sym c.self.view_is) c.requires.lives in
    let code = subst (λ (t : stores.Stores). IsCode (made t) c.args.code.now) (sym c.self.view_is) c.requires.code in
    rw c.in-Ok-fault_or_emptied.ensures.done ((handler_added_valid (stores_of c.self.inside) c.args.n c.args.code.now c.self.invariant lives code c.in-Ok-fault_or_emptied.ensures.answer).stores)
