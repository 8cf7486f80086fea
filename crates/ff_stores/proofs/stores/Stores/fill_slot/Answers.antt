use Rattle.std.proofs.Common.{◌<◌, subst, sym, length}
use Rattle.ff_machine.specs.Stores as stores
use Rattle.ff_laws.proofs.Slots.{filled_valid}
use Rattle.ff_stores.specs.Views.{stores_of}
use Rattle.ff_stores.proofs.stores.Stores.fill_slot.Goals as goal

pub invariant_of-self : goal.invariant_of-self
invariant_of-self g c =
    let lives = subst (λ (t : stores.Stores). c.args.page.0 < length t.windows.pages) (sym c.self.view_is) c.requires.page in
    rw c.in-Ok-or_emptied.ensures.done ((filled_valid (stores_of c.self.inside) c.args.page c.args.slot c.args.body.now c.self.invariant lives c.requires.spelled).stores)
