use Rattle.std.proofs.Common.{◌<◌, length, subst, sym}
use Rattle.ff_machine.specs.Stores as stores
use Rattle.ff_stores.specs.Views.{stores_of}
use Rattle.ff_stores.proofs.Changed.{pop_valid}
use Rattle.ff_stores.proofs.stores.Stores.pop_ready.Goals as goal

pub invariant_of-self : goal.invariant_of-self
invariant_of-self g c =
    let lives = subst (λ (t : stores.Stores). c.args.page.0 < length t.windows.pages) (sym c.self.view_is) c.requires in
    pop_valid (stores_of c.self.inside) c.args.page c.in-Ok-Some.field-0 c.pop_ready.new.self c.self.invariant lives c.in-Ok-Some.ensures.done
