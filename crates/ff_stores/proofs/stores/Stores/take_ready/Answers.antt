use Rattle.std.proofs.Common.{◌≡◌, ◌<◌, Some, length, subst}
use Rattle.ff_machine.specs.Stores as stores
use Rattle.ff_machine.specs.Windows as windows
use Rattle.ff_stores.specs.Views.{stores_of}
use Rattle.ff_stores.proofs.Ready.{ready_lives}
use Rattle.ff_stores.proofs.stores.Stores.take_ready.Goals as goal

pub pop_ready-requires : goal.pop_ready-requires
pop_ready-requires g c =
    let is : windows.ready c.self.inside.windows ≡ Some c.in-Some.page = cc (c.ready.ensures, c.in-Some.is) in
    subst (λ (t : stores.Stores). c.in-Some.page.0 < length t.windows.pages) c.self.view_is (ready_lives (stores_of c.self.inside) c.in-Some.page is)
