use Rattle.std.proofs.Common.{◌<◌, subst, sym, length}
use Rattle.ff_machine.specs.Stores as stores
use Rattle.ff_laws.proofs.Starting.{queued_valid}
use Rattle.ff_stores.specs.Views.{stores_of}
use Rattle.ff_stores.proofs.Slack.{Spares, slack, entries_fit}
use Rattle.ff_stores.proofs.stores.Stores.queue.Goals as goal

pub push_ready-requires-clause-room : goal.push_ready-requires-clause-room
push_ready-requires-clause-room g c =
    entries_fit (stores_of c.self.inside) c.self.invariant (subst Spares (sym c.self.view_is) (c.requires.entries, c.requires.slots))

pub invariant_of-self : goal.invariant_of-self
invariant_of-self g c =
    let spares = subst Spares (sym c.self.view_is) (c.requires.entries, c.requires.slots) in
    let lives = subst (λ (t : stores.Stores). c.args.page.0 < length t.windows.pages) (sym c.self.view_is) c.requires.page in
    rw c.in-Ok-or_emptied.ensures.done ((queued_valid (stores_of c.self.inside) c.args.page c.self.invariant lives (slack (stores_of c.self.inside) spares) c.args.body.now c.requires.spelled).stores)
