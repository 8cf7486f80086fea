use Rattle.std.proofs.Common.{◌<◌, length, sym, subst, rules}
use Rattle.std.specs.Prelude.{IsTrue}
use Rattle.ff_machine.specs.State.{State}
use Rattle.ff_machine.specs.Windows.{Windows, is_open}
use Rattle.ff_machine.specs.Valid.{IsStores}
use Rattle.ff_stores.proofs.Opening.{open_lives}
use Rattle.ff_core.proofs.Pointed.{node_within}
use Rattle.ff_core.proofs.parts.Parts.node_of.Goals as goal

pub page-page-requires : goal.page-page-requires
page-page-requires c =
    let opened = subst (λ (t : State). IsTrue (is_open t.stores.windows c.args.window)) (sym c.self.view_is) c.requires in
    subst (λ (w : Windows). c.args.window.0 < length w.windows) (sym c.windows.ensures.value) (open_lives c.self.inside.stores c.args.window c.windows.ensures.valid opened)

pub returns-clause-within : goal.returns-clause-within
returns-clause-within c =
    let valid = subst (λ (t : State). IsStores t.stores) c.self.view_is c.windows.ensures.valid in
    node_within c.args.self.now c.args.window c.args.kind c.args.n c.nth.result valid c.requires (search (rules, c.self.view_is))

pub returns-clause-window : goal.returns-clause-window
returns-clause-window c =
    let valid = subst (λ (t : State). IsStores t.stores) c.self.view_is c.windows.ensures.valid in
    open_lives c.args.self.now.stores c.args.window valid c.requires
