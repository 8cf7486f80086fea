use Rattle.std.proofs.Common.{◌≡◌, ◌<◌, true, length, subst, sym, ◌∙◌, rules}
use Rattle.std.specs.Option.{ForSome, option_copied}
use Rattle.ff_machine.specs.Stores as stores
use Rattle.ff_machine.specs.Windows as windows
use Rattle.ff_stores.specs.Views.{stores_of}
use Rattle.ff_stores.proofs.Shown.{opened_stores}
use Rattle.ff_stores.proofs.stores.Stores.make_window.Goals as goal

pub invariant_of-self-in-Ok-add_new : goal.invariant_of-self-in-Ok-add_new
invariant_of-self-in-Ok-add_new g c =
    let by = subst (λ (t : stores.Stores). ForSome c.args.opener (λ o. o.0 < length t.windows.windows)) (sym c.self.view_is) c.requires in
    let free : windows.has_window_room c.self.inside.windows ≡ true = search rules in
    opened_stores (stores_of c.self.inside) (option_copied c.args.name) c.args.opener c.in_ok-docs.docs c.next_page-page.result c.next_act-act.result c.in-Ok.root c.load.new.self c.add_new.new.windows
    c.self.invariant c.read_name.ensures by free (c.in_ok-docs.ensures ∙ c.new.ensures.items) c.next_page-page.ensures c.in-Ok.ensures.number c.in-Ok.ensures.answer c.in-Ok.ensures.done c.in-Ok-add_new.ensures.done
