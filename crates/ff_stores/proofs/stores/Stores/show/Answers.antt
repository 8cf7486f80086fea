use Rattle.std.proofs.Common.{◌≡◌, subst, sym, true, arith, rules}
use Rattle.std.specs.Prelude.{IsTrue}
use Rattle.ff_machine.specs.Stores as stores
use Rattle.ff_machine.specs.Windows as windows
use Rattle.ff_laws.proofs.Paging.{all_shallow}
use Rattle.ff_stores.specs.Views.{stores_of}
use Rattle.ff_stores.proofs.Copying.{shown_copies}
use Rattle.ff_stores.proofs.Opening.{open_lives}
use Rattle.ff_stores.proofs.Shown.{shown_stores}
use Rattle.ff_stores.proofs.stores.Stores.show.Goals as goal

pub load-requires-clause-shallow : goal.load-requires-clause-shallow
load-requires-clause-shallow g c = all_shallow c.args.docs.now c.requires.docs

pub show_new-requires-clause-lives : goal.show_new-requires-clause-lives
show_new-requires-clause-lives g c =
    open_lives (stores_of c.self.inside) c.args.window c.self.invariant (subst (λ (t : stores.Stores). IsTrue (windows.is_open t.windows c.args.window)) (sym c.self.view_is) c.requires.is_open)

pub invariant_of-self-in-Ok-show_new : goal.invariant_of-self-in-Ok-show_new
invariant_of-self-in-Ok-show_new g c =
    let opened = subst (λ (t : stores.Stores). IsTrue (windows.is_open t.windows c.args.window)) (sym c.self.view_is) c.requires.is_open in
    let free : windows.has_page_room c.self.inside.windows ≡ true = search rules in
    shown_stores (stores_of c.self.inside) c.args.window c.args.url.now c.args.docs.now c.next_page-page.result c.next_act-act.result c.in-Ok.root c.load.new.self c.show_new.new.windows
    c.self.invariant opened c.requires.url c.requires.docs free c.next_page-page.ensures c.next_act-act.ensures c.in-Ok.ensures.number c.in-Ok.ensures.answer c.in-Ok.ensures.done c.in-Ok-show_new.ensures.done

pub returns-in-Err-NoMemory-clause-copies : goal.returns-in-Err-NoMemory-clause-copies
returns-in-Err-NoMemory-clause-copies g c =
    rw (← c.self.view_is)
    (shown_copies (stores_of c.self.inside) c.args.docs.now c.next_page-page.result c.next_act-act.result _ _ c.load.new.copies c.next_page-page.ensures c.next_act-act.ensures c.load.ensures.copies (omega arith))

pub returns-in-Err-clause-copies : goal.returns-in-Err-clause-copies
returns-in-Err-clause-copies g c =
    rw (← c.self.view_is)
    (shown_copies (stores_of c.self.inside) c.args.docs.now c.next_page-page.result c.next_act-act.result _ _ _ c.next_page-page.ensures c.next_act-act.ensures c.load.ensures.copies c.show_new.ensures.copies)
