use Rattle.std.proofs.Common.{◌<◌, ◌∙◌, length, arith, ap, sym, subst}
use Rattle.ff_value.specs.declared.ids.PageId.{PageId}
use Rattle.ff_machine.specs.Valid.{IsTask}
use Rattle.ff_machine.specs.Windows.{Windows, page_at}
use Rattle.ff_browser_table.proofs.Stepping.{task_begun}
use Rattle.ff_browser_table.proofs.tasks.started.Goals as goal

pub returns : goal.returns
returns c =
    let page = c.in_ok-page.page in
    let next = ap (λ (p : PageId). p.0) c.next_page.ensures in
    let same = ap (λ (w : Windows). length w.pages) c.windows-windows.ensures.value in
    let there : page.0 < length c.args.stores.now.windows.pages = omega (arith, next, same, c.if-page-next_page.false) in
    let own = c.act_of-act.ensures ∙ ap (λ (w : Windows). (page_at w page).act) c.windows-windows.ensures.value in
    subst (IsTask c.args.stores.now) (sym c.in_ok-script.ensures) (task_begun c.args.stores.now page c.act_of-act.result c.args.body.now there own c.requires)
