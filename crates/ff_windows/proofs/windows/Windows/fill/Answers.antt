use Rattle.std.proofs.Common.{◌≡◌, map, sym, ap, subst, ◌∙◌, false}
use Rattle.std.specs.List.{list_any}
use Rattle.ff_machine.specs.Alone.{AreWindows}
use Rattle.ff_machine.specs.Windows.{Page, set_page, is_slot, fill_entry, waits}
use Rattle.ff_windows.proofs.Kept.{fill_kept, not_filled}
use Rattle.ff_windows.proofs.windows.Windows.fill.Goals as goal

pub set_page-requires-clause-keeps : goal.set_page-requires-clause-keeps
set_page-requires-clause-keeps g c =
    let is =
    c.in_ok-waits.ensures.done
    ∙ ap (λ (x : Page). let y : Page = record x { queue = map (fill_entry c.args.slot c.args.body.now) x.queue } in y) (c.in_ok-cell.ensures.value ∙ c.page_of.ensures.value) in
    subst (λ x. AreWindows (set_page c.args.self.now c.args.page x)) (sym is) (fill_kept c.args.self.now c.args.page c.args.slot c.args.body.now c.page_of.ensures.valid c.requires.lives c.requires.spelled)

pub returns-else-waits-clause-done : goal.returns-else-waits-clause-done
returns-else-waits-clause-done g c =
    let none : waits c.args.self.now c.args.page c.args.slot ≡ false =
    ap (λ (x : Page). list_any (is_slot c.args.slot) x.queue) (sym (c.in_ok-cell.ensures.value ∙ c.page_of.ensures.value)) ∙ sym c.in_ok-waits.ensures.waits ∙ c.if-waits.false in
    not_filled c.args.self.now c.args.page c.args.slot c.args.body.now none
