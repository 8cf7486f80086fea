use Rattle.std.proofs.Common.{[], ◌∷◌, ◌++◌, sym, ap, subst, ◌∙◌}
use Rattle.ff_machine.specs.declared.records.Entry.TheVariants.{Ready}
use Rattle.ff_machine.specs.Alone.{AreWindows}
use Rattle.ff_machine.specs.Windows.{Page, set_page}
use Rattle.ff_windows.proofs.Kept.{ready_kept}
use Rattle.ff_windows.proofs.windows.Windows.push_ready.Goals as goal

pub set_page-requires-clause-keeps : goal.set_page-requires-clause-keeps
set_page-requires-clause-keeps g c =
    let is =
    c.in_ok-push.ensures.done
    ∙ ap (λ (x : Page). let y : Page = record x { queue = x.queue ++ Ready c.args.body.now ∷ [] } in y) (c.in_ok-cell.ensures.value ∙ c.page_of.ensures.value) in
    subst (λ x. AreWindows (set_page c.args.self.now c.args.page x)) (sym is) (ready_kept c.args.self.now c.args.page c.args.body.now c.page_of.ensures.valid c.requires.lives c.requires.room c.requires.spelled)
