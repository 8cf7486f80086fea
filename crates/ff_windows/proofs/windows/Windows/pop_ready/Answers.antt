use Rattle.ff_windows.proofs.Kept.{pop_kept}
use Rattle.ff_windows.proofs.windows.Windows.pop_ready.Goals as goal

pub change_page-requires-clause-keeps : goal.change_page-requires-clause-keeps
change_page-requires-clause-keeps g c = pop_kept c.args.self.now c.args.page c.page_of.ensures.valid c.requires
