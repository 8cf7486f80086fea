use Rattle.ff_windows.proofs.Searching.{open_lives}
use Rattle.ff_windows.proofs.windows.Windows.show_page.Goals as goal

pub window-requires : goal.window-requires
window-requires g c = open_lives _ c.args.n _ c.opened-known.ensures.valid.opened.there c.requires.is_open

pub set_window-requires-clause-there : goal.set_window-requires-clause-there
set_window-requires-clause-there g c = open_lives _ c.args.n _ c.opened-known.ensures.valid.opened.there c.requires.is_open
