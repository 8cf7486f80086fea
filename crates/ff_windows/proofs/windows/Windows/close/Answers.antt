use Rattle.ff_machine.proofs.WindowChanges.{window_closed}
use Rattle.ff_windows.proofs.windows.Windows.close.Goals as goal

pub remove_opened-requires : goal.remove_opened-requires
remove_opened-requires g c = window_closed c.args.self.now c.args.n c.opened-known.ensures.valid
