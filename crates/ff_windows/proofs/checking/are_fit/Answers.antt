use Rattle.std.proofs.Common.{length}
use Rattle.ff_windows.proofs.Recorded.{pages_there}
use Rattle.ff_windows.proofs.checking.are_fit.Goals as goal

pub are_own-requires : goal.are_own-requires
are_own-requires c = pages_there (length c.args.wins.now) (length c.args.pages.now) c.args.wins.now (c.are_windows.ensures.0 c.if-not-are_windows.false)
