use Rattle.std.proofs.Common.{length, map, take}
use Rattle.std.specs.List.{All}
use Rattle.ff_machine.specs.Alone.{IsWindow}
use Rattle.ff_windows.specs.Recorded.{window_of}
use Rattle.ff_windows.proofs.checking.are_windows.Given as goal

abbrev pub invariant-loop-win : goal.invariant-loop-win
invariant-loop-win l = All (IsWindow (length l.wins) l.pages) (map window_of (take l.win-index l.wins))
