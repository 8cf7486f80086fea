use Rattle.std.proofs.Common.{◌≡◌, ◌≤◌, map, take}
use Rattle.ff_windows.specs.Recorded.{window_of}
use Rattle.ff_windows.proofs.restoring.win_cells.Given as goal

abbrev pub invariant-loop-win : goal.invariant-loop-win
invariant-loop-win g l = record {
  cells : l.cells ≡ map window_of (take l.win-index l.wins);
  later : l.fn.copies ≤ l.copies;
}
