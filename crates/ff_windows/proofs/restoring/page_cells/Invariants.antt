use Rattle.std.proofs.Common.{◌≡◌, ◌≤◌, map, take}
use Rattle.ff_windows.specs.Recorded.{page_of}
use Rattle.ff_windows.proofs.restoring.page_cells.Given as goal

abbrev pub invariant-loop-page : goal.invariant-loop-page
invariant-loop-page g l = record {
  cells : l.cells ≡ map page_of (take l.page-index l.pages);
  later : l.fn.copies ≤ l.copies;
}
