use Rattle.std.proofs.Common.{map, take}
use Rattle.std.specs.List.{All}
use Rattle.ff_machine.specs.Alone.{IsPage}
use Rattle.ff_windows.specs.Recorded.{page_of}
use Rattle.ff_windows.proofs.checking.are_pages.Given as goal

abbrev pub invariant-loop-page : goal.invariant-loop-page
invariant-loop-page l = All (IsPage l.acts) (map page_of (take l.page-index l.pages))
