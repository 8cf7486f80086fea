use Rattle.std.proofs.Common.{◌≡◌, ◌<◌, map}
use Rattle.ff_value.specs.declared.ids.WinId.{WinId}
use Rattle.ff_machine.specs.Windows.{nth_page, nth_window}
use Rattle.ff_windows.specs.Recorded.{page_of, window_of}
use Rattle.ff_windows.proofs.checking.are_own.Given as goal

abbrev pub invariant-loop-i : goal.invariant-loop-i
invariant-loop-i l = (w : WinId) → w.0 < l.i → (nth_page (map page_of l.pages) (nth_window (map window_of l.wins) w).page).win ≡ w
