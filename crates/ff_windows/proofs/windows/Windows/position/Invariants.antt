use Rattle.std.proofs.Common.{◌≡◌, ℕ, ◌<◌, false, get_or}
use Rattle.ff_machine.specs.Windows.{is_win}
use Rattle.ff_windows.proofs.windows.Windows.position.Given as goal

-- no open window before this one passes
abbrev pub invariant-loop-i : goal.invariant-loop-i
invariant-loop-i l = (k : ℕ) → k < l.i → is_win l.n (get_or l.opened k (record { 0 = 0 })) ≡ false
