use Rattle.std.proofs.Common.{◌≡◌, ℕ, ◌<◌, false, get_or}
use Rattle.ff_machine.specs.Windows.{is_win}
use Rattle.ff_windows.proofs.windows.Windows.is_open.Given as goal

-- no open window before this one passes
abbrev pub invariant-loop-m : goal.invariant-loop-m
invariant-loop-m l = (k : ℕ) → k < l.m-index → is_win l.n (get_or l.opened k (record { 0 = 0 })) ≡ false
