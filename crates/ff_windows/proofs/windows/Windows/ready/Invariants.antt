use Rattle.std.proofs.Common.{◌≡◌, ℕ, ◌<◌, false, get_or, is_some}
use Rattle.ff_machine.specs.Windows.{window_at, page_at, first_ready}
use Rattle.ff_windows.proofs.windows.Windows.ready.Given as goal

-- no open window before this one passes
abbrev pub invariant-loop-n : goal.invariant-loop-n
invariant-loop-n l = (k : ℕ) → k < l.n-index → is_some (first_ready (page_at l.self (window_at l.self (get_or l.opened k (record { 0 = 0 }))).page).queue) ≡ false
