use Rattle.std.proofs.Common.{◌≡◌, ℕ, ◌<◌, false, get_or}
use Rattle.ff_machine.specs.Nodes.{is_name}
use Rattle.ff_machine.specs.Windows.{window_at}
use Rattle.ff_windows.proofs.windows.Windows.named.Given as goal

-- no open window before this one passes
abbrev pub invariant-loop-n : goal.invariant-loop-n
invariant-loop-n l = (k : ℕ) → k < l.n-index → is_name l.name (window_at l.self (get_or l.opened k (record { 0 = 0 }))).name ≡ false
