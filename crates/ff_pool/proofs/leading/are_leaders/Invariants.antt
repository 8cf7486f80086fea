use Rattle.std.proofs.Common.{ℕ, ◌<◌}
use Rattle.ff_pool.specs.Classes.{IsLed}
use Rattle.ff_pool.proofs.leading.are_leaders.Given as goal

abbrev pub invariant-loop-l : goal.invariant-loop-l
invariant-loop-l l = (m : ℕ) → m < l.l → IsLed l.leaders m
