use Rattle.std.proofs.Common.{◌≡◌, ℕ, ◌<◌, true}
use Rattle.ff_lattice.specs.Levels.{nth}
use Rattle.ff_lattice.specs.Order.{is_level_name}
use Rattle.ff_lattice.proofs.names.check_names.Given as goal

abbrev pub invariant-loop-place : goal.invariant-loop-place
invariant-loop-place l = (k : ℕ) → k < l.place → is_level_name (nth l.names k) ≡ true
