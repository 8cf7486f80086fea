use Rattle.std.proofs.Common.{◌≢◌, ℕ, ◌<◌}
use Rattle.ff_lattice.specs.Order.{name}
use Rattle.ff_lattice.proofs.lattice.Lattice.by_name.Given as goal

abbrev pub invariant-loop-number : goal.invariant-loop-number
invariant-loop-number l = (m : ℕ) → m < l.number → name l.self m ≢ l.bytes
