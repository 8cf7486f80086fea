use Rattle.std.proofs.Common.{ℕ, ◌<◌}
use Rattle.ff_lattice.specs.Order.{size, AtOrBelow}
use Rattle.ff_lattice.proofs.lattice.Lattice.bottom.Given as goal

abbrev pub invariant-loop-number : goal.invariant-loop-number
invariant-loop-number l = record {
  within : l.least.0 < size l.self;
  least : (m : ℕ) → m < l.number → AtOrBelow l.self l.least.0 m;
}
