use Rattle.std.proofs.Common.{ℕ, ◌<◌}
use Rattle.ff_lattice.specs.Order.{size, AtOrBelow}
use Rattle.ff_lattice.proofs.lattice.Lattice.top.Given as goal

abbrev pub invariant-loop-number : goal.invariant-loop-number
invariant-loop-number l = record {
  within : l.greatest.0 < size l.self;
  greatest : (m : ℕ) → m < l.number → AtOrBelow l.self m l.greatest.0;
}
