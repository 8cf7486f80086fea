use Rattle.std.proofs.Common.{ℕ, ◌<◌, length}
use Rattle.ff_lattice.specs.Bounds.{AreCyclic}
use Rattle.ff_lattice.specs.Relation.{Related}
use Rattle.ff_lattice.proofs.bounds.first_cycle.Given as goal

abbrev pub invariant-loop-a : goal.invariant-loop-a
invariant-loop-a l = (c d : ℕ) → c < l.a → c < d → d < length l.rows → ¬ AreCyclic (Related l.rows) c d

abbrev pub invariant-loop-b : goal.invariant-loop-b
invariant-loop-b l = (d : ℕ) → l.a < d → d < l.b → ¬ AreCyclic (Related l.rows) l.a d
