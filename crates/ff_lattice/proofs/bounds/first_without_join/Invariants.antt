use Rattle.std.proofs.Common.{ℕ, ◌<◌, length}
use Rattle.ff_lattice.specs.Bounds.{HasJoin}
use Rattle.ff_lattice.specs.Relation.{Related}
use Rattle.ff_lattice.proofs.bounds.first_without_join.Given as goal

abbrev pub invariant-loop-a : goal.invariant-loop-a
invariant-loop-a l = (c d : ℕ) → c < l.a → c < d → d < length l.rows → HasJoin (Related l.rows) (length l.rows) c d

abbrev pub invariant-loop-b : goal.invariant-loop-b
invariant-loop-b l = (d : ℕ) → l.a < d → d < l.b → HasJoin (Related l.rows) (length l.rows) l.a d
