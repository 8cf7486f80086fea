use Rattle.std.proofs.Common.{◌≡◌, ◌&&◌, ltb}
use Rattle.ff_lattice.specs.LevelSet.{levels_where}
use Rattle.ff_lattice.specs.Relation.{related}
use Rattle.ff_lattice.proofs.relation.related_to.Given as goal

abbrev pub invariant-loop-number : goal.invariant-loop-number
invariant-loop-number l = l.levels ≡ levels_where (λ m. ltb m l.number && related l.rows m l.high.0)
