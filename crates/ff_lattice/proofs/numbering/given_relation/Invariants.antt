use Rattle.ff_lattice.specs.Relation.{HoldPairs}
use Rattle.ff_lattice.proofs.numbering.given_relation.Given as goal

abbrev pub invariant-loop-pair : goal.invariant-loop-pair
invariant-loop-pair l = HoldPairs l.pair-index l.levels.keys l.below l.rows.items
