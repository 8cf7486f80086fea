use Rattle.ff_lattice.proofs.Closure.{ClosedBelow}
use Rattle.ff_lattice.proofs.relation.close.Given as goal

abbrev pub invariant-loop-number : goal.invariant-loop-number
invariant-loop-number l = ClosedBelow l.number l.initial.rows l.rows
