use Rattle.ff_writing.proofs.Tallies.{HasTallies}
use Rattle.ff_writing.proofs.tally.print_summary.Given as goal

abbrev pub invariant-loop-number : goal.invariant-loop-number
invariant-loop-number l = HasTallies l.lattice l.inputs l.text l.fn.out.items l.out.items l.number
