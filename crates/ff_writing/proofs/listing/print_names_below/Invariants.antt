use Rattle.ff_writing.proofs.Checking.{HasNames}
use Rattle.ff_writing.proofs.listing.print_names_below.Given as goal

abbrev pub invariant-loop-number : goal.invariant-loop-number
invariant-loop-number l = HasNames l.lattice l.level.0 l.fn.text.items l.text.items l.number
