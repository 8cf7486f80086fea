use Rattle.ff_writing.proofs.Checking.{HasLines}
use Rattle.ff_writing.proofs.listing.levels_seen.Given as goal

abbrev pub invariant-loop-number : goal.invariant-loop-number
invariant-loop-number l = HasLines l.lattice l.text.items l.number
