use Rattle.std.proofs.Common.{length}
use Rattle.ff_writing.proofs.Tallies.{HasCounted}
use Rattle.ff_writing.proofs.tally.tally_of.Given as goal

abbrev pub invariant-lines : goal.invariant-lines
invariant-lines l = HasCounted l.word l.fn.text l.rest l.tally.lines l.tally.bytes

abbrev pub decreases-lines : goal.decreases-lines
decreases-lines l = length l.rest
