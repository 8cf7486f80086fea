use Rattle.std.proofs.Common.{length}
use Rattle.ff_text.proofs.Runs.{ReadsUpTo}
use Rattle.ff_text.proofs.reading.read_whole.Given as goal

abbrev pub invariant-loop-left : goal.invariant-loop-left
invariant-loop-left l = ReadsUpTo l.bytes l.left l.reader

abbrev pub decreases-loop-left : goal.decreases-loop-left
decreases-loop-left l = length l.left
