use Rattle.std.proofs.Common.{length}
use Rattle.ff_text.proofs.Appending.{QuotedSoFar}
use Rattle.ff_text.proofs.printing.print_str.Given as goal

abbrev pub invariant-loop-left : goal.invariant-loop-left
invariant-loop-left l = QuotedSoFar l.fn.out.items l.out.items l.value l.left

abbrev pub decreases-loop-left : goal.decreases-loop-left
decreases-loop-left l = length l.left
