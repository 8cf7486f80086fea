use Rattle.std.proofs.Common.{length}
use Rattle.ff_audit.proofs.Heard.{Seeks}
use Rattle.ff_audit.proofs.hearing.next_own.Given as goal

abbrev pub invariant-lines : goal.invariant-lines
invariant-lines l = Seeks l.name l.text l.rest

abbrev pub decreases-lines : goal.decreases-lines
decreases-lines l = length l.rest
