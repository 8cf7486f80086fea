use Rattle.std.proofs.Common.{length}
use Rattle.ff_audit.proofs.Heard.{HasHeard}
use Rattle.ff_audit.proofs.hearing.hear_side.Given as goal

abbrev pub invariant-lines : goal.invariant-lines
invariant-lines l = HasHeard l.side l.name l.fn.text l.rest l.fn.comparison l.comparison

abbrev pub decreases-lines : goal.decreases-lines
decreases-lines l = length l.rest
