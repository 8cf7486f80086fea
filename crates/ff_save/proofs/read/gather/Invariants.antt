use Rattle.std.proofs.Common.{◌≤◌, length}
use Rattle.ff_save.specs.Holding.{held_by}
use Rattle.ff_save.proofs.Texts.{IsReading}
use Rattle.ff_save.proofs.read.gather.Given as goal

abbrev pub invariant-lines : goal.invariant-lines
invariant-lines g l = IsReading l.policy.order l.policy.fuel l.fn.bytes (held_by g.B.Reactor.state l.gathering) l.rest × (l.fn.copies ≤ l.copies)

abbrev pub decreases-lines : goal.decreases-lines
decreases-lines g l = length l.rest
