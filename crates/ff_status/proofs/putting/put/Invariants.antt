use Rattle.std.proofs.Common.{◌≡◌, length}
use Rattle.ff_status.proofs.Sending.{SoFar}
use Rattle.ff_status.proofs.putting.put.Given as goal

abbrev pub invariant-loop-left : goal.invariant-loop-left
invariant-loop-left g l = record {
  so_far : SoFar (g.E.Sink.put l.fn.err) (g.E.Sink.put l.err) (g.E.Sink.faults l.fn.err) (g.E.Sink.faults l.err) l.bytes l.left;
  none : length l.bytes ≡ 0 → l.err ≡ l.fn.err;
}

abbrev pub decreases-loop-left : goal.decreases-loop-left
decreases-loop-left g l = length l.left
