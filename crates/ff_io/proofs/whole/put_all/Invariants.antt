use Rattle.std.proofs.Common.{◌≡◌, ◌≤◌, length}
use Rattle.ff_io.proofs.Writing.{PutSoFar}
use Rattle.ff_io.proofs.whole.put_all.Given as goal

abbrev pub invariant-loop-left : goal.invariant-loop-left
invariant-loop-left g l = record {
  so_far : PutSoFar (g.P.Port.log l.fn.port) (g.P.Port.log l.port) l.bytes l.left;
  none : length l.bytes ≡ 0 → l.port ≡ l.fn.port;
  rest : g.P.Port.rest l.port ≡ g.P.Port.rest l.fn.port;
  later : g.P.Port.write_faults l.fn.port ≤ g.P.Port.write_faults l.port;
  others : g.P.Port.read_faults l.port ≡ g.P.Port.read_faults l.fn.port;
}

abbrev pub decreases-loop-left : goal.decreases-loop-left
decreases-loop-left g l = length l.left
