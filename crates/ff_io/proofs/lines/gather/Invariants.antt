use Rattle.std.proofs.Common.{◌≡◌, ◌+◌, ◌-◌, ◌≤◌, ◌++◌, ◌||◌, cond, length}
use Rattle.ff_io.proofs.GatheringLemmas.{IsGathering}
use Rattle.ff_io.proofs.lines.gather.Given as goal
use Rattle.ff_io.specs.declared.lines.TheConstants.{MOST_LINE_BYTES}

abbrev pub invariant-loop-whole : goal.invariant-loop-whole
invariant-loop-whole g l = record {
  so_far : IsGathering (g.P.Port.log l.fn.port) (g.P.Port.log l.port) (g.P.Port.rest l.fn.port) (g.P.Port.rest l.port) l.given (l.fn.line.items ++ l.fn.chunk) l.fn.ended l.line.items l.chunk l.ended l.whole;
  later : g.P.Port.read_faults l.fn.port ≤ g.P.Port.read_faults l.port;
  others : g.P.Port.write_faults l.port ≡ g.P.Port.write_faults l.fn.port;
}

abbrev pub decreases-loop-whole : goal.decreases-loop-whole
decreases-loop-whole g l = cond (l.whole || l.ended) 0 (MOST_LINE_BYTES + 2 - length l.line.items)
