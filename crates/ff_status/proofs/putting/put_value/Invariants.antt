use Rattle.std.proofs.Common.{length}
use Rattle.std.specs.Str.{IsUtf8}
use Rattle.ff_status.proofs.Runs.{SpelledSoFar}
use Rattle.ff_status.proofs.putting.put_value.Given as goal

abbrev pub invariant-loop-rest : goal.invariant-loop-rest
invariant-loop-rest g l = record {
  so_far : SpelledSoFar (g.E.Sink.put l.fn.err) (g.E.Sink.put l.err) (g.E.Sink.faults l.fn.err) (g.E.Sink.faults l.err) l.text l.rest;
  whole : IsUtf8 l.rest;
}

abbrev pub decreases-loop-rest : goal.decreases-loop-rest
decreases-loop-rest g l = length l.rest
