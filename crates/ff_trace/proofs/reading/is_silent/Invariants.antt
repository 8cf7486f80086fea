use Rattle.std.proofs.Common.{◌≡◌, drop}
use Rattle.ff_trace.specs.Lines.{is_silent}
use Rattle.ff_trace.proofs.reading.is_silent.Given as goal

abbrev pub invariant-loop-b : goal.invariant-loop-b
invariant-loop-b l = is_silent (drop l.b-index l.line) ≡ is_silent l.line
