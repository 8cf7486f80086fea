-- The lines so far, and the number of the last of them.
use Rattle.std.proofs.Common.{◌≡◌}
use Rattle.ff_gen.specs.Workload.{workload, number_at}
use Rattle.ff_gen.proofs.generator.workload.Given as goal

abbrev pub invariant-loop-line : goal.invariant-loop-line
invariant-loop-line l = (l.bytes.items ≡ workload l.initial.start l._line) × (l.draws ≡ number_at l.initial.start l._line)
