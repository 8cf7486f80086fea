use Rattle.std.proofs.Common.{◌≡◌, length, map, take}
use Rattle.ff_travel.proofs.steps.counts_of.Given as goal

abbrev pub invariant-loop-outputs : goal.invariant-loop-outputs
invariant-loop-outputs l = l.counts.items ≡ map length (take l.outputs-index l.puts)
