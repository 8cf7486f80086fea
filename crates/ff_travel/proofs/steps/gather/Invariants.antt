use Rattle.ff_travel.proofs.Gathering.{IsGathering}
use Rattle.ff_travel.proofs.steps.gather.Given as goal

abbrev pub invariant-loop-number : goal.invariant-loop-number
invariant-loop-number g l = IsGathering l.fn.pool l.fn.puts.items l.pool l.puts.items l.number
