use Rattle.ff_travel.proofs.Cutting.{IsCutting}
use Rattle.ff_travel.proofs.steps.cut_all.Given as goal

abbrev pub invariant-loop-number : goal.invariant-loop-number
invariant-loop-number l = IsCutting l.counts l.fn.puts.items l.puts.items l.number
