use Rattle.ff_nodes.specs.Recorded.{HaveDepths}
use Rattle.ff_nodes.proofs.parenting.depths_of.Given as goal

abbrev pub invariant-loop-n : goal.invariant-loop-n
invariant-loop-n l = HaveDepths l.parents l.n l.depths.items
