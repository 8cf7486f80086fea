use Rattle.ff_nodes.proofs.Deep.{Climbs}
use Rattle.ff_nodes.proofs.parenting.depth_of.Given as goal

abbrev pub invariant-loop-depth : goal.invariant-loop-depth
invariant-loop-depth l = Climbs l.parents (record { 0 = l.n }) l.depth l.at
