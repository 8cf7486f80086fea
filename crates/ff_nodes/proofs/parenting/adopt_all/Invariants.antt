use Rattle.std.proofs.Common.{◌≡◌, length}
use Rattle.ff_nodes.specs.Recorded.{AreParents}
use Rattle.ff_nodes.proofs.parenting.adopt_all.Given as goal

abbrev pub invariant-loop-n : goal.invariant-loop-n
invariant-loop-n l = record {
  are : AreParents l.recs l.n l.parents;
  count : length l.parents ≡ length l.fn.parents;
}
