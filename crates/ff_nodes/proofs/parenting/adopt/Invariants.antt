use Rattle.std.proofs.Common.{◌≡◌, length}
use Rattle.ff_nodes.proofs.Adopting.{IsAdopting}
use Rattle.ff_nodes.proofs.parenting.adopt.Given as goal

abbrev pub invariant-loop-kid : goal.invariant-loop-kid
invariant-loop-kid l = record {
  so_far : IsAdopting l.recs l.n l.kid-index l.parents;
  count : length l.parents ≡ length l.fn.parents;
}
