use Rattle.std.proofs.Common.{◌≡◌, ℕ, None, length}
use Rattle.ff_nodes.specs.Recorded.{parent_at}
use Rattle.ff_nodes.proofs.parenting.no_parents.Given as goal

abbrev pub invariant-loop-rec : goal.invariant-loop-rec
invariant-loop-rec l = record {
  count : length l.parents.items ≡ l._rec-index;
  none : (k : ℕ) → parent_at l.parents.items k ≡ None;
}
