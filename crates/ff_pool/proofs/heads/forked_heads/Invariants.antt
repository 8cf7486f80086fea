use Rattle.std.proofs.Common.{◌≡◌, take}
use Rattle.ff_pool.proofs.heads.forked_heads.Given as goal

abbrev pub invariant-loop-head : goal.invariant-loop-head
invariant-loop-head g l = (l.forks.items ≡ take l.head-index l.heads) × (l.copies ≡ l.initial.copies)
