use Rattle.std.proofs.Common.{◌≡◌}
use Rattle.ff_pool.proofs.Forking.{IsForking}
use Rattle.ff_pool.proofs.heads.fork_heads.Given as goal

abbrev pub invariant-loop-l : goal.invariant-loop-l
invariant-loop-l g l = record {
  forking : IsForking l.initial.heads l.old l.new l.heads l.l;
  same : l.copies ≡ l.initial.copies;
}
