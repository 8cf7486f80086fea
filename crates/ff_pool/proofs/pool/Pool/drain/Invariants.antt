use Rattle.std.proofs.Common.{◌≤◌}
use Rattle.ff_pool.specs.Pooled.{size}
use Rattle.ff_pool.specs.Draining.{IsOnward, steps_left}
use Rattle.ff_pool.proofs.pool.Pool.drain.Given as goal

abbrev pub invariant-loop-l : goal.invariant-loop-l
invariant-loop-l g l = record {
  on : IsOnward l.fn.self l.fn.turns l.self l.turns;
  next : l.next ≤ size l.self;
  turns_later : l.fn.turns ≤ l.turns;
  later : l.fn.copies ≤ l.copies;
}

abbrev pub decreases-loop-l : goal.decreases-loop-l
decreases-loop-l g l = steps_left l.self
