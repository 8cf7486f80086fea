use Rattle.std.proofs.Common.{◌≡◌, ◌++◌}
use Rattle.ff_pool.proofs.inbox.put_behind.Given as goal

abbrev pub invariant-loop-input : goal.invariant-loop-input
invariant-loop-input g l = l.older ≡ l.fn.older ++ l.yielded
