use Rattle.std.proofs.Common.{◌≡◌, ◌++◌, take}
use Rattle.ff_pool.proofs.outs.Outs.append.Given as goal

abbrev pub invariant-loop-out : goal.invariant-loop-out
invariant-loop-out l = l.self-inside.items.items ≡ l.initial.self-inside.items.items ++ take l.out-index l.more
