use Rattle.std.proofs.Common.{◌≡◌, take}
use Rattle.ff_pool.proofs.heads.forked_outs.Given as goal

abbrev pub invariant-loop-outs : goal.invariant-loop-outs
invariant-loop-outs l = l.forks.items ≡ take l.outs-index l.puts
