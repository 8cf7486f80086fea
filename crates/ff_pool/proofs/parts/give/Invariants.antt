use Rattle.ff_pool.proofs.Giving.{IsGiving}
use Rattle.ff_pool.proofs.parts.give.Given as goal

abbrev pub invariant-loop-k : goal.invariant-loop-k
invariant-loop-k l = IsGiving l.initial.puts.items l.leaders l.top l.outs l.puts.items l.k
