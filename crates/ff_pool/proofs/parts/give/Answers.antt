use Rattle.std.proofs.Common.{◌∙◌, sym, arith}
use Rattle.ff_pool.proofs.Giving.{giving_done, giving_none}
use Rattle.ff_pool.proofs.parts.give.Goals as goal

pub returns-then-is_empty : goal.returns-then-is_empty
returns-then-is_empty c = giving_none c.args.puts.now.items c.args.leaders.now c.args.top c.args.outs.now c.requires (sym c.is_empty.ensures ∙ c.if-is_empty.true)

pub returns : goal.returns
returns c = giving_done c.loop-k.puts.items c.loop-k.k c.loop-k.invariant (omega arith)
