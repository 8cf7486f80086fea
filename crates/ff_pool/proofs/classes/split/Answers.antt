use Rattle.std.proofs.Common.{arith}
use Rattle.ff_pool.proofs.Parting.{split_done}
use Rattle.ff_pool.proofs.classes.split.Goals as goal

pub returns : goal.returns
returns c = split_done c.args.leaders.now c.args.offers.now c.loop-l.new.items c.loop-l.l c.loop-l.invariant (omega arith)
