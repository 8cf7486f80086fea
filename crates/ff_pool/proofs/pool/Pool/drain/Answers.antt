use Rattle.std.proofs.Common.{refl}
use Rattle.ff_pool.proofs.Onward.{onward_done}
use Rattle.ff_pool.proofs.pool.Pool.drain.Goals as goal

pub returns-clause-done : goal.returns-clause-done
returns-clause-done g c =
    (onward_done c.args.self.now c.loop-l.self c.args.turns.now c.loop-l.turns c.loop-l.invariant.on (c.in_default.ensures.none refl)).0

pub returns-clause-count : goal.returns-clause-count
returns-clause-count g c =
    (onward_done c.args.self.now c.loop-l.self c.args.turns.now c.loop-l.turns c.loop-l.invariant.on (c.in_default.ensures.none refl)).1
