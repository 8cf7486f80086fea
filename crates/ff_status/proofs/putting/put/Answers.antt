use Rattle.std.proofs.Common.{arith}
use Rattle.std.proofs.lemmas.Grind.{common_steps}
use Rattle.ff_status.proofs.Sending.{so_far_more, none_left}
use Rattle.ff_status.proofs.putting.put.Goals as goal

pub loop-left-preserved : goal.loop-left-preserved
loop-left-preserved g c = record {
  so_far = so_far_more _ _ _ _ _ _ _ _ _ _ c.loop-left.invariant.so_far c.in_ok-n.ensures.put c.in_ok-n.ensures.cause.later (grind (arith, common_steps));
  none = λ e. absurd (none_left _ _ _ _ _ _ c.in_ok-n.n c.loop-left.invariant.so_far c.in_ok-n.ensures.some c.in_ok-n.ensures.bound e);
}
