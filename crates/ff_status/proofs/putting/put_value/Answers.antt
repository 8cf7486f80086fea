use Rattle.std.proofs.Common.{arith}
use Rattle.std.proofs.lemmas.Grind.{common_steps}
use Rattle.ff_status.proofs.Runs.{spelled_run}
use Rattle.ff_status.proofs.Whole.{left_whole}
use Rattle.ff_status.proofs.putting.put_value.Goals as goal

pub loop-rest-preserved : goal.loop-rest-preserved
loop-rest-preserved g c = record {
  so_far = spelled_run _ _ _ _ _ _ _ _ _ _ c.loop-rest.invariant.so_far c.in_ok-n.ensures.done (grind (arith, common_steps));
  whole = left_whole _ c.loop-rest.rest.now c.in_ok-n.n (grind (arith, common_steps)) c.in_ok-n.ensures.whole;
}
