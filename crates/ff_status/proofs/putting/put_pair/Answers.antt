use Rattle.std.proofs.Common.{◌∷◌}
use Rattle.ff_status.proofs.Chain.{at_first, at_second, failed, stopped_after}
use Rattle.ff_status.proofs.putting.put_pair.Goals as goal

pub returns-in_err-put-2-clause-stopped : goal.returns-in_err-put-2-clause-stopped
returns-in_err-put-2-clause-stopped g c =
    failed c.from_residual-in_err-put-2.result (at_second c.in_ok-put.ensures.done (at_first (32 ∷ c.args.second.now) c.in_err-put-2.ensures.stopped))

pub returns-clause-stopped : goal.returns-clause-stopped
returns-clause-stopped g c = stopped_after c.put_both.result _ _ _ c.in_ok-put.ensures.done (stopped_after c.put_both.result _ _ _ c.in_ok-put-2.ensures.done c.put_both.ensures.stopped)
