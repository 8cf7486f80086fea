use Rattle.std.proofs.Common.{[], ◌∷◌, ◌++◌, flat_map}
use Rattle.ff_text.specs.Printed.{quoted, spelled_byte}
use Rattle.ff_status.proofs.Chain.{at_first, at_second, failed, ok_after, stopped_after}
use Rattle.ff_status.proofs.putting.put_string.Goals as goal

pub returns-in_err-put-clause-stopped : goal.returns-in_err-put-clause-stopped
unfolding quoted
returns-in_err-put-clause-stopped g c = failed c.from_residual.result (at_first (flat_map spelled_byte c.args.text.now ++ 34 ∷ []) c.in_err-put.ensures.stopped)

pub returns-in_err-put_value-clause-stopped : goal.returns-in_err-put_value-clause-stopped
unfolding quoted
returns-in_err-put_value-clause-stopped g c =
    failed c.from_residual-in_err-put_value.result (at_second c.in_ok-put.ensures.done (at_first (34 ∷ []) c.in_err-put_value.ensures.stopped))

pub returns-clause-done : goal.returns-clause-done
unfolding quoted
returns-clause-done g c = ok_after c.put-2.result _ _ _ c.in_ok-put.ensures.done (ok_after c.put-2.result _ _ _ c.in_ok-put_value.ensures.done c.put-2.ensures.done)

pub returns-clause-stopped : goal.returns-clause-stopped
unfolding quoted
returns-clause-stopped g c =
    stopped_after c.put-2.result _ _ _ c.in_ok-put.ensures.done (stopped_after c.put-2.result _ _ _ c.in_ok-put_value.ensures.done c.put-2.ensures.stopped)
