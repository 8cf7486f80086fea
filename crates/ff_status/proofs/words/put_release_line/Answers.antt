use Rattle.std.proofs.Common.{[], ◌∷◌, ◌++◌}
use Rattle.ff_status.specs.Words.{release_words}
use Rattle.ff_status.proofs.Chain.{at_first, at_second, failed, ok_after, stopped_after}
use Rattle.ff_status.proofs.words.put_release_line.Goals as goal

pub returns-in_err-put-clause-stopped : goal.returns-in_err-put-clause-stopped
returns-in_err-put-clause-stopped g c = failed c.from_residual.result (at_first (release_words c.args.fault ++ 10 ∷ []) c.in_err-put.ensures.stopped)

pub returns-in_err-put_release-clause-stopped : goal.returns-in_err-put_release-clause-stopped
returns-in_err-put_release-clause-stopped g c =
    failed c.from_residual-in_err-put_release.result (at_second c.in_ok-put.ensures.done (at_first (10 ∷ []) c.in_err-put_release.ensures.stopped))

pub returns-clause-done : goal.returns-clause-done
returns-clause-done g c = ok_after c.put-2.result _ _ _ c.in_ok-put.ensures.done (ok_after c.put-2.result _ _ _ c.in_ok-put_release.ensures.done c.put-2.ensures.done)

pub returns-clause-stopped : goal.returns-clause-stopped
returns-clause-stopped g c =
    stopped_after c.put-2.result _ _ _ c.in_ok-put.ensures.done (stopped_after c.put-2.result _ _ _ c.in_ok-put_release.ensures.done c.put-2.ensures.stopped)
