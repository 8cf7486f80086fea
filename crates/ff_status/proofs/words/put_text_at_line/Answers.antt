use Rattle.std.proofs.Common.{◌++◌, codes}
use Rattle.ff_status.specs.Words.{text_words}
use Rattle.ff_status.proofs.Chain.{at_first, at_second, failed, stopped_after}
use Rattle.ff_status.proofs.words.put_text_at_line.Goals as goal

pub returns-in_err-put_number-clause-stopped : goal.returns-in_err-put_number-clause-stopped
returns-in_err-put_number-clause-stopped g c =
    failed c.from_residual.result (at_first (codes ": " ++ text_words c.args.fault) c.in_err-put_number.ensures.stopped)

pub returns-in_err-put-clause-stopped : goal.returns-in_err-put-clause-stopped
returns-in_err-put-clause-stopped g c =
    failed c.from_residual-in_err-put.result (at_second c.in_ok-put_number.ensures.done (at_first (text_words c.args.fault) c.in_err-put.ensures.stopped))

pub returns-clause-stopped : goal.returns-clause-stopped
returns-clause-stopped g c =
    stopped_after c.put_text.result _ _ _ c.in_ok-put_number.ensures.done (stopped_after c.put_text.result _ _ _ c.in_ok-put.ensures.done c.put_text.ensures.stopped)
