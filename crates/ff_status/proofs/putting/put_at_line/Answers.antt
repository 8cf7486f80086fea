use Rattle.std.proofs.Common.{◌++◌, codes}
use Rattle.ff_status.proofs.Chain.{at_first, failed, stopped_after}
use Rattle.ff_status.proofs.putting.put_at_line.Goals as goal

pub returns-in_err-put_number-clause-stopped : goal.returns-in_err-put_number-clause-stopped
returns-in_err-put_number-clause-stopped g c = failed c.from_residual.result (at_first (codes ": " ++ c.args.words.now) c.in_err-put_number.ensures.stopped)

pub returns-clause-stopped : goal.returns-clause-stopped
returns-clause-stopped g c = stopped_after c.put_both.result _ _ _ c.in_ok-put_number.ensures.done c.put_both.ensures.stopped
