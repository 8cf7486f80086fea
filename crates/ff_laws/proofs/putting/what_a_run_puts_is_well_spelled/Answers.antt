use Rattle.ff_laws.proofs.OutputsRuns.{keeps_outs, handled_outs, run_outs}
use Rattle.ff_laws.proofs.putting.what_a_run_puts_is_well_spelled.Goals as goal

pub returns : goal.returns
returns c = record { reactor = keeps_outs; handled = handled_outs; run = run_outs }
