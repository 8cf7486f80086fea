use Rattle.ff_run.proofs.InARow.{whole_row}
use Rattle.ff_run.proofs.law.a_whole_state_goes_on.Goals as goal

pub returns : goal.returns
returns c = whole_row
