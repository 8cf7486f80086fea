use Rattle.ff_machine.proofs.Empty.{empty_state}
use Rattle.ff_machine.proofs.law.a_new_browser_is_valid.Goals as goal

pub returns : goal.returns
returns c = empty_state
