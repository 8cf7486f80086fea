use Rattle.ff_machine.proofs.Worked.{loads_once}
use Rattle.ff_machine.proofs.traces.a_page_is_loaded_once.Goals as goal

pub returns : goal.returns
returns c = loads_once
