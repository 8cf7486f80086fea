use Rattle.ff_machine.proofs.Scripts.{a_queue_that_is_left}
use Rattle.ff_machine.proofs.traces.a_queue_waits_for_fuel.Goals as goal

pub returns : goal.returns
returns c = a_queue_that_is_left
