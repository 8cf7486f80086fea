use Rattle.ff_machine.proofs.Scripts.{a_waiting_slot}
use Rattle.ff_machine.proofs.traces.a_slot_holds_back_the_next_script.Goals as goal

pub returns : goal.returns
returns c = a_waiting_slot
