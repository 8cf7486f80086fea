use Rattle.ff_machine.proofs.Scripts.{a_fault_in_a_script}
use Rattle.ff_machine.proofs.traces.a_fault_ends_its_script_alone.Goals as goal

pub returns : goal.returns
returns c = a_fault_in_a_script
