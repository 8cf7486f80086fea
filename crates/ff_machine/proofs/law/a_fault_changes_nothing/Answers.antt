use Rattle.ff_machine.proofs.Stays.{done_stays, failed_stays}
use Rattle.ff_machine.proofs.law.a_fault_changes_nothing.Goals as goal

pub returns : goal.returns
returns c = record { fault = failed_stays; value = done_stays }
