use Rattle.ff_machine.proofs.Leak.{the_leak, no_leak}
use Rattle.ff_machine.proofs.traces.the_plain_machine_leaks.Goals as goal

pub returns : goal.returns
returns c = record { typed = the_leak; unseen = no_leak }
