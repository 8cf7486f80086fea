use Rattle.ff_machine.proofs.Fuel.{fuelled, ends_quiet, budget_stays}
use Rattle.ff_machine.proofs.law.an_input_ends_within_its_fuel.Goals as goal

pub returns : goal.returns
returns c = record { fuelled = fuelled; quiet = ends_quiet; budget = budget_stays }
