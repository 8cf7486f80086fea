use Rattle.ff_machine.proofs.Params.{call_has, called_vars}
use Rattle.ff_machine.proofs.validity.a_call_declares_its_parameters.Goals as goal

pub returns : goal.returns
returns c = record { value = call_has; count = called_vars }
