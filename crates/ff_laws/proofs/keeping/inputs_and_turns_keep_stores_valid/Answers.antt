use Rattle.ff_laws.proofs.Inputs.{begin_keeps}
use Rattle.ff_laws.proofs.Working.{turn_keeps}
use Rattle.ff_laws.proofs.keeping.inputs_and_turns_keep_stores_valid.Goals as goal

pub returns : goal.returns
returns c = record { begin = begin_keeps; turn = turn_keeps }
