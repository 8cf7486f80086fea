use Rattle.ff_laws.proofs.OutputsOperators.{operate_spelled, red_spelled}
use Rattle.ff_laws.proofs.OutputsTurns.{begin_spelled, turn_spelled}
use Rattle.ff_laws.proofs.putting.what_is_put_is_well_spelled.Goals as goal

pub returns : goal.returns
returns c = record { begin = begin_spelled; turn = turn_spelled; operator = operate_spelled; reduction = red_spelled }
