use Rattle.ff_machine.proofs.Values.{operate_valid}
use Rattle.ff_machine.proofs.validity.an_operator_gives_a_valid_value.Goals as goal

pub returns : goal.returns
returns c s page o args is live all = operate_valid s is page live o args all
