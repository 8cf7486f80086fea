use Rattle.ff_pool.proofs.Parting.{same_input_decides}
use Rattle.ff_session.proofs.law.inputs_are_the_same_where_they_are_equal.Goals as goal

pub returns : goal.returns
returns c = same_input_decides
