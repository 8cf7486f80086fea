use Rattle.ff_laws.proofs.Operate.{operate_valid}
use Rattle.ff_laws.proofs.keeping.operators_keep_stores_valid.Goals as goal

pub returns : goal.returns
returns c = λ s page valid there o args are. operate_valid s page valid there o args are
