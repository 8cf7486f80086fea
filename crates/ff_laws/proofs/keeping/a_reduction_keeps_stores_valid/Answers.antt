use Rattle.ff_laws.proofs.Reducing.{red_keeps}
use Rattle.ff_laws.proofs.keeping.a_reduction_keeps_stores_valid.Goals as goal

pub returns : goal.returns
returns c = red_keeps
