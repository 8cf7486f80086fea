use Rattle.ff_laws.proofs.Resting.{rests}
use Rattle.ff_laws.proofs.law.an_input_ends_at_rest.Goals as goal

pub returns : goal.returns
returns c = rests
