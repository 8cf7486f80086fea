use Rattle.ff_machine.proofs.Stays.{capped_alike, capped_whole}
use Rattle.ff_machine.proofs.law.a_capped_weight_is_weighed_alike.Goals as goal

pub returns : goal.returns
returns c = record { same = capped_alike; whole = capped_whole }
