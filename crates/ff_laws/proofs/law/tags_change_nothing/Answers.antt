use Rattle.ff_laws.proofs.Dead.{handled_alike, runs_alike}
use Rattle.ff_laws.proofs.law.tags_change_nothing.Goals as goal

pub returns : goal.returns
returns c = record { handled = handled_alike; run = runs_alike }
