use Rattle.ff_laws.proofs.LaterTurns.{handled_later}
use Rattle.ff_laws.proofs.law.nothing_that_has_gone_comes_back.Goals as goal

pub returns : goal.returns
returns c = record {
  window = λ budget most s i w there shut. (handled_later budget most s i).windows.closed w there shut;
  page = λ budget most s i p there dead. (handled_later budget most s i).windows.dead p there dead;
}
