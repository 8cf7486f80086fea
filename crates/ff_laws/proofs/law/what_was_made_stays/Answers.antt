use Rattle.ff_laws.proofs.LaterTurns.{begin_later, turn_later, handled_later, counts_grow}
use Rattle.ff_laws.proofs.law.what_was_made_stays.Goals as goal

pub returns : goal.returns
returns c = record { begin = begin_later; turn = turn_later; handled = handled_later; counts = counts_grow; mass = λ budget most s i. (handled_later budget most s i).mass }
