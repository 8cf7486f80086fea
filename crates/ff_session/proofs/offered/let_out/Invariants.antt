use Rattle.ff_session.proofs.Feeding.{IsLettingOut}
use Rattle.ff_session.proofs.offered.let_out.Given as goal

abbrev pub invariant-loop-number : goal.invariant-loop-number
invariant-loop-number g l = IsLettingOut l.policy l.fn.pool l.fn.text.items l.pool l.text.items l.number
