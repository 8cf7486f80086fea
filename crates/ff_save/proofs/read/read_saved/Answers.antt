use Rattle.ff_save.proofs.Verdicts.{saved_own}
use Rattle.ff_save.proofs.read.read_saved.Goals as goal

pub returns-then-branch-clause-only : goal.returns-then-branch-clause-only
returns-then-branch-clause-only g c = λ pool saved. absurd (saved_own c.args.policy.now c.args.bytes.now pool c.in_ok-text.ensures.utf8 saved (c.in_ok-is_of_other.ensures.0 c.if-branch.true))
