use Rattle.ff_acts.proofs.Halves.{same_digit, halved}
use Rattle.ff_acts.proofs.digits.Digits.next.Goals as goal

pub returns-then-self-gt0-clause-digit : goal.returns-then-self-gt0-clause-digit
returns-then-self-gt0-clause-digit c = same_digit c.self.inside.near c.self.inside.left c.self.inside.later.now c.args.self.now c.if-self-gt0.true c.self.invariant c.self.view_is

pub returns-then-self-gt0-clause-rest : goal.returns-then-self-gt0-clause-rest
returns-then-self-gt0-clause-rest c = halved c.self.inside.near c.self.inside.left c.self.inside.later.now c.args.self.now c.if-self-gt0.true c.self.invariant c.self.view_is
