use Rattle.std.proofs.Common.{◌≤◌}
use Rattle.ff_confinement.specs.Turns.{turns_left}
use Rattle.ff_machine.specs.Machine.{reactor}
use Rattle.ff_session.proofs.Turning.{IsHandling}
use Rattle.ff_session.proofs.handling.handle.Given as goal

abbrev pub invariant-turning : goal.invariant-turning
invariant-turning g l = IsHandling (g.B.Reactor.state l.fn.browser) l.input l.fn.turns (g.B.Reactor.state l.browser) l.outs.items l.turns × (l.fn.copies ≤ l.copies)

abbrev pub decreases-turning : goal.decreases-turning
decreases-turning g l = turns_left (reactor (g.B.Reactor.state l.fn.browser).budget) (λ s. s.fuel) (g.B.Reactor.state l.browser)
