use Rattle.std.proofs.Common.{Ok, Some, subst}
use Rattle.ff_session.specs.Giving.{Gives}
use Rattle.ff_session.proofs.Giving.{is_given}
use Rattle.ff_release.specs.Releasing.{offered_by}
use Rattle.ff_release.proofs.Owing.{exchanged, unmade, fresh_released, released_run}
use Rattle.ff_release.proofs.walk.release.Goals as goal

pub returns-in-Err-clause-exchanged : goal.returns-in-Err-clause-exchanged
returns-in-Err-clause-exchanged g c = rw (g.met.P.Port.tells c.args.port.now) (unmade c.args.policy.now c.args.rules _ _ c.args.turns.now _ _)

pub stream-end-requires-clause-start : goal.stream-end-requires-clause-start
stream-end-requires-clause-start g c =
    (c.args.rules, (fresh_released c.args.policy.now c.args.rules c.in-Ok.pool c.new-release.result c.requires.rules (c.in-Ok.ensures.copies (offered_by c.args.policy.now c.args.rules)) c.new-release.ensures, c.requires.slice))

pub stream-end-requires-clause-fits : goal.stream-end-requires-clause-fits
stream-end-requires-clause-fits g c = λ line item gives. is_given c.args.policy.now.order line item (subst (λ order. Gives order line (Ok (Some item))) c.lattice-lattice.ensures.value gives)

pub returns-clause-exchanged : goal.returns-clause-exchanged
returns-clause-exchanged g c =
    rw (c.status_of.ensures, g.met.P.Port.tells c.args.port.now, g.met.P.Port.tells c.stream-end.new.port)
    (exchanged c.args.policy.now c.args.rules c.stream-end.result
    (rw c.lattice-lattice.ensures.value at (c.stream-end.ensures.streams c.args.rules
    (fresh_released c.args.policy.now c.args.rules c.in-Ok.pool c.new-release.result c.requires.rules (c.in-Ok.ensures.copies (offered_by c.args.policy.now c.args.rules)) c.new-release.ensures, c.requires.slice)))
    _ _ _ _ c.stream-end.ensures.later c.stream-end.ensures.read_fault c.stream-end.ensures.write_fault c.stream-end.ensures.later_writes)

pub returns-clause-released : goal.returns-clause-released
returns-clause-released g c = λ answered. released_run c.args.policy.now c.args.rules c.status_of.result (returns-clause-exchanged g c) c.lattice-lattice.ensures.valid answered
