use Rattle.std.proofs.Common.{refl, sym, arith}
use Rattle.ff_confinement.specs.Standings.{fresh}
use Rattle.ff_stream.proofs.Onwards.{streams_none}
use Rattle.ff_stream.specs.declared.end.End.TheVariants as ended
use Rattle.ff_session.specs.Levels.{machine}
use Rattle.ff_session.specs.Giving.{Gives}
use Rattle.ff_session.specs.Multi.{seen_by, copies_entry, copies_turns}
use Rattle.ff_session.specs.Once.{gives_once}
use Rattle.ff_session.specs.Works.{multi_duty}
use Rattle.ff_session.proofs.Closing.{unclosed}
use Rattle.ff_session.proofs.Headline.{projection, security, precision}
use Rattle.ff_session.proofs.Owing.{multi_text_is, multi_turns_are}
use Rattle.ff_session.proofs.multi.walk_multi.Goals as goal

pub walk_copies-requires-clause-at : goal.walk_copies-requires-clause-at
walk_copies-requires-clause-at g c = (fresh (machine c.args.policy.now), c.in-Ok.ensures.copies (seen_by c.args.policy.now))

pub returns-in-Ok-clause-exchanged : goal.returns-in-Ok-clause-exchanged
returns-in-Ok-clause-exchanged g c =
    let p = c.args.policy.now in
    rw (c.status_of.ensures, g.met.P.Port.tells c.args.port.now, g.met.P.Port.tells c.walk_copies.new.port)
    (unclosed (gives_once p.order) (multi_duty p) c.walk_copies.result (c.walk_copies.ensures.streams (fresh (machine p)) (c.in-Ok.ensures.copies (seen_by p))) (multi_turns_are p) (λ whole is. sym (multi_text_is p is)) (λ is. refl) _ _ _ _
    c.walk_copies.ensures.later c.walk_copies.ensures.read_fault c.walk_copies.ensures.write_fault c.walk_copies.ensures.later_writes)

pub returns-in-Err-clause-exchanged : goal.returns-in-Err-clause-exchanged
returns-in-Err-clause-exchanged g c =
    let p = c.args.policy.now in
    let streams = streams_none (Gives p.order) (copies_entry p (seen_by p) (fresh (machine p))) (copies_turns p (seen_by p) (fresh (machine p))) (λ is. Unit {0}) _ _ _ in
    rw (g.met.P.Port.tells c.args.port.now)
    (unclosed (gives_once p.order) (multi_duty p) ended.NoMemory streams (multi_turns_are p) (λ whole is. sym (multi_text_is p is)) (λ is. refl) _ _ _ _ (omega arith) (λ e. cc) (λ e. cc) (omega arith))

pub returns-in-Ok-clause-projected : goal.returns-in-Ok-clause-projected
returns-in-Ok-clause-projected g c answered = projection c.args.policy.now c.status_of.result (returns-in-Ok-clause-exchanged g c) c.lattice-known.ensures.valid answered

pub returns-in-Ok-clause-secure : goal.returns-in-Ok-clause-secure
returns-in-Ok-clause-secure g c answered = security c.args.policy.now c.status_of.result (returns-in-Ok-clause-exchanged g c) c.lattice-known.ensures.valid answered

pub returns-in-Ok-clause-precise : goal.returns-in-Ok-clause-precise
returns-in-Ok-clause-precise g c answered = precision c.args.policy.now c.status_of.result (returns-in-Ok-clause-exchanged g c) c.lattice-known.ensures.valid answered
