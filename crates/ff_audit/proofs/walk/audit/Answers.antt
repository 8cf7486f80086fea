use Rattle.std.proofs.Common.{Ok, Some, subst}
use Rattle.ff_stream.specs.declared.end.End.TheVariants.{WriteFault, NoMemory}
use Rattle.ff_session.specs.Giving.{Gives}
use Rattle.ff_session.proofs.Giving.{is_given}
use Rattle.ff_session.proofs.Closing.{is_ended}
use Rattle.ff_audit.specs.Audited.{account}
use Rattle.ff_audit.proofs.Auditing.{audited, unaudited_as, unmade, stands}
use Rattle.ff_audit.proofs.walk.audit.Goals as goal

pub returns-in-Err-clause-exchanged : goal.returns-in-Err-clause-exchanged
returns-in-Err-clause-exchanged g c = rw (g.met.P.Port.tells c.args.port.now) (unmade c.args.policy.now _ _ c.args.turns.now _ _)

pub stream-end-requires-clause-fits : goal.stream-end-requires-clause-fits
stream-end-requires-clause-fits g c = λ line item gives. is_given c.args.policy.now.order line item (subst (λ order. Gives order line (Ok (Some item))) c.lattice-lattice.ensures.value gives)

pub returns-in-WriteFault-clause-exchanged : goal.returns-in-WriteFault-clause-exchanged
returns-in-WriteFault-clause-exchanged g c =
    rw (g.met.P.Port.tells c.args.port.now, g.met.P.Port.tells c.stream-end.new.port)
    (unaudited_as c.args.policy.now c.stream-end.result (rw c.lattice-lattice.ensures.value at (c.stream-end.ensures.streams tt c.in-Ok.ensures)) WriteFault c.in-WriteFault.is (λ e. e) _ _ _ _ c.stream-end.ensures.later c.stream-end.ensures.read_fault c.stream-end.ensures.write_fault c.stream-end.ensures.later_writes)

pub returns-in-NoMemory-clause-exchanged : goal.returns-in-NoMemory-clause-exchanged
returns-in-NoMemory-clause-exchanged g c =
    rw (g.met.P.Port.tells c.args.port.now, g.met.P.Port.tells c.stream-end.new.port)
    (unaudited_as c.args.policy.now c.stream-end.result (rw c.lattice-lattice.ensures.value at (c.stream-end.ensures.streams tt c.in-Ok.ensures)) NoMemory c.in-NoMemory.is (λ e. e) _ _ _ _ c.stream-end.ensures.later c.stream-end.ensures.read_fault c.stream-end.ensures.write_fault c.stream-end.ensures.later_writes)

pub finish-requires : goal.finish-requires
finish-requires g c =
    let ended = is_ended c.stream-end.result c.in_default.not-WriteFault c.in_default.not-NoMemory in
    record {
      ended = ended;
      at = stands c.args.policy.now c.stream-end.result (rw c.lattice-lattice.ensures.value at (c.stream-end.ensures.streams tt c.in-Ok.ensures)) ended;
    }

pub returns : goal.returns
returns g c = record {
  exchanged =
      rw (g.met.P.Port.tells c.args.port.now, g.met.P.Port.tells c.finish.new.port, c.finish.ensures.rest, c.finish.ensures.others)
      (audited c.args.policy.now (account g.B.Reactor.state c.stream-end.new.state) c.stream-end.result (rw c.lattice-lattice.ensures.value at (c.stream-end.ensures.streams tt c.in-Ok.ensures)) c.finish.result _ _ _ _ _ _ c.finish.ensures.reported c.stream-end.ensures.later
      c.stream-end.ensures.read_fault c.stream-end.ensures.write_fault c.stream-end.ensures.later_writes c.finish.ensures.later);
  later_copies = c.stream-end.ensures.later_copies;
}
