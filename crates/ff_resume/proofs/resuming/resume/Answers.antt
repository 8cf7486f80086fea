use Rattle.ff_resume.specs.Resumed.{stand_of}
use Rattle.ff_resume.proofs.Owing.{saved, unsaved, whole_stands}
use Rattle.ff_resume.proofs.Resting.{stands_at, rests_again}
use Rattle.ff_resume.proofs.resuming.resume.Goals as goal

pub walk_copies-end-requires-clause-at : goal.walk_copies-end-requires-clause-at
walk_copies-end-requires-clause-at g c = (stand_of c.args.pool, stands_at c.args.policy.now c.args.pool c.requires.rests)

pub finish-requires : goal.finish-requires
finish-requires g c =
    let from = stand_of c.args.pool in
    let there = whole_stands c.args.policy.now from c.walk_copies-end.result (c.walk_copies-end.ensures.streams from (stands_at c.args.policy.now c.args.pool c.requires.rests)) c.in-Done.is in
    record { rests = rests_again c.args.policy.now c.walk_copies-end.new.pool from there.0 there.1.0 }

pub returns-in-Done-clause-exchanged : goal.returns-in-Done-clause-exchanged
returns-in-Done-clause-exchanged g c =
    rw (g.met.P.Port.tells c.args.port.now, g.met.P.Port.tells c.finish.new.port, c.finish.ensures.rest, c.finish.ensures.others)
    (saved c.args.policy.now (stand_of c.args.pool) c.walk_copies-end.new.pool (λ is at. at.0) c.walk_copies-end.result (c.walk_copies-end.ensures.streams (stand_of c.args.pool) (stands_at c.args.policy.now c.args.pool c.requires.rests)) c.in-Done.is _ _
    c.finish.result c.finish.ensures.closed _ _ _ c.walk_copies-end.ensures.later c.walk_copies-end.ensures.read_fault c.walk_copies-end.ensures.write_fault c.walk_copies-end.ensures.later_writes c.finish.ensures.later)

pub returns : goal.returns
returns g c = record {
  exchanged =
      rw (c.status_of.ensures, g.met.P.Port.tells c.args.port.now, g.met.P.Port.tells c.walk_copies-end.new.port)
      (unsaved c.args.policy.now (stand_of c.args.pool) c.walk_copies-end.result (c.walk_copies-end.ensures.streams (stand_of c.args.pool) (stands_at c.args.policy.now c.args.pool c.requires.rests)) c.in_default.not-Done _ _ _ _
      c.walk_copies-end.ensures.later c.walk_copies-end.ensures.read_fault c.walk_copies-end.ensures.write_fault c.walk_copies-end.ensures.later_writes);
  later_copies = c.walk_copies-end.ensures.later_copies;
}
