use Rattle.ff_travel.proofs.Force.{fresh_travel}
use Rattle.ff_travel.proofs.Owing.{exchanged, unmade}
use Rattle.ff_travel.proofs.traveller.travel.Goals as goal

pub returns-clause-exchanged : goal.returns-clause-exchanged
returns-clause-exchanged g c =
    rw (c.status_of.ensures, g.met.P.Port.tells c.args.port.now, g.met.P.Port.tells c.stream-end.new.port)
    (exchanged c.args.policy.now c.stream-end.result (rw c.lattice-lattice.ensures.value at (c.stream-end.ensures.streams tt (fresh_travel c.args.policy.now c.in-Ok.travel c.in-Ok.ensures))) _ _ _ _ c.stream-end.ensures.later c.stream-end.ensures.read_fault c.stream-end.ensures.write_fault c.stream-end.ensures.later_writes)

pub returns-in-Err-clause-exchanged : goal.returns-in-Err-clause-exchanged
returns-in-Err-clause-exchanged g c = rw (g.met.P.Port.tells c.args.port.now) (unmade c.args.policy.now _ _ c.args.turns.now _ _)
