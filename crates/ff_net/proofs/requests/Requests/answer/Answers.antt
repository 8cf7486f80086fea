use Rattle.std.proofs.Common.{sym, subst, arith}
use Rattle.std.specs.FinMap as finmap
use Rattle.ff_machine.specs.Alone.{AreRequests}
use Rattle.ff_laws.proofs.Answering.{answered_alone}
use Rattle.ff_net.proofs.requests.Requests.answer.Goals as goal

pub invariant_of-self-2 : goal.invariant_of-self-2
invariant_of-self-2 g c = record {
  apart = c.in_ok-pending.ensures.apart;
  counted = omega (arith, c.self.invariant.counted, c.in_ok-pending.ensures.count);
  few = omega (arith, c.self.invariant.few);
  valid = subst AreRequests (sym c.in_ok-pending.ensures.done)
      (answered_alone (finmap.from_entries c.self.inside.rows) c.args.domain.now c.args.k c.self.invariant.valid);
}
