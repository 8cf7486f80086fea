use Rattle.std.proofs.Common.{◌≡◌, true, sym, subst, arith}
use Rattle.std.specs.FinMap as finmap
use Rattle.ff_machine.specs.Alone.{AreRequests}
use Rattle.ff_machine.specs.Net as net
use Rattle.ff_laws.proofs.Asking.{asked_alone}
use Rattle.ff_net.proofs.Domains.{fewer_than_most}
use Rattle.ff_net.proofs.requests.Requests.ask.Goals as goal

pub invariant_of-self-2 : goal.invariant_of-self-2
invariant_of-self-2 g c =
    let rows = finmap.from_entries c.self.inside.rows in
    let room : net.has_ask_room rows c.args.domain.now ≡ true = subst (λ m. net.has_ask_room m c.args.domain.now ≡ true) (sym c.self.view_is) c.requires.room in
    let below = fewer_than_most c.self.inside.rows c.self.inside.total c.args.domain.now c.self.invariant room in
    record {
      apart = c.in_ok-put_ask.ensures.apart;
      counted = omega (arith, c.self.invariant.counted, c.in_ok-put_ask.ensures.count);
      few = omega (arith, below);
      valid = subst AreRequests (sym c.in_ok-put_ask.ensures.done)
          (asked_alone rows c.args.domain.now _ c.self.invariant.valid (rw c.as_bytes-known.ensures.value at c.as_bytes-known.ensures.domain) (record { uri = rw (sym c.in_ok-copy.ensures) at c.requires.uri; dst = c.requires.dst }) room);
    }
