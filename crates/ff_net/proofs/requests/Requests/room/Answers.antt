use Rattle.std.proofs.Common.{◌≡◌, ◌&&◌, nat_lt, length, subst, arith}
use Rattle.std.proofs.lemmas.Bool.Decides.{nat_tests}
use Rattle.ff_machine.specs.declared.limits.TheConstants.{MOST_ASKS, MOST_ASKS_OF_DOMAIN}
use Rattle.ff_machine.specs.Net as net
use Rattle.ff_net.proofs.Domains.{room_for}
use Rattle.ff_net.proofs.requests.Requests.room.Goals as goal

pub returns-then-of_domain-lt-MOST_ASKS_OF_DOMAIN : goal.returns-then-of_domain-lt-MOST_ASKS_OF_DOMAIN
returns-then-of_domain-lt-MOST_ASKS_OF_DOMAIN c =
    let room = subst (λ m. net.has_ask_room m c.args.domain.now ≡ (nat_lt (length (net.asked m c.args.domain.now)) MOST_ASKS_OF_DOMAIN && nat_lt c.self.inside.total MOST_ASKS)) c.self.view_is (room_for c.self.inside.rows c.self.inside.total c.args.domain.now c.self.invariant) in
    grind (arith, nat_tests)

pub returns-else-of_domain-lt-MOST_ASKS_OF_DOMAIN : goal.returns-else-of_domain-lt-MOST_ASKS_OF_DOMAIN
returns-else-of_domain-lt-MOST_ASKS_OF_DOMAIN c =
    let room = subst (λ m. net.has_ask_room m c.args.domain.now ≡ (nat_lt (length (net.asked m c.args.domain.now)) MOST_ASKS_OF_DOMAIN && nat_lt c.self.inside.total MOST_ASKS)) c.self.view_is (room_for c.self.inside.rows c.self.inside.total c.args.domain.now c.self.invariant) in
    grind (arith, nat_tests)
