use Rattle.std.proofs.Common.{arith}
use Rattle.std.proofs.lemmas.Bool.Decides.{nat_tests}
use Rattle.ff_net.proofs.Cookies.{room_is}
use Rattle.ff_net.proofs.cookie.has_room.Goals as goal

pub returns-then-of_domain-lt-MOST_COOKIES_OF_DOMAIN : goal.returns-then-of_domain-lt-MOST_COOKIES_OF_DOMAIN
returns-then-of_domain-lt-MOST_COOKIES_OF_DOMAIN c =
    let room = room_is c.args.domain.now c.args.cookies.now c.requires in grind (arith, nat_tests)

pub returns-else-of_domain-lt-MOST_COOKIES_OF_DOMAIN : goal.returns-else-of_domain-lt-MOST_COOKIES_OF_DOMAIN
returns-else-of_domain-lt-MOST_COOKIES_OF_DOMAIN c =
    let room = room_is c.args.domain.now c.args.cookies.now c.requires in grind (arith, nat_tests)
