use Rattle.ff_route.proofs.Counting.{unused}
use Rattle.ff_route.proofs.law.rules_that_make_no_offers_leave_what_is_seen.Goals as goal

pub returns : goal.returns
returns c = λ p rules is none. unused p rules is none
