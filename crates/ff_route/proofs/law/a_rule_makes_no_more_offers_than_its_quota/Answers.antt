use Rattle.ff_route.proofs.Counting.{within_quota}
use Rattle.ff_route.proofs.law.a_rule_makes_no_more_offers_than_its_quota.Goals as goal

pub returns : goal.returns
returns c = λ p rules j is within. within_quota p rules j is within
