use Rattle.std.proofs.Common.{◌≡◌, map}
use Rattle.ff_contract.specs.Lists.{below}
use Rattle.ff_value.specs.Offers.{all_offered}
use Rattle.ff_route.specs.Offering.{rule_offer}
use Rattle.ff_route.proofs.rule.rule_offers.Given as goal

abbrev pub invariant-loop-number : goal.invariant-loop-number
invariant-loop-number l = all_offered l.input l.offers.items ≡ map (rule_offer l.policy l.rule l.input) (below l.number)
