use Rattle.std.proofs.Common.{◌≡◌, ◌<◌, ℕ, false}
use Rattle.ff_route.specs.Offering.{differs}
use Rattle.ff_route.proofs.rule.is_of_use.Given as goal

abbrev pub invariant-loop-number : goal.invariant-loop-number
invariant-loop-number l = (k : ℕ) → k < l.number → differs l.policy l.rule l.input k ≡ false
