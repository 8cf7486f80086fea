use Rattle.std.proofs.Common.{option_map}
use Rattle.ff_policy.proofs.Seeking.{Longs}
use Rattle.ff_policy.proofs.key.longest.Given as goal

abbrev pub invariant-loop-one : goal.invariant-loop-one
invariant-loop-one l = Longs l.domain l.keys (option_map (λ k. k.now) l.best) l.one-index
