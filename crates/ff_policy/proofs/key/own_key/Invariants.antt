use Rattle.std.proofs.Common.{bytes_eq}
use Rattle.ff_policy.specs.Assignment.{Key}
use Rattle.ff_policy.proofs.Seeking.{Seeks}
use Rattle.ff_policy.proofs.key.own_key.Given as goal

abbrev pub invariant-loop-one : goal.invariant-loop-one
invariant-loop-one l = Seeks (λ (k : Key). bytes_eq k.key l.domain) l.keys l.one-index
