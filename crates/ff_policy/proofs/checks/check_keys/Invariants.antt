use Rattle.std.proofs.Common.{ℕ, ◌<◌}
use Rattle.ff_policy.specs.Assignment.{key_at, IsKey}
use Rattle.ff_policy.proofs.checks.check_keys.Given as goal

abbrev pub invariant-loop-one : goal.invariant-loop-one
invariant-loop-one l = (k : ℕ) → k < l.one-index → IsKey (key_at l.keys k).key
