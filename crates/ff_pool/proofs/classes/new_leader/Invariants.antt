use Rattle.std.proofs.Common.{◌≡◌, ℕ, ◌<◌, false}
use Rattle.ff_confinement.specs.Worlds.{keep_together}
use Rattle.ff_value.specs.Same.{same_input}
use Rattle.ff_pool.proofs.classes.new_leader.Given as goal

abbrev pub invariant-loop-k : goal.invariant-loop-k
invariant-loop-k l = (j : ℕ) → j < l.k → keep_together same_input l.leaders l.offers j l.l ≡ false
