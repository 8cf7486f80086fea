use Rattle.std.proofs.Common.{◌≡◌, ℕ, ◌<◌, true}
use Rattle.ff_confinement.specs.Worlds.{leader, keep_together}
use Rattle.ff_value.specs.Same.{same_input}
use Rattle.ff_pool.proofs.classes.stay.Given as goal

abbrev pub invariant-loop-l : goal.invariant-loop-l
invariant-loop-l l = (k : ℕ) → k < l.l → keep_together same_input l.leaders l.offers (leader l.leaders k) k ≡ true
