use Rattle.std.proofs.Common.{◌≡◌, ◌≤◌, ◌<◌, ℕ, false}
use Rattle.ff_confinement.specs.Worlds.{leader}
use Rattle.ff_pool.specs.Pooled.{has_work}
use Rattle.ff_pool.proofs.pool.Pool.first_work.Given as goal

abbrev pub invariant-loop-number : goal.invariant-loop-number
invariant-loop-number g l = (k : ℕ) → l.from ≤ k → k < l.number → leader l.self.world.leaders k ≡ k → has_work l.self k ≡ false
