-- A pool on its way to rest.
use Rattle.std.specs.Prelude.{◌≡◌, ◌+◌, ℕ, false}
use Rattle.ff_machine.specs.Machine.{reactor}
use Rattle.ff_confinement.specs.Worlds.{world_steps}
use Rattle.ff_pool.specs.Pooled.{Pooled, size, drained, left, IsPool}

-- the steps that are left: turns, and inputs that are taken
abbrev pub steps_left : Pooled → ℕ
steps_left p = world_steps (reactor p.fuel) (p.fuel + 1) p.world

-- q is what some steps made of p while the turns went from `before` to `now`: it comes to the same,
-- and the turns that were made and those that are left are together those that were left
pub record IsOnward (p : Pooled) (before : ℕ) (q : Pooled) (now : ℕ) : Type 0 where
  pub unspent : q.spent ≡ false
  pub valid : IsPool q
  pub levels : size q ≡ size p
  pub comes_to : drained q ≡ drained p
  pub turns : before + left p ≡ now + left q
