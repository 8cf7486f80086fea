use Rattle.std.proofs.Common.{◌≡◌, ℕ, ◌<◌, List, get_or, length}
use Rattle.ff_confinement.specs.Worlds.{leader}
use Rattle.ff_pool.specs.Classes.{AreLed}
use Rattle.ff_pool.proofs.leading.least_levels.Given as goal

abbrev pub invariant-loop-l : goal.invariant-loop-l
invariant-loop-l l = record {
  count : length l.leaders.items ≡ l.l;
  only : (leaders : List ℕ) → AreLed l.n l.classes leaders → (j d : ℕ) → j < l.l → get_or l.leaders.items j d ≡ leader leaders j;
}
