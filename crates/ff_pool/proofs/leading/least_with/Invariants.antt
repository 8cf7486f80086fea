use Rattle.std.proofs.Common.{◌≡◌, ℕ, ◌<◌, false, get_or, List}
use Rattle.ff_lattice.specs.LevelSet.{has}
use Rattle.ff_pool.proofs.leading.least_with.Given as goal

abbrev pub invariant-loop-k : goal.invariant-loop-k
invariant-loop-k l = (j : ℕ) (d : List ℕ) → j < l.k → has (get_or l.classes j d) l.l.0 ≡ false
