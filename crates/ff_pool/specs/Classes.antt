-- The classes of levels that are one copy: who leads them, and which leaders have given classes.
use Rattle.std.specs.Prelude.{◌≡◌, ◌<◌, ◌≤◌, ℕ, Bool, true, ◌==◌, ◌&&◌, nat_lt, Option, Some, None, List, [], length, map, filter, slice_index_or}
use Rattle.ff_lattice.specs.LevelSet.{has, levels_where, IsLeast}
use Rattle.ff_contract.specs.Lists.{below}
use Rattle.ff_confinement.specs.Worlds.{leader, AreLeaders}

-- the levels of a level's class
unfoldable pub class_of : List ℕ → ℕ → List ℕ
class_of leaders l = levels_where (λ k. nat_lt k (length leaders) && leader leaders k == leader leaders l)

-- whether a level is the least of its class, and all levels that are, in rising order
abbrev pub leads : List ℕ → ℕ → Bool
leads leaders l = leader leaders l == l

abbrev pub tops : List ℕ → List ℕ
tops leaders = filter (leads leaders) (below (length leaders))

-- the classes, in the order of their least levels
abbrev pub classes_of : List ℕ → List (List ℕ)
classes_of leaders = map (class_of leaders) (tops leaders)

-- the leader of a level is at or before it, and leads itself
pub record IsLed (leaders : List ℕ) (l : ℕ) : Type 0 where
  pub before : leader leaders l ≤ l
  pub itself : leader leaders (leader leaders l) ≡ leader leaders l

-- the leaders of n levels with these classes
pub record AreLed (n : ℕ) (classes : List (List ℕ)) (leaders : List ℕ) : Type 0 where
  pub led : AreLeaders leaders
  pub levels : length leaders ≡ n
  pub classes_are : classes_of leaders ≡ classes

-- the leaders of n levels with these classes, or none where there are none
abbrev pub LedBy : ℕ → List (List ℕ) → Option (List ℕ) → Type 0
LedBy n classes None = (leaders : List ℕ) → AreLed n classes leaders → ⊥
LedBy n classes (Some leaders) = AreLed n classes leaders

-- the only leaders of n levels that may have these classes, or none where none have
abbrev pub MayBeLedBy : ℕ → List (List ℕ) → Option (List ℕ) → Type 0
MayBeLedBy n classes None = (leaders : List ℕ) → AreLed n classes leaders → ⊥
MayBeLedBy n classes (Some found) = (length found ≡ n) × ((leaders : List ℕ) → AreLed n classes leaders → found ≡ leaders)

-- one of the classes has this level, and its least is that one
pub record IsLeastWith (classes : List (List ℕ)) (l least : ℕ) : Type 0 where
  pub place : ℕ
  pub within : place < length classes
  pub held : has (slice_index_or classes place []) l ≡ true
  pub first : IsLeast (slice_index_or classes place []) least
