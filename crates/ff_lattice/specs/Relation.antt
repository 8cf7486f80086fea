-- A relation on levels, kept as a row of levels for each level.
use Rattle.std.specs.Prelude.{◌≡◌, ℕ, ◌<◌, ◌≤◌, ◌⊎◌, Bool, true, List, [], length, get_or}
use Rattle.ff_lattice.specs.declared.names.TheConstants.{MOST_LEVELS}
use Rattle.ff_lattice.specs.declared.pair.Pair.{Pair}
use Rattle.ff_lattice.specs.Bounds.{Chain}
use Rattle.ff_lattice.specs.LevelSet.{has, IsLevelSet}
use Rattle.ff_lattice.specs.Order.{Order, IsOrder}
use Rattle.ff_lattice.specs.Levels.{nth, pair_at, IsKnown, IsAmongFirst}

-- whether a's row holds b
abbrev pub related : List (List ℕ) → ℕ → ℕ → Bool
related rows a b = has (get_or rows a []) b

abbrev pub Related : List (List ℕ) → ℕ → ℕ → Type 0
Related rows a b = related rows a b ≡ true

-- a set of levels below n for each level below n
pub record IsRelation (n : ℕ) (rows : List (List ℕ)) : Type 0 where
  pub few : n ≤ MOST_LEVELS
  pub count : length rows ≡ n
  pub set : (l : ℕ) → IsLevelSet (get_or rows l [])
  pub within : (a b : ℕ) → Related rows a b → b < n

-- each level is related to itself, and the relation needs no steps
pub record AreOrdered (rows : List (List ℕ)) : Type 0 where
  pub reflexive : (a : ℕ) → a < length rows → Related rows a a
  pub transitive : (a b c : ℕ) → Related rows a b → Related rows b c → Related rows a c

-- the rows relate each level to itself, and the levels of the first pairs
pub record HoldPairs (count : ℕ) (names : List (List ℕ)) (below : List Pair) (table : List (List ℕ)) : Type 0 where
  pub rows : IsRelation (length names) table
  pub known : (k : ℕ) → k < count → IsKnown names (pair_at below k)
  pub reflexive : (a : ℕ) → a < length names → Related table a a
  pub sound : (a b : ℕ) → Related table a b → (a ≡ b) ⊎ IsAmongFirst count below (nth names a) (nth names b)
  pub held : (a b : ℕ) → a < length names → b < length names → IsAmongFirst count below (nth names a) (nth names b) → Related table a b

-- the new rows relate what chains of the old ones do
pub record Closes (old new : List (List ℕ)) : Type 0 where
  pub rows : IsRelation (length old) new
  pub grows : (a b : ℕ) → Related old a b → Related new a b
  pub transitive : (a b c : ℕ) → Related new a b → Related new b c → Related new a c
  pub sound : (a b : ℕ) → Related new a b → Chain (Related old) a b

-- the same relation from its other side
pub record AreTurned (up down : List (List ℕ)) : Type 0 where
  pub rows : IsRelation (length up) down
  pub turned : (a b : ℕ) → related down b a ≡ related up a b

-- each level is related to itself alone
pub record IsEqual (n : ℕ) (table : List (List ℕ)) : Type 0 where
  pub rows : IsRelation n table
  pub held : (a : ℕ) → a < n → Related table a a
  pub sound : (a b : ℕ) → Related table a b → a ≡ b

-- the new rows also relate low to high
pub record Relates (old new : List (List ℕ)) (low high : ℕ) : Type 0 where
  pub rows : IsRelation (length old) new
  pub grows : (a b : ℕ) → Related old a b → Related new a b
  pub held : Related new low high
  pub sound : (a b : ℕ) → Related new a b → Related old a b ⊎ ((a ≡ low) × (b ≡ high))

-- the new rows also relate what one step through the middle does
pub record Passes (old new : List (List ℕ)) (middle : ℕ) : Type 0 where
  pub rows : IsRelation (length old) new
  pub grows : (a b : ℕ) → Related old a b → Related new a b
  pub held : (a b : ℕ) → Related old a middle → Related old middle b → Related new a b
  pub sound : (a b : ℕ) → Related new a b → Related old a b ⊎ (Related old a middle × Related old middle b)

-- an order, and its relation from the other side
pub record IsKept (order : Order) (under : List (List ℕ)) : Type 0 where
  pub valid : IsOrder order
  pub turned : AreTurned order.above under
