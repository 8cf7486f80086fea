-- The names of levels and the pairs between them, the order that these give, and the faults that
-- keep it from being a lattice.
use Rattle.std.specs.Prelude.{◌≡◌, ℕ, ◌<◌, ◌≤◌, ◌⊎◌, ◌↔◌, true, false, List, [], length, get_or}
use Rattle.ff_lattice.specs.declared.fault.LatticeFault.{LatticeFault}
use Rattle.ff_lattice.specs.declared.fault.LatticeFault.TheVariants.{NoLevels, TooMany, BadName, Repeated, Unknown, Cycle, NoJoin, NoMeet, NoMemory}
use Rattle.ff_lattice.specs.declared.names.TheConstants.{MOST_LEVELS}
use Rattle.ff_lattice.specs.declared.pair.Pair.{Pair}
use Rattle.ff_lattice.specs.Bounds.{Chain, HasJoin, LacksJoin, LacksMeet, AreCyclic, IsLattice, IsFirst, NoPair, EachPair, IsLeastPair}
use Rattle.ff_lattice.specs.Order.{Order, leq, is_level_name, IsOrder}

-- the name at a place
abbrev pub nth : List (List ℕ) → ℕ → List ℕ
nth names place = get_or names place []

-- the pair at a place
abbrev pub pair_at : List Pair → ℕ → Pair
pair_at below place = get_or below place (record { low = []; high = [] })

-- the name at this place stands before, too
abbrev pub IsRepeat : List (List ℕ) → ℕ → Type 0
IsRepeat names place = (k : ℕ) × (k < place) × (nth names k ≡ nth names place)

-- a level has this name
abbrev pub IsLevel : List (List ℕ) → List ℕ → Type 0
IsLevel names text = (l : ℕ) × (l < length names) × (nth names l ≡ text)

-- both names of the pair are levels
abbrev pub IsKnown : List (List ℕ) → Pair → Type 0
IsKnown names pair = IsLevel names pair.low × IsLevel names pair.high

-- one of the first pairs has these two names
abbrev pub IsAmongFirst : ℕ → List Pair → List ℕ → List ℕ → Type 0
IsAmongFirst count below low high = (k : ℕ) × (k < count) × ((pair_at below k).low ≡ low) × ((pair_at below k).high ≡ high)

-- some pair has these two names
abbrev pub IsGiven : List Pair → List ℕ → List ℕ → Type 0
IsGiven below low high = IsAmongFirst (length below) below low high

-- a chain of pairs leads from the level a to the level b: the least reflexive and transitive order
-- that holds the pairs
abbrev pub Reaches : List (List ℕ) → List Pair → ℕ → ℕ → Type 0
Reaches names below a b = Chain (IsGiven below) (nth names a) (nth names b)

-- there are 1 to MOST_LEVELS names
pub record AreSized (names : List (List ℕ)) : Type 0 where
  pub some : 1 ≤ length names
  pub few : length names ≤ MOST_LEVELS

-- and each is spelled as the name of a level
pub record AreNamed (names : List (List ℕ)) : Type 0 where
  pub sized : AreSized names
  pub named : (l : ℕ) → l < length names → is_level_name (nth names l) ≡ true

-- and no two are equal
pub record AreApart (names : List (List ℕ)) : Type 0 where
  pub named : AreNamed names
  pub apart : (l : ℕ) → l < length names → ¬ IsRepeat names l

-- and the pairs name no others
pub record AreLevels (names : List (List ℕ)) (below : List Pair) : Type 0 where
  pub apart : AreApart names
  pub known : (k : ℕ) → k < length below → IsKnown names (pair_at below k)

-- the first name that stands before, too
pub record IsFirstRepeat (names : List (List ℕ)) (text : List ℕ) : Type 0 where
  pub place : ℕ
  pub first : IsFirst (length names) (IsRepeat names) place
  pub is : text ≡ nth names place

-- the name of the pair that is no level, the low one before the high one
abbrev pub IsUnknownOf : List (List ℕ) → Pair → List ℕ → Type 0
IsUnknownOf names pair text =
    ((¬ IsLevel names pair.low) × (text ≡ pair.low)) ⊎ (IsLevel names pair.low × (¬ IsLevel names pair.high) × (text ≡ pair.high))

-- the first name in the pairs that is no level
pub record IsFirstUnknown (names : List (List ℕ)) (below : List Pair) (text : List ℕ) : Type 0 where
  pub place : ℕ
  pub within : place < length below
  pub first : (k : ℕ) → k < place → IsKnown names (pair_at below k)
  pub is : IsUnknownOf names (pair_at below place) text

-- the names of the least pair that shows P
pub record AreLeastNames (names : List (List ℕ)) (P : ℕ → ℕ → Type 0) (low high : List ℕ) : Type 0 where
  pub a : ℕ
  pub b : ℕ
  pub pair : IsLeastPair (length names) P a b
  pub low_is : low ≡ nth names a
  pub high_is : high ≡ nth names b

-- the fault of an order of the levels: a cycle, else a missing join, else a missing meet
abbrev pub IsOrderFault : List (List ℕ) → (ℕ → ℕ → Type 0) → LatticeFault → Type 0
IsOrderFault names R (Cycle a b) = AreLeastNames names (AreCyclic R) a b
IsOrderFault names R (NoJoin a b) = NoPair (length names) (AreCyclic R) × AreLeastNames names (LacksJoin R (length names)) a b
IsOrderFault names R (NoMeet a b) =
    NoPair (length names) (AreCyclic R) × EachPair (length names) (HasJoin R (length names)) × AreLeastNames names (LacksMeet R (length names)) a b
IsOrderFault names R _ = ⊥

-- the fault that comes first. Each holds only where those before it don't
abbrev pub IsFault : List (List ℕ) → List Pair → LatticeFault → Type 0
IsFault names below NoLevels = names ≡ []
IsFault names below TooMany = MOST_LEVELS < length names
IsFault names below (BadName place) = AreSized names × IsFirst (length names) (λ l. is_level_name (nth names l) ≡ false) place
IsFault names below (Repeated text) = AreNamed names × IsFirstRepeat names text
IsFault names below (Unknown text) = AreApart names × IsFirstUnknown names below text
IsFault names below (Cycle a b) = AreLevels names below × IsOrderFault names (Reaches names below) (Cycle a b)
IsFault names below (NoJoin a b) = AreLevels names below × IsOrderFault names (Reaches names below) (NoJoin a b)
IsFault names below (NoMeet a b) = AreLevels names below × IsOrderFault names (Reaches names below) (NoMeet a b)
IsFault names below NoMemory = ⊥

-- the lattice of these names and pairs
pub record IsLatticeOf (names : List (List ℕ)) (below : List Pair) (built : Order) : Type 0 where
  pub levels : AreLevels names below
  pub named : built.names ≡ names
  pub order : (a b : ℕ) → a < length names → b < length names → (leq built a b ≡ true) ↔ Reaches names below a b
  pub lattice : IsLattice (Reaches names below) (length names)
  pub valid : IsOrder built
