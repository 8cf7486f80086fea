-- Chains of a relation, bounds of two levels, what a lattice is, and the first place or pair that
-- shows something.
use Rattle.std.specs.Prelude.{◌≡◌, ℕ, ◌<◌}

-- b is reached from a by steps of the relation, or by none
pub data Chain {X : Type 0} (R : X → X → Type 0) : X → X → Type 0 where
  here : (a : X) → Chain R a a
  step : (a b c : X) → R a b → Chain R b c → Chain R a c

-- the relation from its other side
abbrev pub Flip : (ℕ → ℕ → Type 0) → ℕ → ℕ → Type 0
Flip R a b = R b a

-- c is above a and b, and below each level that is
pub record IsJoin (R : ℕ → ℕ → Type 0) (n a b c : ℕ) : Type 0 where
  pub within : c < n
  pub above_first : R a c
  pub above_second : R b c
  pub least : (d : ℕ) → d < n → R a d → R b d → R c d

-- c is below a and b, and above each level that is
abbrev pub IsMeet : (ℕ → ℕ → Type 0) → ℕ → ℕ → ℕ → ℕ → Type 0
IsMeet R n a b c = IsJoin (Flip R) n a b c

-- some level is the join
abbrev pub HasJoin : (ℕ → ℕ → Type 0) → ℕ → ℕ → ℕ → Type 0
HasJoin R n a b = (c : ℕ) × IsJoin R n a b c

-- some level is the meet
abbrev pub HasMeet : (ℕ → ℕ → Type 0) → ℕ → ℕ → ℕ → Type 0
HasMeet R n a b = HasJoin (Flip R) n a b

-- no level is the join
abbrev pub LacksJoin : (ℕ → ℕ → Type 0) → ℕ → ℕ → ℕ → Type 0
LacksJoin R n a b = ¬ HasJoin R n a b

-- no level is the meet
abbrev pub LacksMeet : (ℕ → ℕ → Type 0) → ℕ → ℕ → ℕ → Type 0
LacksMeet R n a b = LacksJoin (Flip R) n a b

-- each is below the other
abbrev pub AreCyclic : (ℕ → ℕ → Type 0) → ℕ → ℕ → Type 0
AreCyclic R a b = R a b × R b a

-- no two levels are each below the other, and every two have a join and a meet
pub record IsLattice (R : ℕ → ℕ → Type 0) (n : ℕ) : Type 0 where
  pub antisymmetric : (a b : ℕ) → a < n → b < n → R a b → R b a → a ≡ b
  pub joins : (a b : ℕ) → a < n → b < n → HasJoin R n a b
  pub meets : (a b : ℕ) → a < n → b < n → HasMeet R n a b

-- the least place below n that shows P
pub record IsFirst (n : ℕ) (P : ℕ → Type 0) (place : ℕ) : Type 0 where
  pub within : place < n
  pub shows : P place
  pub first : (k : ℕ) → k < place → ¬ P k

-- no two levels, the lesser before the greater, show P
abbrev pub NoPair : ℕ → (ℕ → ℕ → Type 0) → Type 0
NoPair n P = (a b : ℕ) → a < b → b < n → ¬ P a b

-- every two levels, the lesser before the greater, show P
abbrev pub EachPair : ℕ → (ℕ → ℕ → Type 0) → Type 0
EachPair n P = (a b : ℕ) → a < b → b < n → P a b

-- the least pair that shows P: the least a that has a b after it, and for it the least b
pub record IsLeastPair (n : ℕ) (P : ℕ → ℕ → Type 0) (a b : ℕ) : Type 0 where
  pub ordered : a < b
  pub within : b < n
  pub shows : P a b
  pub least_first : (c d : ℕ) → c < a → c < d → d < n → ¬ P c d
  pub least_second : (d : ℕ) → a < d → d < b → ¬ P a d
