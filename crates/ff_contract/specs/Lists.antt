-- Words for lists of any items.
use Rattle.std.specs.Prelude.{◌≡◌, ℕ, zero, suc, List, [], ◌∷◌, ◌++◌}

-- the numbers below n, in rising order
abbrev pub below : ℕ → List ℕ
below zero = []
below (suc n) = below n ++ n ∷ []

-- a list begins with another
abbrev pub Begins : {X : Type 0} → List X → List X → Type 0
Begins {X} whole first = (rest : List X) × (whole ≡ first ++ rest)
