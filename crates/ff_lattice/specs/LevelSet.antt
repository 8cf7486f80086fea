-- A set of levels as the list of its levels in rising order.
use Rattle.std.specs.Prelude.{◌≡◌, ℕ, ◌==◌, ◌<◌, zero, suc, Bool, true, false, List, [], ◌∷◌, ◌++◌, filter}
use Rattle.std.specs.List.{list_any}
use Rattle.ff_lattice.specs.declared.names.TheConstants.{MOST_LEVELS}

-- whether the set holds this level
abbrev pub has : List ℕ → ℕ → Bool
has set l = list_any (λ m. m == l) set

-- the numbers below n, in rising order: as `below` of ff_contract, and unfolded by name alone, so
-- that a set of all the levels that there may be stays one word in a goal
unfoldable pub below : ℕ → List ℕ
below zero = []
below (suc n) = below n ++ n ∷ []

-- the levels below MOST_LEVELS that pass a test, in rising order
abbrev pub levels_where : (ℕ → Bool) → List ℕ
levels_where passes = filter passes (below MOST_LEVELS)

-- a set holds levels below MOST_LEVELS alone, each once and in rising order
abbrev pub IsLevelSet : List ℕ → Type 0
IsLevelSet set = set ≡ levels_where (has set)

-- the set holds this level and none before it
pub record IsLeast (set : List ℕ) (l : ℕ) : Type 0 where
  pub held : has set l ≡ true
  pub first : (m : ℕ) → m < l → has set m ≡ false
