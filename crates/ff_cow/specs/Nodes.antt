-- The nodes below a branch, from the left, each seen by the cells below it.
use Rattle.std.specs.Prelude.{◌≡◌, ℕ, ◌≤◌, List, [], ◌∷◌, length, All}
use Rattle.std.specs.List.{flat_map}

abbrev pub cells_of : {T V : Type 0} → (T → List V) → List T → List V
cells_of cells kids = flat_map cells kids

-- Each node but the last is full, and the last has no more cells than it has room for.
abbrev pub IsPacked : {T V : Type 0} → ℕ → (T → List V) → List T → Type 0
IsPacked room cells [] = Unit {0}
IsPacked room cells (kid ∷ []) = length (cells kid) ≤ room
IsPacked room cells (kid ∷ next ∷ kids) = (length (cells kid) ≡ room) × IsPacked room cells (next ∷ kids)

-- At most sixteen nodes, each of them a good one, stand as close as they can.
pub record AreNodes {T V : Type 0} (room : ℕ) (cells : T → List V) (is_valid : T → Type 0) (kids : List T) : Type 0 where
  pub narrow : length kids ≤ 16
  pub valid : All is_valid kids
  pub packed : IsPacked room cells kids
