-- A list with one cell changed.
use Rattle.std.specs.Prelude.{ℕ, List, Option, Some, None, slice_get, slice_set}

-- where there is such a cell, what `f` makes of it stands at place i
abbrev pub edited_cell : {V : Type 0} → (V → V) → ℕ → List V → Option V → List V
edited_cell f i cells (Some cell) = slice_set cells i (f cell)
edited_cell f i cells None = cells

-- the list in which the cell at place i, where it has one, is what `f` makes of it
abbrev pub edited_at : {V : Type 0} → (V → V) → ℕ → List V → List V
edited_at f i cells = edited_cell f i cells (slice_get cells i)
