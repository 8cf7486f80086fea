-- Laws of a list with one cell changed.
use Rattle.std.proofs.Common.{◌≡◌, ℕ, zero, suc, ◌<◌, List, [], ◌∷◌, length, set, ap, refl, ◌∙◌, arith}
use Rattle.std.specs.Prelude.{Some, slice_get}
use Rattle.std.proofs.lemmas.List.{length-set}
use Rattle.ff_cow.specs.Edits.{edited_cell, edited_at}

-- a place within the list has a cell
pub some_cell : {V P : Type 0} (cells : List V) (i : ℕ) → i < length cells → ((cell : V) → slice_get cells i ≡ Some cell → P) → P
some_cell [] i within after = absurd (omega arith)
some_cell (cell ∷ cells) zero within after = after cell refl
some_cell (cell ∷ cells) (suc i) within after = some_cell cells i (omega arith) after

-- the place has a cell: the list is the old one but for it
pub edited_at-cell : {V : Type 0} (f : V → V) (cells : List V) (i : ℕ) (cell : V) → slice_get cells i ≡ Some cell → edited_at f i cells ≡ set cells i (f cell)
edited_at-cell f cells i cell is = ap (edited_cell f i cells) is

-- no place is lost and none is new
pub length-edited : {V : Type 0} (f : V → V) (cells : List V) (i : ℕ) → i < length cells → length (edited_at f i cells) ≡ length cells
length-edited f cells i within =
    some_cell cells i within (λ cell is. ap length (edited_at-cell f cells i cell is) ∙ length-set _ _ _)
