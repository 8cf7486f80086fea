-- How activations and their variables lie in two lists of cells, and what the cells keep.
use Rattle.std.specs.Prelude.{◌≡◌, ℕ, zero, suc, ◌<◌, ◌≤◌, Bool, cond, ◌==◌, ◌&&◌, ◌/◌, ◌%◌, Option, Some, None, List, [], ◌∷◌, length, map, filter, slice_get, bytes_eq, option_and_then}
use Rattle.std.specs.Option.{ForSome}
use Rattle.std.specs.FinMap as finmap
use Rattle.ff_value.specs.declared.ids.ActId.{ActId}
use Rattle.ff_value.specs.declared.value.Val.{Val}
use Rattle.ff_machine.specs.declared.limits.TheConstants.{MOST_ACTS, MOST_VARS}
use Rattle.ff_machine.specs.Windows.{Activation, Vars, count_vars}
use Rattle.ff_acts.specs.declared.cells.ActCell.{ActCell}
use Rattle.ff_acts.specs.declared.cells.VarCell.{VarCell}
use Rattle.ff_acts.specs.Digits.{digits}

-- the names and values of an activation's variables
abbrev pub rows : ℕ → List VarCell → List (List ℕ × Val)
rows a cells = map (λ cell. (cell.name, cell.value)) (filter (λ cell. cell.owner.0 == a) cells)

-- the variables of an activation
abbrev pub vars_in : List VarCell → ℕ → Vars
vars_in cells a = finmap.from_entries (rows a cells)

-- activations that are numbered from one on
abbrev pub seen_from : ℕ → List ActCell → List VarCell → List Activation
seen_from a [] cells = []
seen_from a (act ∷ acts) cells = record { parent = act.parent; vars = vars_in cells a } ∷ seen_from (suc a) acts cells

-- the activations that the cells stand for
unfoldable pub seen : List ActCell → List VarCell → List Activation
seen acts cells = seen_from 0 acts cells

-- the cell is the variable of that name of the activation
abbrev pub is_var : ActId → List ℕ → VarCell → Bool
is_var a x cell = cell.owner.0 == a.0 && bytes_eq cell.name x

-- the link by which a search goes on from a cell
abbrev pub link_of : VarCell → ℕ → Option ℕ
link_of cell rest = cond (rest % 2 == 1) cell.right cell.left

-- the place of a variable, where a search from a link comes to it in so many steps at most
abbrev pub found : ℕ → List VarCell → ActId → List ℕ → ℕ → Option ℕ → Option ℕ
found zero cells a x rest link = None
found (suc more) cells a x rest link =
    option_and_then (λ k. option_and_then (λ cell. cond (is_var a x cell) (Some k) (found more cells a x (rest / 2) (link_of cell rest))) (slice_get cells k)) link

-- the link to the first variable of an activation
abbrev pub top_of : List ActCell → ActId → Option ℕ
top_of acts a = option_and_then (λ act. act.top) (slice_get acts a.0)

-- a link leads to a cell at this place or later, if it leads anywhere
abbrev pub IsLink : List VarCell → ℕ → Option ℕ → Type 0
IsLink cells low link = ForSome link (λ k. (low ≤ k) × (k < length cells))

-- the links of a variable lead to later ones
pub record HasLinks (cells : List VarCell) (i : ℕ) (cell : VarCell) : Type 0 where
  pub left : IsLink cells (suc i) cell.left
  pub right : IsLink cells (suc i) cell.right

-- an activation's parent was made before it, and its link leads to a cell
pub record IsActCell (cells : List VarCell) (a : ℕ) (act : ActCell) : Type 0 where
  pub parent : ForSome act.parent (λ p. p.0 < a)
  pub top : IsLink cells 0 act.top

-- each variable is found by its activation and its name
abbrev pub AreFound : List ActCell → List VarCell → Type 0
AreFound acts cells = (i : ℕ) (cell : VarCell) → slice_get cells i ≡ Some cell → found (length cells) cells cell.owner cell.name (digits cell.name) (top_of acts cell.owner) ≡ Some i

-- cells of activations and variables, as many as there may be
pub record AreHeld (acts : List ActCell) (cells : List VarCell) : Type 0 where
  pub few_acts : length acts ≤ MOST_ACTS
  pub few_vars : length cells ≤ MOST_VARS
  pub counted : count_vars (seen acts cells) ≡ length cells
  pub each_act : (a : ℕ) (act : ActCell) → slice_get acts a ≡ Some act → IsActCell cells a act
  pub links : (i : ℕ) (cell : VarCell) → slice_get cells i ≡ Some cell → HasLinks cells i cell
  pub each_var : AreFound acts cells
