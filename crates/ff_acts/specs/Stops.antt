-- Where a search for a variable ends, and where a new one is linked.
use Rattle.std.specs.Prelude.{◌≡◌, ℕ, suc, ◌<◌, true, Option, Some, None, List, [], length, slice_get, slice_set, slice_index_or, option_and_then}
use Rattle.ff_value.specs.declared.ids.ActId.{ActId}
use Rattle.ff_value.specs.declared.value.Val.TheVariants as val
use Rattle.ff_machine.specs.Windows.{holder}
use Rattle.ff_acts.specs.declared.cells.ActCell.{ActCell}
use Rattle.ff_acts.specs.declared.cells.VarCell.{VarCell}
use Rattle.ff_acts.specs.declared.searching.Place.{Place}
use Rattle.ff_acts.specs.declared.searching.Place.TheVariants.{Top, Left, Right}
use Rattle.ff_acts.specs.declared.searching.Stop.{Stop}
use Rattle.ff_acts.specs.declared.searching.Stop.TheVariants.{Found, Open}
use Rattle.ff_acts.specs.Digits.{digits}
use Rattle.ff_acts.specs.Held.{is_var, found, top_of, seen}

-- the place is the activation's, or that of a cell that there is
abbrev pub LivesAt : List VarCell → Place → Type 0
LivesAt cells Top = Unit {0}
LivesAt cells (Left k) = k < length cells
LivesAt cells (Right k) = k < length cells

-- the link at a place
abbrev pub link_at : Option ℕ → List VarCell → Place → Option ℕ
link_at top cells Top = top
link_at top cells (Left k) = option_and_then (λ cell. cell.left) (slice_get cells k)
link_at top cells (Right k) = option_and_then (λ cell. cell.right) (slice_get cells k)

-- the first cell to which a link at the place may lead
abbrev pub after_place : Place → ℕ
after_place Top = 0
after_place (Left k) = suc k
after_place (Right k) = suc k

-- what stands past the last activation
abbrev pub no_act_cell : ActCell
no_act_cell = record { parent = None; top = None }

-- what stands past the last variable
abbrev pub no_var_cell : VarCell
no_var_cell = record { owner = record { 0 = 0 }; name = []; value = val.Null; left = None; right = None }

-- the link at the place is set, if it is the activation's
abbrev pub put_top : List ActCell → ActId → Place → ℕ → List ActCell
put_top acts a Top to = slice_set acts a.0 (record (slice_index_or acts a.0 no_act_cell) { top = Some to })
put_top acts a (Left k) to = acts
put_top acts a (Right k) to = acts

-- the link at the place is set, if it is a variable's
abbrev pub put_link : List VarCell → Place → ℕ → List VarCell
put_link cells Top to = cells
put_link cells (Left k) to = slice_set cells k (record (slice_index_or cells k no_var_cell) { left = Some to })
put_link cells (Right k) to = slice_set cells k (record (slice_index_or cells k no_var_cell) { right = Some to })

-- the link stays if it leads anywhere
abbrev pub Stays : Option ℕ → Option ℕ → Type 0
Stays old new = (k : ℕ) → old ≡ Some k → new ≡ Some k

-- the variable stays, and its links stay
pub record CellStays (old new : VarCell) : Type 0 where
  pub owner : new.owner ≡ old.owner
  pub name : new.name ≡ old.name
  pub left : Stays old.left new.left
  pub right : Stays old.right new.right

-- each cell stays where it is
abbrev pub Extends : List VarCell → List VarCell → Type 0
Extends old new = (k : ℕ) (cell : VarCell) → slice_get old k ≡ Some cell → (later : VarCell) × (slice_get new k ≡ Some later) × CellStays cell later

-- a search that comes to no variable ends at this place: a variable that is linked there is found
pub record IsOpen (top : Option ℕ) (cells : List VarCell) (a : ActId) (x : List ℕ) (place : Place) : Type 0 where
  pub empty : link_at top cells place ≡ None
  pub lives : LivesAt cells place
  pub none : (steps i : ℕ) → found steps cells a x (digits x) top ≡ Some i → ⊥
  pub leads : (first : Option ℕ) (new : List VarCell) (i : ℕ) (cell : VarCell) → Stays top first → Extends cells new → link_at first new place ≡ Some i → slice_get new i ≡ Some cell → is_var a x cell ≡ true
      → found (suc (after_place place)) new a x (digits x) first ≡ Some i

-- the variable of that name of the activation stands there
pub record IsVarAt (cells : List VarCell) (a : ActId) (x : List ℕ) (k : ℕ) : Type 0 where
  pub cell : VarCell
  pub at : slice_get cells k ≡ Some cell
  pub owner : cell.owner ≡ a
  pub name : cell.name ≡ x

-- where the search for a variable ends
abbrev pub IsStop : List ActCell → List VarCell → ActId → List ℕ → Stop → Type 0
IsStop acts cells a x (Found k) = IsVarAt cells a x k
IsStop acts cells a x (Open place) = IsOpen (top_of acts a) cells a x place

-- the place of the variable that the nearest activation has
pub record IsNearestAt (acts : List ActCell) (cells : List VarCell) (a : ActId) (x : List ℕ) (k : ℕ) : Type 0 where
  pub cell : VarCell
  pub at : slice_get cells k ≡ Some cell
  pub name : cell.name ≡ x
  pub holds : holder (seen acts cells) a x ≡ Some cell.owner

-- the nearest variable, or that there is none
abbrev pub IsHolder : List ActCell → List VarCell → ActId → List ℕ → Option ℕ → Type 0
IsHolder acts cells a x None = holder (seen acts cells) a x ≡ None
IsHolder acts cells a x (Some k) = IsNearestAt acts cells a x k
