-- What is held of the classes of a saved text while its lines are read. Only private contracts cite
-- it.
use Rattle.std.specs.Prelude.{◌≡◌, ◌≢◌, ◌≤◌, ℕ, Bool, true, false, Option, Some, None, Ok, All, List, [], ◌∷◌, ◌++◌, length, map}
use Rattle.ff_lattice.specs.Order.{Order}
use Rattle.ff_machine.specs.State.{State}
use Rattle.ff_machine.specs.Stores.{Stores}
use Rattle.ff_stores.specs.Restored.{AreUntouched}
use Rattle.ff_text.specs.declared.reading.TheConstants.{MOST_BYTES}
use Rattle.ff_saved_rows.specs.Drafted.{so_far}
use Rattle.ff_saved_rows.specs.Drafting.{no_recs}
use Rattle.ff_saved_rows.specs.Reading.{ReadsRow}
use Rattle.ff_saved_rows.specs.Recs.{StoresRecs, stores_recs}
use Rattle.ff_saved_rows.specs.Rows.{row_text, IsRow, FitsLine}
use Rattle.ff_saved_rows.specs.declared.draft.Draft.{Draft}
use Rattle.ff_saved_rows.specs.declared.row.Row.{Row}
use Rattle.ff_saved_rows.specs.declared.row.Row.TheVariants as row
use Rattle.ff_save.specs.Gathered.{Gathered, no_classes, browsers_of, gathered_more, gathered_all, ReadsRows, IsTextOf, IsNoText}
use Rattle.ff_save.specs.declared.gathering.Gathering.{Gathering}
use Rattle.ff_save.specs.Rest.{IsAtRest}

-- what is held: the fuel that each input brings, the classes, the states of their browsers, and the
-- draft of the last class's stores
pub record Held : Type 0 where
  pub fuel : ℕ
  pub classes : List (List ℕ)
  pub browsers : List State
  pub draft : Draft

abbrev pub held_by : {B : Type 0} → (B → State) → Gathering B → Held
held_by state g = record { fuel = g.fuel; classes = g.classes.items; browsers = map state g.browsers.items; draft = g.draft }

abbrev pub records_of : State → StoresRecs
records_of s = stores_recs s.stores

-- what was gathered: classes, browsers at rest with the records of all but the last, and the
-- records of that one
pub record Holds (fuel : ℕ) (g : Gathered) (h : Held) : Type 0 where
  pub fuel_is : h.fuel ≡ fuel
  pub classes : h.classes ≡ g.classes
  pub browsers : map records_of h.browsers ≡ g.done
  pub rest : All (IsAtRest fuel) h.browsers
  pub last : so_far h.draft ≡ g.last

-- no valid stores have these records
abbrev pub AreOfNone : StoresRecs → Type 0
AreOfNone recs = (s : Stores) → AreUntouched s → stores_recs s ≢ recs

-- the last class, which there is, has records that no valid stores have
pub record IsSpoiled (g : Gathered) : Type 0 where
  pub first : List ℕ
  pub others : List (List ℕ)
  pub some : g.classes ≡ first ∷ others
  pub none : AreOfNone g.last

-- the last class has its browser too
abbrev pub Ends : ℕ → Gathered → Bool → Held → Type 0
Ends fuel g true new = Holds fuel (record { classes = g.classes; done = browsers_of g; last = no_recs }) new
Ends fuel g false new = IsSpoiled g

-- and there is one more
abbrev pub Begins : ℕ → Gathered → List ℕ → Bool → Held → Type 0
Begins fuel g levels true new = Holds fuel (record { classes = g.classes ++ levels ∷ []; done = browsers_of g; last = no_recs }) new
Begins fuel g levels false new = IsSpoiled g

-- why a row can't come next: it belongs to nothing, or it ends a class that no browser has
pub data IsStuck (g : Gathered) : Row → Type 0 where
  nowhere : (one : Row) → gathered_more g one ≡ None → IsStuck g one
  spoiled : (levels : List ℕ) → IsSpoiled g → IsStuck g (row.Class levels)

-- one row more
pub record HasMore (fuel : ℕ) (g : Gathered) (one : Row) (new : Held) : Type 0 where
  pub more : Gathered
  pub is : gathered_more g one ≡ Some more
  pub holds : Holds fuel more new

abbrev pub AddsRow : ℕ → Gathered → Row → Bool → Held → Type 0
AddsRow fuel g one true new = HasMore fuel g one new
AddsRow fuel g one false new = IsStuck g one

-- a line whose row is this one
abbrev pub IsLineOf : Order → List ℕ → Row → Type 0
IsLineOf order line one = IsRow order one × FitsLine order one × (line ≡ row_text order one)

-- the row of one line more, which is the only one whose line it may be
pub record HasLine (order : Order) (fuel : ℕ) (g : Gathered) (line : List ℕ) (new : Held) : Type 0 where
  pub one : Row
  pub short : length line ≤ MOST_BYTES
  pub reads : ReadsRow order line (Ok one)
  pub only : (other : Row) → IsLineOf order line other → other ≡ one
  pub added : HasMore fuel g one new

abbrev pub AddsLine : Order → ℕ → Gathered → List ℕ → Bool → Held → Type 0
AddsLine order fuel g line true new = HasLine order fuel g line new
AddsLine order fuel g line false new = (one : Row) → IsLineOf order line one → IsStuck g one

-- what was gathered of a whole text, which is that of no other rows
pub record HasText (order : Order) (fuel : ℕ) (bytes : List ℕ) (new : Held) : Type 0 where
  pub rows : List Row
  pub reads : ReadsRows order bytes rows
  pub all : Gathered
  pub is : gathered_all no_classes rows ≡ Some all
  pub holds : Holds fuel all new
  pub only : (others : List Row) → IsTextOf order bytes others → others ≡ rows

abbrev pub Gathers : Order → ℕ → List ℕ → Option Held → Type 0
Gathers order fuel bytes None = IsNoText order bytes no_classes
Gathers order fuel bytes (Some new) = HasText order fuel bytes new
