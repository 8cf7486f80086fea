-- How the classes of a saved text are gathered from its rows, one row after another, and which rows
-- the lines of a text say.
use Rattle.std.specs.Prelude.{◌≡◌, ◌<◌, ◌≤◌, ℕ, Option, Some, Ok, All, List, [], ◌∷◌, ◌++◌, length}
use Rattle.ff_io.specs.Cutting.{content, after_line}
use Rattle.ff_lattice.specs.Order.{Order}
use Rattle.ff_machine.specs.Stores.{Stores}
use Rattle.ff_stores.specs.Restored.{AreUntouched}
use Rattle.ff_text.specs.declared.reading.TheConstants.{MOST_BYTES}
use Rattle.ff_saved_rows.specs.Drafting.{no_recs, and_then, added}
use Rattle.ff_saved_rows.specs.Reading.{ReadsRow}
use Rattle.ff_saved_rows.specs.Recs.{StoresRecs, stores_recs}
use Rattle.ff_saved_rows.specs.Rows.{rows_text, IsRow, FitsLine}
use Rattle.ff_saved_rows.specs.declared.row.Row.{Row}
use Rattle.ff_saved_rows.specs.declared.row.Row.TheVariants as row
use Rattle.ff_save.specs.Saved.{SavedRecs}

-- the classes, the records of the browsers of all but the last one, and what was gathered of the
-- last one's
pub record Gathered : Type 0 where
  pub classes : List (List ℕ)
  pub done : List StoresRecs
  pub last : StoresRecs

abbrev pub no_classes : Gathered
no_classes = record { classes = []; done = []; last = no_recs }

-- the records of all browsers, where the last one's are whole: none where there is no class
abbrev pub with_last_class : List (List ℕ) → List StoresRecs → StoresRecs → List StoresRecs
with_last_class [] done last = done
with_last_class (class ∷ classes) done last = done ++ last ∷ []

abbrev pub browsers_of : Gathered → List StoresRecs
browsers_of g = with_last_class g.classes g.done g.last

abbrev pub saved_of : Gathered → SavedRecs
saved_of g = record { classes = g.classes; browsers = browsers_of g }

-- One row more. A class ends the one before it; the first two rows of a text and its last one tell
-- nothing; each other row is one of the last class. None where it belongs to nothing there.
abbrev pub gathered_more : Gathered → Row → Option Gathered
gathered_more g row.Head = Some g
gathered_more g (row.Policy text) = Some g
gathered_more g (row.Class levels) = Some (record { classes = g.classes ++ levels ∷ []; done = browsers_of g; last = no_recs })
gathered_more g row.End = Some g
gathered_more g one = and_then (added g.last one) (λ last. Some (record g { last = last }))

abbrev pub gathered_all : Gathered → List Row → Option Gathered
gathered_all g [] = Some g
gathered_all g (row ∷ rows) = and_then (gathered_more g row) (λ more. gathered_all more rows)

-- the records of valid stores
abbrev pub AreStored : StoresRecs → Type 0
AreStored recs = (s : Stores) × AreUntouched s × (stores_recs s ≡ recs)

-- The lines of a text say rows, in whatever spelling.
pub data ReadsRows (order : Order) : List ℕ → List Row → Type 0 where
  no_line : ReadsRows order [] []
  one_line : (bytes : List ℕ) (row : Row) (rows : List Row) → 0 < length bytes → length (content bytes) ≤ MOST_BYTES → ReadsRow order (content bytes) (Ok row) → ReadsRows order (after_line bytes) rows → ReadsRows order bytes (row ∷ rows)

-- A text is that of rows.
pub record IsTextOf (order : Order) (bytes : List ℕ) (rows : List Row) : Type 0 where
  pub spelled : All (IsRow order) rows
  pub fit : All (FitsLine order) rows
  pub text : bytes ≡ rows_text order rows

-- what was gathered, and a text that is to come, are no saved text
abbrev pub IsNoText : Order → List ℕ → Gathered → Type 0
IsNoText order bytes g = (rows : List Row) (all : Gathered) → IsTextOf order bytes rows → gathered_all g rows ≡ Some all → All AreStored (browsers_of all) → ⊥
