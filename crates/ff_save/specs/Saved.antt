-- What a pool at rest is saved as: records, and the text of their rows.
use Rattle.std.specs.Prelude.{ℕ, List, [], ◌∷◌, ◌++◌, map}
use Rattle.ff_machine.specs.State.{State}
use Rattle.ff_policy.specs.Assignment.{Assignment}
use Rattle.ff_policy.specs.Printing.{printed}
use Rattle.ff_pool.specs.Pooled.{Pooled}
use Rattle.ff_pool.specs.Restored.{pool_recs}
use Rattle.ff_saved_rows.specs.Recs.{StoresRecs, stores_recs}
use Rattle.ff_saved_rows.specs.Rows.{rows_text, stores_rows}
use Rattle.ff_saved_rows.specs.declared.row.Row.{Row}
use Rattle.ff_saved_rows.specs.declared.row.Row.TheVariants.{Head, Policy, Class, End}

-- the classes of a pool by their least levels, and the records of each one's browser
pub record SavedRecs : Type 0 where
  pub classes : List (List ℕ)
  pub browsers : List StoresRecs

abbrev pub saved_recs : Pooled → SavedRecs
saved_recs p = record { classes = (pool_recs p).classes; browsers = map (λ (s : State). stores_recs s.stores) (pool_recs p).browsers }

-- the rows of each class: its levels, and the stores of its browser
abbrev pub classes_rows : List (List ℕ) → List StoresRecs → List Row
classes_rows [] browsers = []
classes_rows (class ∷ classes) [] = []
classes_rows (class ∷ classes) (stores ∷ browsers) = Class class ∷ (stores_rows stores ++ classes_rows classes browsers)

-- all rows: which text it is, under which policy, the classes, and the end
abbrev pub saved_rows : Assignment → SavedRecs → List Row
saved_rows p recs = Head ∷ Policy (printed p) ∷ (classes_rows recs.classes recs.browsers ++ End ∷ [])

-- the saved text: a line for each row
abbrev pub saved_text : Assignment → SavedRecs → List ℕ
saved_text p recs = rows_text p.order (saved_rows p recs)
