-- Variables as entries of a map: those of records, and those of each activation.
use Rattle.std.specs.Prelude.{◌≡◌, ℕ, ◌+◌, ◌<◌, Some, List, IsTrue, map, slice_get}
use Rattle.std.specs.Ordering.{nat_cmp}
use Rattle.std.specs.Cmp.Lexicographic.{slice_cmp}
use Rattle.std.specs.BTreeMap.{BTreeMap}
use Rattle.std.specs.FinMap as finmap
use Rattle.ff_value.specs.declared.value.Val.{Val}
use Rattle.ff_records.specs.declared.records.Variable.{Variable}
use Rattle.ff_acts.specs.declared.cells.VarCell.{VarCell}
use Rattle.ff_acts.specs.Held.{vars_in}

-- the entry of a variable
abbrev pub entry_of : Variable → List ℕ × Val
entry_of variable = (variable.name, variable.value)

-- they are in byte order of their names, and none stands twice
abbrev pub Rise : List Variable → Type 0
Rise vars = IsTrue (finmap.is_sorted (slice_cmp nat_cmp) (map entry_of vars))

-- each variable is that of an activation, of so many
abbrev pub OwnersLive : List VarCell → ℕ → Type 0
OwnersLive cells acts = (i : ℕ) (cell : VarCell) → slice_get cells i ≡ Some cell → cell.owner.0 < acts

-- the maps have the variables of the activations from one on, in byte order of their names
abbrev pub AreSorted : List VarCell → ℕ → List (BTreeMap (List ℕ) Val) → Type 0
AreSorted cells from each = (k : ℕ) (sorted : BTreeMap (List ℕ) Val) → slice_get each k ≡ Some sorted → sorted.entries ≡ finmap.entries (vars_in cells (from + k))
