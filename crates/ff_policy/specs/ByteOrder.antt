-- In what order the members of a JSON value stand.
use Rattle.std.specs.Prelude.{◌≡◌, ℕ, List, ⊤}
use Rattle.std.specs.declared.cmp.Ordering.TheVariants.{Less}
use Rattle.std.specs.Ordering.{nat_cmp}
use Rattle.std.specs.Cmp.Lexicographic.{slice_cmp}
use Rattle.serde_json.specs.Data.{Data, null, boolean, number, string, array, object, Items, no_items, item, Members, no_members, member}

-- the key lies before each of the keys
abbrev pub IsBefore : List ℕ → Members → Type 0
IsBefore key no_members = ⊤
IsBefore key (member other value members) = (slice_cmp nat_cmp key other ≡ Less) × IsBefore key members

-- the keys rise in byte order
abbrev pub AreRising : Members → Type 0
AreRising no_members = ⊤
AreRising (member key value members) = IsBefore key members × AreRising members

-- and so do those of each object within
abbrev mutual
  pub IsInOrder : Data → Type 0
  IsInOrder null = ⊤
  IsInOrder (boolean b) = ⊤
  IsInOrder (number n) = ⊤
  IsInOrder (string s) = ⊤
  IsInOrder (array items) = AreInOrder items
  IsInOrder (object members) = AreRising members × HoldInOrder members

  pub AreInOrder : Items → Type 0
  AreInOrder no_items = ⊤
  AreInOrder (item value items) = IsInOrder value × AreInOrder items

  pub HoldInOrder : Members → Type 0
  HoldInOrder no_members = ⊤
  HoldInOrder (member key value members) = IsInOrder value × HoldInOrder members
