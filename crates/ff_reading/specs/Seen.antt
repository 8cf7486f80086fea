-- Which names stood before.
use Rattle.std.specs.Prelude.{◌≡◌, ℕ, List}
use Rattle.std.specs.List.{list_any}
use Rattle.std.specs.Str.{bytes_eq}
use Rattle.std.specs.Ordering.{nat_cmp}
use Rattle.std.specs.Cmp.Lexicographic.{slice_cmp}
use Rattle.std.specs.BTreeSet.{BTreeSet, contains}

-- the set has exactly these names
abbrev pub HasSeen : BTreeSet (List ℕ) → List (List ℕ) → Type 0
HasSeen seen names = (word : List ℕ) → contains (slice_cmp nat_cmp) seen word ≡ list_any (bytes_eq word) names
