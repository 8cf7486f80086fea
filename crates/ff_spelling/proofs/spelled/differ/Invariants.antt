use Rattle.std.proofs.Common.{◌≡◌, ◌≤◌, ℕ, List, bytes_eq, length, drop}
use Rattle.std.specs.List.{list_any}
use Rattle.std.specs.Ordering.{nat_cmp}
use Rattle.std.specs.Cmp.Lexicographic.{slice_cmp}
use Rattle.std.specs.BTreeSet.{contains}
use Rattle.ff_tree.specs.Spelled.{Differ}
use Rattle.ff_spelling.proofs.spelled.differ.Given as goal

-- the names from here on differ, and the set has them
abbrev pub invariant-loop-i : goal.invariant-loop-i
invariant-loop-i l = record {
  within : l.i ≤ length l.names;
  kept : (word : List ℕ) → contains (slice_cmp nat_cmp) l.later word ≡ list_any (bytes_eq word) (drop l.i l.names);
  differ : Differ (drop l.i l.names);
}

abbrev pub decreases-loop-i : goal.decreases-loop-i
decreases-loop-i l = l.i
