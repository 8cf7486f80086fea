use Rattle.std.proofs.Common.{◌≡◌, ℕ, nat_eq, filter_map, take}
use Rattle.std.specs.List.{All, IsDistinct, list_any}
use Rattle.std.specs.Ordering.{nat_cmp}
use Rattle.std.specs.BTreeSet.{contains}
use Rattle.ff_machine.specs.Alone.{IsEntry, waiting}
use Rattle.ff_windows.proofs.checking.is_queue.Given as goal

-- the entries so far, whose slots the set has
abbrev pub invariant-loop-entry : goal.invariant-loop-entry
invariant-loop-entry l = record {
  entries : All (IsEntry l.next) (take l.entry-index l.queue);
  differ : IsDistinct nat_eq (filter_map waiting (take l.entry-index l.queue));
  kept : (slot : ℕ) → contains nat_cmp l.slots slot ≡ list_any (nat_eq slot) (filter_map waiting (take l.entry-index l.queue));
}
