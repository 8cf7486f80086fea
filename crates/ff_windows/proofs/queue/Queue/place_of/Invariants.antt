use Rattle.std.proofs.Common.{◌≡◌, ℕ, ◌<◌, false, get_or}
use Rattle.ff_machine.specs.declared.records.Entry.TheVariants.{Wait}
use Rattle.ff_machine.specs.Windows.{is_slot}
use Rattle.ff_windows.proofs.queue.Queue.place_of.Given as goal

-- no entry before this one is the slot
abbrev pub invariant-loop-i : goal.invariant-loop-i
invariant-loop-i l = (k : ℕ) → k < l.i → is_slot l.slot (get_or l.self k (Wait 0)) ≡ false
