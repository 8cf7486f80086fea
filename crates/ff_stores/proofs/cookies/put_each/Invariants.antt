use Rattle.std.proofs.Common.{◌≡◌, ◌≤◌, ◌+◌, ◌*◌, drop}
use Rattle.ff_machine.specs.Stores.{put_each}
use Rattle.ff_stores.proofs.cookies.put_each.Given as goal

abbrev pub invariant-loop-entry : goal.invariant-loop-entry
invariant-loop-entry g l = (put_each l.domain l.entry-items l.initial.jar ≡ put_each l.domain (drop l.entry-index l.entry-items) l.jar) × (l.initial.copies ≤ l.copies) × (l.copies ≤ l.initial.copies + 17 * l.entry-index)
