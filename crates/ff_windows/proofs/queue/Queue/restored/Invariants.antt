use Rattle.std.proofs.Common.{◌≡◌, ◌≤◌, take}
use Rattle.ff_windows.proofs.queue.Queue.restored.Given as goal

abbrev pub invariant-loop-entry : goal.invariant-loop-entry
invariant-loop-entry g l = record {
  queue : l.queue ≡ take l.entry-index l.entries;
  later : l.fn.copies ≤ l.copies;
}
