use Rattle.std.proofs.Common.{◌≡◌, take}
use Rattle.ff_windows.proofs.queue.Queue.record.Given as goal

abbrev pub invariant-loop-i : goal.invariant-loop-i
invariant-loop-i l = l.entries.items ≡ take l.i l.self
