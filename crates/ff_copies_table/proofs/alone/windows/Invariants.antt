use Rattle.std.proofs.Common.{◌≤◌}
use Rattle.ff_copies_table.proofs.alone.windows.Given as goal

abbrev pub invariant-loop-place : goal.invariant-loop-place
invariant-loop-place l = l.count ≤ l.place
