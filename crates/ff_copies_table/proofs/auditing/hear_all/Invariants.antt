use Rattle.std.proofs.Common.{◌≡◌, false}
use Rattle.ff_copies_table.proofs.auditing.hear_all.Given as goal

abbrev pub invariant-loop-line : goal.invariant-loop-line
invariant-loop-line g l = l.auditor.spent ≡ false
