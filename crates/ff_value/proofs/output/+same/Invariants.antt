use Rattle.std.proofs.Common.{◌≡◌, length, take}
use Rattle.ff_value.proofs.output.+same.Given as goal

abbrev pub invariant-same_shown-loop-i : goal.invariant-same_shown-loop-i
invariant-same_shown-loop-i l = (length l.xs ≡ length l.ys) × (take l.i l.xs ≡ take l.i l.ys)
