use Rattle.std.proofs.Common.{◌≡◌, ◌++◌, take}
use Rattle.ff_text.proofs.Appending.{joined}
use Rattle.ff_text.proofs.printing.+print.Given as goal

abbrev pub invariant-print_parts-loop-i : goal.invariant-print_parts-loop-i
invariant-print_parts-loop-i l = l.out.items ≡ l.fn.out.items ++ joined (take l.i l.parts)
