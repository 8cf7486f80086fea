use Rattle.std.proofs.Common.{◌≡◌, ◌++◌, take}
use Rattle.ff_trace.specs.Pieces.{part_items}
use Rattle.ff_trace.specs.Printed.{joined}
use Rattle.ff_trace.proofs.pieces.print_parts.Given as goal

abbrev pub invariant-loop-i : goal.invariant-loop-i
invariant-loop-i l = l.out.items ≡ l.fn.out.items ++ joined (take l.i (part_items l.parts))
