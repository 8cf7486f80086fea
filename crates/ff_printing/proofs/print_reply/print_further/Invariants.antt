use Rattle.std.proofs.Common.{take}
use Rattle.ff_forms.specs.Canonical.{cookie_item}
use Rattle.ff_printing.specs.Pieces.{Prints, each_after_blank}
use Rattle.ff_printing.proofs.print_reply.print_further.Given as goal

abbrev pub invariant-loop-entry : goal.invariant-loop-entry
invariant-loop-entry l = Prints l.fn.out l.out (each_after_blank cookie_item (take l.entry-index l.cookies))
