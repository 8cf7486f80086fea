use Rattle.std.proofs.Common.{take}
use Rattle.ff_forms.specs.Canonical.{word}
use Rattle.ff_printing.specs.Pieces.{Prints, each_after_blank}
use Rattle.ff_saved_rows.proofs.print.print_names.Given as goal

abbrev pub invariant-loop-name : goal.invariant-loop-name
invariant-loop-name l = Prints l.fn.out l.out (each_after_blank word (take l.name-index l.names))
