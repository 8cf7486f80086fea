use Rattle.std.proofs.Common.{take}
use Rattle.ff_lattice.specs.Order.{Order}
use Rattle.ff_printing.specs.Pieces.{Prints}
use Rattle.ff_saved_rows.specs.declared.row.Row.TheVariants as row
use Rattle.ff_saved_rows.proofs.LineByLine.{lines_of}
use Rattle.ff_saved_rows.proofs.lines.put_handlers.Given as goal

abbrev pub invariant-loop-code : goal.invariant-loop-code
invariant-loop-code l = (order : Order) → Prints l.fn.out l.out (lines_of row.On order (take l.code-index l.codes))
