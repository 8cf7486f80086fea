use Rattle.std.proofs.Common.{take}
use Rattle.ff_lattice.specs.Order.{Order}
use Rattle.ff_printing.specs.Pieces.{Prints}
use Rattle.ff_saved_rows.specs.declared.row.Row.TheVariants as row
use Rattle.ff_saved_rows.proofs.LineByLine.{lines_of}
use Rattle.ff_saved_rows.proofs.lines.put_vars.Given as goal

abbrev pub invariant-loop-var : goal.invariant-loop-var
invariant-loop-var l = (order : Order) → Prints l.fn.out l.out (lines_of row.Var order (take l.var-index l.vars))
