use Rattle.std.proofs.Common.{codes}
use Rattle.ff_trace.specs.Printed.{number}
use Rattle.ff_saved_rows.proofs.Printing.{row_of_one}
use Rattle.ff_saved_rows.proofs.print.print_wait.Goals as goal

pub returns : goal.returns
returns c = row_of_one (codes "wait") (number c.args.slot) c.bytes.ensures (rw c.from.ensures at c.number.ensures)
