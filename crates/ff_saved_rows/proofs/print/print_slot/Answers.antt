use Rattle.std.proofs.Common.{codes}
use Rattle.ff_trace.specs.Printed.{number}
use Rattle.ff_saved_rows.proofs.Printing.{list_of_two}
use Rattle.ff_saved_rows.proofs.print.print_slot.Goals as goal

pub returns : goal.returns
returns c = list_of_two (codes "slot") (number c.args.page.0) (number c.args.slot) c.bytes.ensures (rw c.from.ensures at c.number.ensures) (rw c.from-2.ensures at c.number-2.ensures) c.bytes-2.ensures
