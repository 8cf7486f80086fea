use Rattle.std.proofs.Common.{codes}
use Rattle.ff_trace.specs.Printed.{number}
use Rattle.ff_saved_rows.specs.Rows.{code_item}
use Rattle.ff_saved_rows.proofs.Printing.{list_of_two}
use Rattle.ff_saved_rows.proofs.print.print_call.Goals as goal

pub returns : goal.returns
returns c = list_of_two (codes "call") (number c.args.page.0) (code_item c.args.code.now) c.bytes.ensures (rw c.from.ensures at c.number.ensures) c.print_code.ensures c.bytes-2.ensures
