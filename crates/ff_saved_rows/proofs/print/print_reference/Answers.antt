use Rattle.ff_trace.specs.Printed.{number}
use Rattle.ff_saved_rows.proofs.Printing.{list_of_one}
use Rattle.ff_saved_rows.proofs.print.print_reference.Goals as goal

pub returns : goal.returns
returns c = list_of_one c.args.head.now (number c.args.number) c.bytes.ensures c.bytes-2.ensures c.number.ensures c.bytes-3.ensures
