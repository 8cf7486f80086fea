use Rattle.ff_printing.proofs.Printing.{then}
use Rattle.ff_printing.proofs.printer.Printer.open_list.Goals as goal

pub returns : goal.returns
returns c = then c.bytes.ensures c.bytes-2.ensures
