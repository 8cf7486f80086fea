use Rattle.ff_printing.proofs.Printing.{then}
use Rattle.ff_printing.proofs.printer.Printer.string.Goals as goal

pub returns : goal.returns
returns c = then c.bytes.ensures c.quoted.ensures
