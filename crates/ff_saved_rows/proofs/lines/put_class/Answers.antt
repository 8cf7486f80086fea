use Rattle.ff_printing.proofs.Printing.{then}
use Rattle.ff_saved_rows.proofs.lines.put_class.Goals as goal

pub returns : goal.returns
returns c = then c.print_class.ensures c.bytes.ensures
