use Rattle.ff_printing.proofs.Printing.{then}
use Rattle.ff_saved_rows.proofs.lines.put_win.Goals as goal

pub returns : goal.returns
returns c = λ order. then c.print_win.ensures c.bytes.ensures
