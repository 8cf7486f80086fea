use Rattle.ff_printing.proofs.Printing.{then}
use Rattle.ff_saved_rows.proofs.lines.put_open.Goals as goal

pub returns : goal.returns
returns c = λ order. then (rw c.as_slice.ensures at c.print_open.ensures) c.bytes.ensures
