use Rattle.ff_printing.proofs.Printing.{then}
use Rattle.ff_saved_rows.proofs.lines.put_act.Goals as goal

pub returns : goal.returns
returns c = λ order. then (then c.print_act.ensures c.bytes.ensures) (rw c.as_slice.ensures at c.put_vars.ensures order)
