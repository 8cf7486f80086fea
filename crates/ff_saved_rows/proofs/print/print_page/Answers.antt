use Rattle.std.proofs.Common.{codes}
use Rattle.ff_forms.specs.Canonical.{address}
use Rattle.ff_trace.specs.Printed.{number}
use Rattle.ff_saved_rows.proofs.Printing.{row_of_five}
use Rattle.ff_saved_rows.proofs.print.print_page.Goals as goal

pub returns : goal.returns
returns c = row_of_five (codes "page") (address c.args.url.now) (number c.args.win.0) (number c.args.root.0) (number c.args.act.0) (number c.args.next) c.bytes.ensures c.address.ensures (rw c.from.ensures at c.number.ensures) (rw c.from-2.ensures at c.number-2.ensures) (rw c.from-3.ensures at c.number-3.ensures) (rw c.from-4.ensures at c.number-4.ensures)
