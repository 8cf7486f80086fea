use Rattle.std.proofs.Common.{codes}
use Rattle.ff_trace.specs.Printed.{number}
use Rattle.ff_saved_rows.specs.Rows.{win_item, name_item}
use Rattle.ff_saved_rows.proofs.Printing.{row_of_three}
use Rattle.ff_saved_rows.proofs.print.print_win.Goals as goal

pub returns : goal.returns
returns c = row_of_three (codes "win") (number c.args.rec.now.page.0) (win_item c.args.rec.now.opener) (name_item c.args.rec.now.name) c.bytes.ensures (rw c.from.ensures at c.number.ensures) c.print_opener.ensures c.print_win_name.ensures
