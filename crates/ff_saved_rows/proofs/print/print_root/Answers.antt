use Rattle.std.proofs.Common.{codes}
use Rattle.ff_forms.specs.Canonical.{word}
use Rattle.ff_trace.specs.Printed.{number}
use Rattle.ff_saved_rows.proofs.Printing.{row_of_two}
use Rattle.ff_saved_rows.proofs.print.print_root.Goals as goal

pub returns : goal.returns
returns c = row_of_two (codes "node") (word (codes "page")) (number c.args.page.0) c.bytes.ensures c.word.ensures (rw c.from.ensures at c.number.ensures)
