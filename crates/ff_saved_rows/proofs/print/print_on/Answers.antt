use Rattle.std.proofs.Common.{codes}
use Rattle.ff_saved_rows.specs.Rows.{code_item}
use Rattle.ff_saved_rows.proofs.Printing.{row_of_one}
use Rattle.ff_saved_rows.proofs.print.print_on.Goals as goal

pub returns : goal.returns
returns c = row_of_one (codes "on") (code_item c.args.code.now) c.bytes.ensures c.print_code.ensures
