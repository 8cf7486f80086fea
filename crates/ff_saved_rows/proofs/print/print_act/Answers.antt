use Rattle.std.proofs.Common.{codes}
use Rattle.ff_saved_rows.specs.Rows.{act_item}
use Rattle.ff_saved_rows.proofs.Printing.{row_of_one}
use Rattle.ff_saved_rows.proofs.print.print_act.Goals as goal

pub returns : goal.returns
returns c = row_of_one (codes "act") (act_item c.args.parent) c.bytes.ensures c.print_parent.ensures
