use Rattle.std.proofs.Common.{codes}
use Rattle.ff_forms.specs.Canonical.{expr_item}
use Rattle.ff_saved_rows.proofs.Printing.{row_of_one}
use Rattle.ff_saved_rows.proofs.print.print_ready.Goals as goal

pub returns : goal.returns
returns c = row_of_one (codes "ready") (expr_item c.args.body.now) c.bytes.ensures c.expr.ensures
