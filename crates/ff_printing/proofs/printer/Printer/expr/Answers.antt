use Rattle.ff_forms.specs.Canonical.{expr_item}
use Rattle.ff_printing.proofs.Printing.{blank_then}
use Rattle.ff_printing.proofs.printer.Printer.expr.Goals as goal

pub returns : goal.returns
returns c = blank_then (expr_item c.args.expr.now) c.bytes.ensures (c.print_expr.ensures)
