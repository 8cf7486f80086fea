use Rattle.ff_printing.proofs.Rereading.{expr_reads_back}
use Rattle.ff_printing.proofs.print.print_expr.Goals as goal

pub returns-in_err-printer-clause-again : goal.returns-in_err-printer-clause-again
returns-in_err-printer-clause-again c well = expr_reads_back c.args.expr.now well

pub returns-clause-again : goal.returns-clause-again
returns-clause-again c well = expr_reads_back c.args.expr.now well
