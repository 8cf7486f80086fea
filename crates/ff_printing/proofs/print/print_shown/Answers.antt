use Rattle.ff_printing.proofs.OneLine.{shown_one_line}
use Rattle.ff_printing.proofs.print.print_shown.Goals as goal

pub returns-in_err-printer-clause-one_line : goal.returns-in_err-printer-clause-one_line
returns-in_err-printer-clause-one_line c spelled = shown_one_line c.args.shown.now spelled

pub returns-clause-one_line : goal.returns-clause-one_line
returns-clause-one_line c spelled = shown_one_line c.args.shown.now spelled
