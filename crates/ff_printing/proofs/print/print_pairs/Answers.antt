use Rattle.ff_printing.proofs.OneLine.{pairs_one_line}
use Rattle.ff_printing.proofs.print.print_pairs.Goals as goal

pub returns-in_err-printer-clause-one_line : goal.returns-in_err-printer-clause-one_line
returns-in_err-printer-clause-one_line c = pairs_one_line c.args.pairs.now

pub returns-clause-one_line : goal.returns-clause-one_line
returns-clause-one_line c = pairs_one_line c.args.pairs.now
