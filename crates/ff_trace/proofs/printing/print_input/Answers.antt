use Rattle.ff_trace.proofs.Fitting.{input_one_line}
use Rattle.ff_trace.proofs.Reread.{line_again}
use Rattle.ff_trace.proofs.printing.print_input.Goals as goal

pub returns-clause-again : goal.returns-clause-again
returns-clause-again c = λ well. line_again c.args.lattice.now c.args.input.now c.print_input_line.ensures.known c.requires well

pub returns-clause-one_line : goal.returns-clause-one_line
returns-clause-one_line c = λ well. input_one_line c.args.lattice.now c.args.input.now c.print_input_line.ensures.known c.requires well
