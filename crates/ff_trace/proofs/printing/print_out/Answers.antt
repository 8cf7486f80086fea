use Rattle.ff_trace.proofs.Fitting.{headed_one_line, name_first}
use Rattle.ff_trace.proofs.printing.print_out.Goals as goal

pub returns-clause-one_line : goal.returns-clause-one_line
returns-clause-one_line c = λ well. headed_one_line c.args.lattice.now c.args.level.0 c.args.one.now c.print_out_line.ensures.known c.requires well

pub returns-clause-headed : goal.returns-clause-headed
returns-clause-headed c = name_first c.args.lattice.now c.args.level.0 c.args.one.now c.print_out_line.ensures.known c.requires
