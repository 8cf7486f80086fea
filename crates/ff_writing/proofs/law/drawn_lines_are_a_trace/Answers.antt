use Rattle.ff_writing.proofs.DrawnTrace.{draws_input, workload_is_trace}
use Rattle.ff_writing.proofs.law.drawn_lines_are_a_trace.Goals as goal

pub returns : goal.returns
returns c = record { line = draws_input; trace = workload_is_trace }
