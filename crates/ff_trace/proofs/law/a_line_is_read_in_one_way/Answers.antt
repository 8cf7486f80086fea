use Rattle.ff_trace.proofs.Once.{reads_line_once}
use Rattle.ff_trace.proofs.Wells.{input_well, reads_some}
use Rattle.ff_trace.proofs.law.a_line_is_read_in_one_way.Goals as goal

pub returns : goal.returns
returns c = record { some = reads_some; spelled = input_well; one = reads_line_once }
