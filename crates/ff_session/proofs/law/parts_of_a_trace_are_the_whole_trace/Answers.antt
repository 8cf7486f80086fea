use Rattle.ff_session.proofs.Parts.{parts_of_a_trace}
use Rattle.ff_session.proofs.law.parts_of_a_trace_are_the_whole_trace.Goals as goal

pub returns : goal.returns
returns c = parts_of_a_trace
