use Rattle.ff_session.proofs.Giving.{trace_read, trace_read_once}
use Rattle.ff_session.proofs.law.a_trace_is_read_in_one_way.Goals as goal

pub returns : goal.returns
returns c = record { some = trace_read; one = trace_read_once }
