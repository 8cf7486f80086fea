use Rattle.ff_reading.proofs.Each.{Named}
use Rattle.ff_reading.proofs.leaves.read_each_parameter.Given as goal

abbrev pub invariant-loop-part : goal.invariant-loop-part
invariant-loop-part l = Named l.parts l.part-index l.names
