use Rattle.ff_io.specs.Pending.{byte_lists}
use Rattle.ff_io.proofs.PendingLemmas.{joined-nonempty}
use Rattle.ff_io.proofs.mem_port.MemPort.new.Goals as goal

pub returns-clause-rest : goal.returns-clause-rest
returns-clause-rest c = rw c.new.ensures (joined-nonempty (byte_lists c.args.pieces.items))
