use Rattle.std.proofs.Common.{◌≤◌, length, arith}
use Rattle.ff_io.specs.Pending.{front_piece}
use Rattle.ff_io.proofs.PendingLemmas.{rest_after}
use Rattle.ff_io.proofs.mem_port.MemPortPort.read.Goals as goal

pub returns-in-Ok-clause-rest : goal.returns-in-Ok-clause-rest
returns-in-Ok-clause-rest c =
    let e = c.in-Ok.ensures in
    let bound : c.in-Ok.n ≤ length (front_piece c.self.inside.source) = omega (arith, e.size) in
    rw (← c.self.view_is) (rest_after c.self.inside.source _ _ _ c.in-Ok.n bound e.bytes e.source)
