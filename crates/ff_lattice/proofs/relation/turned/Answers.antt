use Rattle.std.proofs.Common.{arith}
use Rattle.ff_lattice.proofs.Tables.{AreTurned-from_rows}
use Rattle.ff_lattice.proofs.relation.turned.Goals as goal

pub returns : goal.returns
returns c = AreTurned-from_rows c.args.rows.now c.loop-high.down.items c.requires (omega arith) (λ j in_j. c.loop-high.invariant.each j (omega arith))
