use Rattle.std.proofs.Common.{arith}
use Rattle.ff_lattice.proofs.Tables.{IsEqual-from_rows}
use Rattle.ff_lattice.proofs.relation.equality.Goals as goal

pub returns : goal.returns
returns c =
    IsEqual-from_rows c.args.size c.loop-number.rows.items c.requires (omega arith) (λ j in_j. c.loop-number.invariant.each j (omega arith))
