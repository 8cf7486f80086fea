use Rattle.std.proofs.Common.{arith}
use Rattle.ff_cow.proofs.Roots.{low_fits}
use Rattle.ff_cow.proofs.root.make_room.Goals as goal

pub returns-else-count-eq-MOST_LOW_CELLS-clause-room : goal.returns-else-count-eq-MOST_LOW_CELLS-clause-room
returns-else-count-eq-MOST_LOW_CELLS-clause-room g c =
    let few = low_fits c.in-Low.node (rw c.in-Low.is at c.requires.valid) in
    let counted = rw c.in-Low.is at c.requires.count in
    let other = c.if-count-eq-MOST_LOW_CELLS.false in
    omega arith
