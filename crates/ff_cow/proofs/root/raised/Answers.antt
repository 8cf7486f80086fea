use Rattle.std.proofs.Common.{ap, length, ◌∙◌, arith}
use Rattle.ff_cow.proofs.Roots.{low_fits}
use Rattle.ff_cow.proofs.root.raised.Goals as goal

pub above-requires-clause-fits : goal.above-requires-clause-fits
above-requires-clause-fits g c = low_fits c.in_ok-node.node c.in_ok-node.ensures.valid

pub above-requires-2-clause-fits : goal.above-requires-2-clause-fits
above-requires-2-clause-fits g c =
    let few = low_fits c.in_ok-node.node c.in_ok-node.ensures.valid in
    let same = ap length c.in_ok-node-2.ensures.cells in
    omega arith

pub above-requires-3-clause-fits : goal.above-requires-3-clause-fits
above-requires-3-clause-fits g c =
    let few = low_fits c.in_ok-node.node c.in_ok-node.ensures.valid in
    let same = ap length (c.in_ok-node-3.ensures.cells ∙ c.in_ok-node-2.ensures.cells) in
    omega arith
