use Rattle.std.proofs.Common.{map, arith}
use Rattle.serde_json.specs.View.{view}
use Rattle.ff_lattice.specs.Order.{size}
use Rattle.ff_policy.specs.Printing.{pair_if}
use Rattle.ff_policy.proofs.Values.{adds_none, adds_next, adds_all}
use Rattle.ff_policy.proofs.printing.add_pairs.Goals as goal

pub loop-high-init : goal.loop-high-init
loop-high-init c = adds_none (pair_if c.args.lattice.now c.args.low.0) (map view c.args.pairs.now.items)

pub loop-high-preserved : goal.loop-high-preserved
loop-high-preserved c = adds_next (pair_if c.args.lattice.now c.args.low.0) _ (map view c.loop-high.pairs.items) _ c.loop-high.high c.loop-high.invariant c.in_ok-add_pair.ensures

pub returns : goal.returns
returns c = adds_all (pair_if c.args.lattice.now c.args.low.0) _ (map view c.loop-high.pairs.items) c.loop-high.high (size c.args.lattice.now) c.loop-high.invariant (omega arith)
