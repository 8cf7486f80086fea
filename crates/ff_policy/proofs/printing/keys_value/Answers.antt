use Rattle.std.proofs.Common.{arith}
use Rattle.ff_lattice.specs.Order.{size}
use Rattle.ff_policy.proofs.Values.{keys_more, keys_done, level_at_place}
use Rattle.ff_policy.proofs.printing.keys_value.Goals as goal

pub put_key-requires : goal.put_key-requires
put_key-requires c = level_at_place (size c.args.lattice.now) c.args.keys.now c.loop-one.one-index c.one-item.result c.requires (omega arith) c.one-item.is

pub loop-one-preserved : goal.loop-one-preserved
loop-one-preserved c =
    keys_more c.args.lattice.now (size c.args.lattice.now) c.args.keys.now c.loop-one.one-index c.one-item.result _ _ c.requires (omega arith) c.one-item.is c.loop-one.invariant c.in_ok-put_key.ensures

pub returns : goal.returns
returns c = keys_done c.args.lattice.now c.loop-one.members c.args.keys.now c.loop-one.one-index c.loop-one.invariant (omega arith)
