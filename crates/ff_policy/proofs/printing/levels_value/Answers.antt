use Rattle.std.proofs.Common.{arith}
use Rattle.ff_policy.proofs.Values.{strings_more, strings_done}
use Rattle.ff_policy.proofs.printing.levels_value.Goals as goal

pub loop-number-preserved : goal.loop-number-preserved
loop-number-preserved c =
    strings_more c.loop-number.names.items _ _ c.args.lattice.now.names c.loop-number.number c.loop-number.invariant (omega arith) c.in_ok-name_value.ensures c.in_ok-push.ensures.items

pub returns : goal.returns
returns c = strings_done c.loop-number.names c.args.lattice.now.names c.loop-number.number c.loop-number.invariant (omega arith)
