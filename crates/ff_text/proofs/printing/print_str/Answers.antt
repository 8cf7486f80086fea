use Rattle.std.proofs.Common.{arith, sym}
use Rattle.std.proofs.lemmas.Grind.{common_steps}
use Rattle.ff_contract.proofs.Sequence.{appends_front}
use Rattle.ff_text.specs.Printed.{quoted}
use Rattle.ff_text.proofs.Appending.{quoted_none, quoted_more, quoted_stopped, quoted_whole}
use Rattle.ff_text.proofs.printing.print_str.Goals as goal

pub loop-left-init : goal.loop-left-init
loop-left-init c = quoted_none c.args.out.now.items c.put_all.new.out.items c.args.value.now c.in_ok-put_all.ensures

pub loop-left-preserved : goal.loop-left-preserved
loop-left-preserved c =
    quoted_more c.args.out.now.items c.loop-left.out.items c.put_some.new.out.items c.args.value.now c.loop-left.left.now _ c.in_ok-n.n c.loop-left.invariant c.in_ok-n.ensures.put (grind (arith, common_steps))

pub returns-in_err-n : goal.returns-in_err-n
returns-in_err-n c =
    appends_front c.from_residual-in_err-n.result c.args.out.now.items c.put_some.new.out.items (quoted c.args.value.now) c.from_residual-in_err-n.ensures.0
    (quoted_stopped c.args.out.now.items c.loop-left.out.items c.put_some.new.out.items c.args.value.now c.loop-left.left.now c.loop-left.invariant c.in_err-n.ensures.refused)

pub returns : goal.returns
returns c =
    quoted_whole c.put_all-2.result c.args.out.now.items c.loop-left.out.items c.put_all-2.new.out.items c.args.value.now c.loop-left.left.now c.loop-left.invariant (sym c.loop-left-test.ensures) c.put_all-2.ensures
