use Rattle.std.proofs.Common.{◌≡◌, length, arith}
use Rattle.ff_travel.proofs.Cutting.{cut_done}
use Rattle.ff_travel.proofs.steps.cut_all.Goals as goal

pub returns : goal.returns
returns c =
    let end = c.len-number-end.ensures in
    let all : c.loop-number.number ≡ length c.args.puts.now.items = omega (arith, end) in
    cut_done c.args.counts.now c.args.puts.now.items c.loop-number.puts.items c.loop-number.number c.loop-number.invariant all
