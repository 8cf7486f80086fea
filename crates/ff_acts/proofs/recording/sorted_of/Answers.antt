use Rattle.std.proofs.Common.{◌-◌, ◌∙◌, arith}
use Rattle.ff_acts.proofs.Recorded.{none_left, one_of_its, one_of_another}
use Rattle.ff_acts.proofs.recording.sorted_of.Goals as goal

pub loop-i-init : goal.loop-i-init
loop-i-init c = record { within = omega (arith, c.len-i.ensures.value); entries = c.new-sorted.ensures.empty ∙ none_left c.args.vars.now c.len-i.result c.args.a.0 c.len-i.ensures.value }

pub loop-i-preserved-in-Continue-1 : goal.loop-i-preserved-in-Continue-1
loop-i-preserved-in-Continue-1 c = record {
  within = omega (arith, c.loop-i.invariant.within);
  entries =
      c.in_ok-put.ensures
      ∙ one_of_its c.args.vars.now (c.loop-i.i - 1) c.loop-i.i (omega (arith, c.loop-i-test.true)) c.cell_at-cell.result.now c.cell_at-cell.ensures c.args.a.0 c.loop-i.sorted.entries c.if-cell-a.true c.loop-i.invariant.entries;
}

pub loop-i-preserved : goal.loop-i-preserved
loop-i-preserved c = record {
  within = omega (arith, c.loop-i.invariant.within);
  entries = one_of_another c.args.vars.now (c.loop-i.i - 1) c.loop-i.i (omega (arith, c.loop-i-test.true)) c.cell_at-cell.result.now c.cell_at-cell.ensures c.args.a.0 c.loop-i.sorted.entries c.if-cell-a.false c.loop-i.invariant.entries;
}
