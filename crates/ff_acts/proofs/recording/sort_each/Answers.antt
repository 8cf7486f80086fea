use Rattle.std.proofs.Common.{◌-◌, ◌<◌, length, get_or, length-set, refl, ◌∙◌, arith}
use Rattle.std.proofs.lemmas.Option.{slice_get-get_or}
use Rattle.ff_acts.proofs.Recorded.{none_left_sorted, one_sorted}
use Rattle.ff_acts.proofs.recording.sort_each.Goals as goal

pub loop-i-init : goal.loop-i-init
loop-i-init c = record {
  within = omega (arith, c.len-i.ensures.value);
  sorted = none_left_sorted c.args.vars.now c.len-i.result c.args.each.now c.len-i.ensures.value c.requires.empty;
  count = refl;
}

pub loop-i-preserved : goal.loop-i-preserved
loop-i-preserved c =
    let owner = c.cell_at-cell.result.now.owner.0 in
    let lives : owner < length c.loop-i.each = omega (arith, c.requires.owners (c.loop-i.i - 1) c.cell_at-cell.result.now c.cell_at-cell.ensures, c.loop-i.invariant.count) in
    let old = get_or c.loop-i.each owner c.index-each-cell.result in
    let there = slice_get-get_or c.loop-i.each owner c.index-each-cell.result lives in
    record {
      within = omega (arith, c.loop-i.invariant.within);
      sorted = one_sorted c.args.vars.now (c.loop-i.i - 1) c.loop-i.i (omega (arith, c.loop-i-test.true)) c.cell_at-cell.result.now c.cell_at-cell.ensures c.loop-i.each old c.put.new.sorted c.loop-i.invariant.sorted there c.in_ok-put.ensures;
      count = length-set c.loop-i.each owner c.put.new.sorted ∙ c.loop-i.invariant.count;
    }
