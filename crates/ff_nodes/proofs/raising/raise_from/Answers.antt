use Rattle.std.proofs.Common.{arith, ◌∙◌}
use Rattle.ff_nodes.proofs.RaisedCells.{is_above, step_marked, none_marked, all_raised, raised_length}
use Rattle.ff_nodes.proofs.raising.raise_from.Goals as goal

pub loop-i-preserved : goal.loop-i-preserved
loop-i-preserved g c = record {
  low = let test = c.loop-i-test.true in omega (arith, test);
  high = let high = c.loop-i.invariant.high in omega (arith, high);
  nodes = c.loop-i.invariant.nodes;
  marks = none_marked c.args.first c.loop-i.i c.loop-i.cells c.cell_at-cell.result.now c.parent.result c.loop-i-test.true c.cell_at-cell.ensures c.parent.ensures c.in_default.is c.loop-i.invariant.marks;
  later = c.loop-i.invariant.later;
  copies = let copies = c.loop-i.invariant.copies in omega (arith, copies);
}

pub raise-requires : goal.raise-requires
raise-requires g c =
    let above = is_above c.args.first c.loop-i.i c.loop-i.cells c.args.cells.now c.in-Some.p c.cell_at-cell.result.now c.parent.result c.loop-i-test.true c.loop-i.invariant.nodes c.requires.past c.cell_at-cell.ensures c.parent.ensures c.in-Some.is in
    let before = above.before in
    omega (arith, before, c.loop-i.invariant.high)

pub loop-i-preserved-in-Continue-1 : goal.loop-i-preserved-in-Continue-1
loop-i-preserved-in-Continue-1 g c =
    let above = is_above c.args.first c.loop-i.i c.loop-i.cells c.args.cells.now c.in-Some.p c.cell_at-cell.result.now c.parent.result c.loop-i-test.true c.loop-i.invariant.nodes c.requires.past c.cell_at-cell.ensures c.parent.ensures c.in-Some.is in
    let raised = c.in_ok-raise.ensures.raised in
    let count = raised_length c.loop-i.cells c.raise.new.cells raised.nodes in
    record {
      low = let test = c.loop-i-test.true in omega (arith, test);
      high = let high = c.loop-i.invariant.high in omega (arith, high, count);
      nodes = raised.nodes ∙ c.loop-i.invariant.nodes;
      marks = step_marked c.args.first c.loop-i.i c.loop-i.cells c.raise.new.cells c.in-Some.p c.cell_at-cell.result.now c.loop-i-test.true c.loop-i.invariant.high above c.cell_at-cell.ensures raised c.loop-i.invariant.marks;
      later = omega (arith, c.loop-i.invariant.later, c.in_ok-raise.ensures.copies);
      copies = let test = c.loop-i-test.true in omega (arith, c.loop-i.invariant.copies, c.in_ok-raise.ensures.copies, test);
    }

pub returns-clause-marks : goal.returns-clause-marks
returns-clause-marks g c = all_raised c.args.first c.loop-i.i c.loop-i.cells c.loop-i-test.false c.loop-i.invariant.marks
