use Rattle.std.proofs.Common.{◌≡◌, Some, None, arith, sym, ap, subst}
use Rattle.ff_machine.specs.Nodes.{depth}
use Rattle.ff_machine.proofs.Depths.{depth_up, parent_made}
use Rattle.ff_machine.specs.Alone.{AreTrees}
use Rattle.ff_nodes.specs.declared.cell.NodeCell.{NodeCell}
use Rattle.ff_nodes.specs.Raised.{IsRaised}
use Rattle.ff_nodes.specs.Cells.{nodes_of}
use Rattle.ff_nodes.proofs.Lacking.{count_cells}
use Rattle.ff_nodes.proofs.RaisedCells.{parent_is, top_marked, above_marked, raised_length}
use Rattle.ff_nodes.proofs.raising.+raise_above.Goals as goal

pub raise-requires : goal.raise-requires
raise-requires g t c =
    let up = parent_is c.args.cells.now c.args.n c.cell_at-cell.result.now c.parent.result (Some c.in-Some.p) c.cell_at-cell.ensures c.parent.ensures c.in-Some.is in
    let made = parent_made (nodes_of c.args.cells.now) c.requires.trees c.args.n c.in-Some.p up in
    let count = count_cells c.args.cells.now in
    omega (arith, made, count)

pub returns-in_err-raise-in-Some-clause-copies : goal.returns-in_err-raise-in-Some-clause-copies
returns-in_err-raise-in-Some-clause-copies g t c =
    let up = parent_is c.args.cells.now c.args.n c.cell_at-cell.result.now c.parent.result (Some c.in-Some.p) c.cell_at-cell.ensures c.parent.ensures c.in-Some.is in
    let deep = depth_up (nodes_of c.args.cells.now) c.requires.trees c.args.n c.in-Some.p up in
    omega (arith, c.raise.ensures.copies, deep)

pub returns-in-None-clause-marks : goal.returns-in-None-clause-marks
returns-in-None-clause-marks g t c =
    top_marked c.args.cells.now c.args.n (parent_is c.args.cells.now c.args.n c.cell_at-cell.result.now c.parent.result None c.cell_at-cell.ensures c.parent.ensures c.in-None.is) c.requires.marks

pub returns-in_ok-raise-in-Some-clause-copies : goal.returns-in_ok-raise-in-Some-clause-copies
returns-in_ok-raise-in-Some-clause-copies g t c =
    let up = parent_is c.args.cells.now c.args.n c.cell_at-cell.result.now c.parent.result (Some c.in-Some.p) c.cell_at-cell.ensures c.parent.ensures c.in-Some.is in
    let deep = depth_up (nodes_of c.args.cells.now) c.requires.trees c.args.n c.in-Some.p up in
    let same : depth (nodes_of c.raise.new.cells) c.in-Some.p ≡ depth (nodes_of c.args.cells.now) c.in-Some.p = ap (λ ns. depth ns c.in-Some.p) c.in_ok-raise-in-Some.ensures.raised.nodes in
    omega (arith, c.in_ok-raise-in-Some.ensures.copies, c.raise_above.ensures.copies, deep, same)

pub raise_above-requires : goal.raise_above-requires
raise_above-requires g t c κs within =
    let up = parent_is c.args.cells.now c.args.n c.cell_at-cell.result.now c.parent.result (Some c.in-Some.p) c.cell_at-cell.ensures c.parent.ensures c.in-Some.is in
    let trees = c.requires.trees in
    let raised = subst (λ (x : NodeCell). IsRaised c.args.cells.now c.raise.new.cells c.in-Some.p x.marks) c.cell_at-cell.ensures c.in_ok-raise-in-Some.ensures.raised in
    let made = parent_made (nodes_of c.args.cells.now) trees c.args.n c.in-Some.p up in
    let deep = depth_up (nodes_of c.args.cells.now) trees c.args.n c.in-Some.p up in
    let same : depth (nodes_of c.raise.new.cells) c.in-Some.p ≡ depth (nodes_of c.args.cells.now) c.in-Some.p = ap (λ ns. depth ns c.in-Some.p) raised.nodes in
    let count = count_cells c.args.cells.now in
    let count_new = raised_length c.args.cells.now c.raise.new.cells raised.nodes in (
      omega (arith, deep, same),
      (within, (omega (arith, made, count, count_new), (subst AreTrees (sym raised.nodes) trees, above_marked c.args.cells.now c.raise.new.cells c.args.n c.in-Some.p trees c.requires.lives up raised c.requires.marks))),
    )
