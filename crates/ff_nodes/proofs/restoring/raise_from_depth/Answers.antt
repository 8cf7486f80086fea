use Rattle.std.proofs.Common.{◌+◌, ◌<◌, ◌≤◌, Some, None, length, refl, sym, ap, subst, ◌∙◌, arith}
use Rattle.std.proofs.lemmas.List.{length-map}
use Rattle.ff_value.specs.declared.ids.NodeId.{NodeId}
use Rattle.ff_machine.specs.Nodes.{parent}
use Rattle.ff_machine.proofs.Depths.{parent_made}
use Rattle.ff_nodes.specs.declared.cell.NodeCell.{NodeCell}
use Rattle.ff_nodes.specs.Cells.{nodes_of}
use Rattle.ff_nodes.specs.Raised.{AreMarkedWhere, IsRaised}
use Rattle.ff_nodes.proofs.Levels.{Raised, level_begun, level_ended, level_passed, level_top, level_more}
use Rattle.ff_nodes.proofs.RaisedCells.{parent_is}
use Rattle.ff_nodes.proofs.restoring.raise_from_depth.Goals.{then-depths-i+in-Some+in_ok-raise, then-depths-i+in_default, else-depths-i}
use Rattle.ff_nodes.proofs.restoring.raise_from_depth.Goals as goal

pub loop-i-init : goal.loop-i-init
loop-i-init g c = record { nodes = refl; marks = level_begun (nodes_of c.args.cells.now) c.args.depth c.args.cells.now c.requires.marks; later = omega arith }

pub raise-requires : goal.raise-requires
raise-requires g c =
    let n : NodeId = record { 0 = c.loop-i.i } in
    let base = nodes_of c.args.cells.now in
    let up = ap (λ ns. parent ns n) (sym c.loop-i.invariant.nodes) ∙ parent_is c.loop-i.cells n c.cell_at-cell.result.now c.parent.result (Some c.in-Some.p) c.cell_at-cell.ensures c.parent.ensures c.in-Some.is in
    let made = parent_made base c.requires.trees n c.in-Some.p up in
    omega (arith, made, ap length c.loop-i.invariant.nodes, length-map c.loop-i.cells (λ (x : NodeCell). x.node))

pub loop-i-preserved : goal.loop-i-preserved
loop-i-preserved g c =
    let n : NodeId = record { 0 = c.loop-i.i } in
    let base = nodes_of c.args.cells.now in
    let within : c.loop-i.i < length base = omega (arith, c.loop-i-test.true, c.len-i-end.ensures.value, length-map c.args.cells.now (λ (x : NodeCell). x.node)) in
    let is = c.requires.depths.each n within in
    elim c.if-depths-i.branch [
      | then-depths-i+in-Some+in_ok-raise w ↦
          let up = ap (λ ns. parent ns n) (sym c.loop-i.invariant.nodes) ∙ parent_is c.loop-i.cells n w.cell_at-cell.result.now w.parent.result (Some w.in-Some.p) w.cell_at-cell.ensures w.parent.ensures w.in-Some.is in
          let raised = subst (λ (x : NodeCell). IsRaised c.loop-i.cells w.raise.new.cells w.in-Some.p x.marks) w.cell_at-cell.ensures w.in_ok-raise.ensures.raised in
          record {
            nodes = ap nodes_of w.cells-is ∙ raised.nodes ∙ c.loop-i.invariant.nodes;
            marks = subst (AreMarkedWhere (Raised base c.args.depth (c.loop-i.i + 1))) (sym w.cells-is) (level_more base c.args.depth c.loop-i.cells w.raise.new.cells n w.in-Some.p c.requires.trees c.loop-i.invariant.nodes (sym is ∙ w.if-depths-i.true) up raised c.loop-i.invariant.marks);
            later = omega (arith, c.loop-i.invariant.later, w.in_ok-raise.ensures.copies, w.copies-is);
          }
      | then-depths-i+in_default w ↦
          let none = ap (λ ns. parent ns n) (sym c.loop-i.invariant.nodes) ∙ parent_is c.loop-i.cells n w.cell_at-cell.result.now w.parent.result None w.cell_at-cell.ensures w.parent.ensures w.in_default.is in
          record {
            nodes = ap nodes_of w.cells-is ∙ c.loop-i.invariant.nodes;
            marks = subst (AreMarkedWhere (Raised base c.args.depth (c.loop-i.i + 1))) (sym w.cells-is) (level_top base c.args.depth c.loop-i.cells n c.loop-i.invariant.nodes none c.loop-i.invariant.marks);
            later = omega (arith, c.loop-i.invariant.later, w.copies-is);
          }
      | else-depths-i w ↦
          record {
            nodes = ap nodes_of w.cells-is ∙ c.loop-i.invariant.nodes;
            marks = subst (AreMarkedWhere (Raised base c.args.depth (c.loop-i.i + 1))) (sym w.cells-is) (level_passed base c.args.depth c.loop-i.cells n (λ e. w.if-depths-i.false (is ∙ e)) c.loop-i.invariant.marks);
            later = omega (arith, c.loop-i.invariant.later, w.copies-is);
          }
    ]

pub returns-clause-marks : goal.returns-clause-marks
returns-clause-marks g c =
    let past : length (nodes_of c.args.cells.now) ≤ c.loop-i.i = omega (arith, c.loop-i-test.false, c.len-i-end.ensures.value, length-map c.args.cells.now (λ (x : NodeCell). x.node)) in
    level_ended (nodes_of c.args.cells.now) c.args.depth c.loop-i.cells c.loop-i.i c.loop-i.invariant.nodes past c.requires.some c.loop-i.invariant.marks
