use Rattle.std.proofs.Common.{subst, ◌∙◌, arith}
use Rattle.ff_nodes.specs.Cells.{nodes_of}
use Rattle.ff_nodes.specs.Recorded.{AreMarkedFrom}
use Rattle.ff_nodes.proofs.Levels.{next_level, levels_ended}
use Rattle.ff_nodes.proofs.restoring.raise_all.Goals as goal

pub loop-depth-preserved : goal.loop-depth-preserved
loop-depth-preserved g c =
    let same = c.loop-depth.invariant.nodes in
    record {
      nodes = c.in_ok-raise_from_depth.ensures.nodes ∙ same;
      marks = next_level (nodes_of c.args.cells.now) c.loop-depth.depth c.raise_from_depth.new.cells (omega (arith, c.loop-depth-test.true)) (subst (λ ns. AreMarkedFrom ns c.loop-depth.depth c.raise_from_depth.new.cells) same c.in_ok-raise_from_depth.ensures.marks);
      later = omega (arith, c.loop-depth.invariant.later, c.in_ok-raise_from_depth.ensures.later);
    }

pub returns-clause-marks : goal.returns-clause-marks
returns-clause-marks g c = levels_ended (nodes_of c.args.cells.now) c.loop-depth.depth c.loop-depth.cells c.loop-depth.invariant.nodes c.requires.trees (omega (arith, c.loop-depth-test.false)) c.loop-depth.invariant.marks
