use Rattle.std.proofs.Common.{◌≡◌, ◌≤◌}
use Rattle.ff_nodes.specs.Cells.{nodes_of}
use Rattle.ff_nodes.specs.Recorded.{AreMarkedBelow}
use Rattle.ff_nodes.proofs.restoring.raise_all.Given as goal

abbrev pub invariant-loop-depth : goal.invariant-loop-depth
invariant-loop-depth g l = record {
  nodes : nodes_of l.cells ≡ nodes_of l.fn.cells;
  marks : AreMarkedBelow (nodes_of l.fn.cells) l.depth l.cells;
  later : l.fn.copies ≤ l.copies;
}

abbrev pub decreases-loop-depth : goal.decreases-loop-depth
decreases-loop-depth g l = l.depth
