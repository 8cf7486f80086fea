use Rattle.std.proofs.Common.{◌≡◌, ◌≤◌}
use Rattle.ff_nodes.specs.Cells.{nodes_of}
use Rattle.ff_nodes.specs.Raised.{AreMarkedWhere}
use Rattle.ff_nodes.proofs.Levels.{Raised}
use Rattle.ff_nodes.proofs.restoring.raise_from_depth.Given as goal

abbrev pub invariant-loop-i : goal.invariant-loop-i
invariant-loop-i g l = record {
  nodes : nodes_of l.cells ≡ nodes_of l.fn.cells;
  marks : AreMarkedWhere (Raised (nodes_of l.fn.cells) l.depth l.i) l.cells;
  later : l.fn.copies ≤ l.copies;
}
