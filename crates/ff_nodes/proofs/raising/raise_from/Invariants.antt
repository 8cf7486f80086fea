use Rattle.std.proofs.Common.{◌≡◌, ◌+◌, ◌*◌, ◌≤◌, length}
use Rattle.ff_nodes.specs.Cells.{nodes_of}
use Rattle.ff_nodes.specs.Raised.{AreMarkedUpTo}
use Rattle.ff_nodes.proofs.raising.raise_from.Given as goal

-- the marks of the nodes from this number on are raised
abbrev pub invariant-loop-i : goal.invariant-loop-i
invariant-loop-i g l = record {
  low : l.first ≤ l.i;
  high : l.i ≤ length l.cells;
  nodes : nodes_of l.cells ≡ nodes_of l.fn.cells;
  marks : AreMarkedUpTo l.first l.i l.cells;
  later : l.fn.copies ≤ l.copies;
  copies : l.copies + 16 * l.i ≤ l.fn.copies + 16 * length l.fn.cells;
}

abbrev pub decreases-loop-i : goal.decreases-loop-i
decreases-loop-i g l = l.i
