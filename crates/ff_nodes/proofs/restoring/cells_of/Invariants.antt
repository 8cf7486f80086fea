use Rattle.std.proofs.Common.{◌≡◌, ◌≤◌, take}
use Rattle.std.specs.List.{All}
use Rattle.ff_nodes.specs.Cells.{nodes_of}
use Rattle.ff_nodes.specs.Laying.{HasOwn}
use Rattle.ff_nodes.specs.Recorded.{made}
use Rattle.ff_nodes.proofs.restoring.cells_of.Given as goal

abbrev pub invariant-loop-i : goal.invariant-loop-i
invariant-loop-i g l = record {
  nodes : nodes_of l.cells ≡ made (take l.i l.recs) (take l.i l.parents);
  own : All HasOwn l.cells;
  later : l.fn.copies ≤ l.copies;
}
