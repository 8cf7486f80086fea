use Rattle.std.proofs.Common.{sym, subst}
use Rattle.ff_nodes.specs.Cells.{AreCells}
use Rattle.ff_nodes.proofs.CellChanges.{no_cells}
use Rattle.ff_nodes.proofs.nodes.Nodes.new.Goals as goal

pub invariant_of-result : goal.invariant_of-result
invariant_of-result c = subst AreCells (sym c.new.ensures) no_cells
