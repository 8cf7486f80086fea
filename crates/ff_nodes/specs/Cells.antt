-- Cells: nodes with their marks.
use Rattle.std.specs.Prelude.{◌≡◌, ◌<◌, Some, List, map, length, slice_index_or}
use Rattle.ff_value.specs.declared.ids.NodeId.{NodeId}
use Rattle.ff_machine.specs.Nodes.{Node, no_node, parent}
use Rattle.ff_machine.specs.Alone.{AreNodes}
use Rattle.ff_nodes.specs.declared.cell.NodeCell.{NodeCell}
use Rattle.ff_nodes.specs.Marked.{IsOwn, AreWithin}

-- the nodes of cells
abbrev pub nodes_of : List NodeCell → List Node
nodes_of cells = map (λ c. c.node) cells

-- what stands at a number that no cell has
abbrev pub no_cell : NodeCell
no_cell = record { node = no_node; marks = record { names = 0; kinds = 0 } }

-- the cell of a number
abbrev pub cell_at : List NodeCell → NodeId → NodeCell
cell_at cells n = slice_index_or cells n.0 no_cell

-- each cell's own bits are set in its marks, and its marks are within its parent's
pub record AreMarked (cells : List NodeCell) : Type 0 where
  pub own : (n : NodeId) → n.0 < length cells → IsOwn (cell_at cells n).node (cell_at cells n).marks
  pub within : (n p : NodeId) → parent (nodes_of cells) n ≡ Some p → AreWithin (cell_at cells n).marks (cell_at cells p).marks

-- cells of valid nodes, with their marks
pub record AreCells (cells : List NodeCell) : Type 0 where
  pub nodes : AreNodes (nodes_of cells)
  pub marks : AreMarked cells
