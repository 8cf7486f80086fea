use Rattle.ff_machine.specs.Nodes.{depth}
use Rattle.ff_nodes.specs.Cells.{nodes_of}
use Rattle.ff_nodes.proofs.raising.+raise_above.Given as goal

abbrev pub decreases-raise_above : goal.decreases-raise_above
decreases-raise_above g l = depth (nodes_of l.cells.now) l.n
