use Rattle.ff_machine.specs.Nodes as nodes
use Rattle.ff_nodes.proofs.nodes.Nodes.+root_of.Given as goal

abbrev pub decreases-root_of : goal.decreases-root_of
decreases-root_of l = nodes.depth l.self.now l.n
