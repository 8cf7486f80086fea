use Rattle.ff_machine.specs.Nodes as nodes
use Rattle.ff_nodes.proofs.nodes.Nodes.+depth_of.Given as goal

abbrev pub decreases-depth_of : goal.decreases-depth_of
decreases-depth_of l = nodes.depth l.self.now l.n
