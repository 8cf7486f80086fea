use Rattle.std.proofs.Common.{subst}
use Rattle.ff_machine.specs.Nodes.{node_at, no_node}
use Rattle.ff_machine.specs.Alone.{AreNodes}
use Rattle.ff_machine.proofs.Changes.{started_node}
use Rattle.ff_nodes.proofs.nodes.Nodes.start.Goals as goal

pub change-requires-clause-valid : goal.change-requires-clause-valid
change-requires-clause-valid g c =
    let are : AreNodes c.args.self.now = subst AreNodes c.self.view_is c.self.invariant.nodes in
    started_node (node_at c.args.self.now c.args.n) (are.each c.args.n.0 no_node c.requires)
