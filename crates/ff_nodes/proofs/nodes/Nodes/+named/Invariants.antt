use Rattle.std.proofs.Common.{◌≡◌, ◌-◌, drop}
use Rattle.ff_machine.specs.Nodes as nodes
use Rattle.ff_nodes.proofs.Rest.{named_from}
use Rattle.ff_nodes.proofs.nodes.Nodes.+named.Given as goal

abbrev pub decreases-named : goal.decreases-named
decreases-named l = 257 - nodes.depth l.self.now l.root

-- the first is in the walks of the children from here on
abbrev pub invariant-loop-child : goal.invariant-loop-child
invariant-loop-child l = nodes.by_name l.self l.fn.root l.name ≡ named_from l.self l.name (drop l.child-index (nodes.children l.self l.fn.root))
