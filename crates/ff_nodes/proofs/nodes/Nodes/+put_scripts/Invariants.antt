use Rattle.std.proofs.Common.{◌≡◌, ◌-◌, ◌++◌, drop}
use Rattle.ff_machine.specs.Nodes as nodes
use Rattle.ff_nodes.proofs.Rest.{scripts_from}
use Rattle.ff_nodes.proofs.nodes.Nodes.+put_scripts.Given as goal

abbrev pub decreases-put_scripts : goal.decreases-put_scripts
decreases-put_scripts l = 257 - nodes.depth l.self.now l.root

-- what is found below the children from here on is still to be put
abbrev pub invariant-loop-child : goal.invariant-loop-child
invariant-loop-child l = l.found.items ++ scripts_from l.self (drop l.child-index (nodes.children l.self l.fn.root)) ≡ l.initial.found.items ++ scripts_from l.self (nodes.children l.self l.fn.root)
