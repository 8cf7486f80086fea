use Rattle.std.proofs.Common.{◌≡◌, ◌+◌, ◌-◌, ◌*◌, ◌++◌, drop}
use Rattle.ff_machine.specs.Nodes as nodes
use Rattle.ff_nodes.proofs.Rest.{shown_from}
use Rattle.ff_nodes.proofs.nodes.Nodes.+shown.Given as goal

abbrev pub decreases-shown : goal.decreases-shown
decreases-shown l = 2 * (257 - nodes.depth l.self.now l.root)

abbrev pub decreases-put_shown_part : goal.decreases-put_shown_part
decreases-put_shown_part l = 2 * (257 - nodes.depth l.self.now l.n) + 1

-- what is shown of the children from here on is still to be put
abbrev pub invariant-shown-loop-child : goal.invariant-shown-loop-child
invariant-shown-loop-child l = l.parts.items ++ shown_from l.self (drop l.child-index (nodes.children l.self l.fn.root)) ≡ nodes.shown l.self l.fn.root
