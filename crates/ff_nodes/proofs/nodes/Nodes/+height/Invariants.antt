use Rattle.std.proofs.Common.{◌≡◌, ◌-◌, ◌≤◌, max, drop}
use Rattle.ff_machine.specs.declared.limits.TheConstants.{MOST_TREE_DEPTH}
use Rattle.ff_machine.specs.Nodes as nodes
use Rattle.ff_nodes.proofs.Heights.{deepest}
use Rattle.ff_nodes.proofs.nodes.Nodes.+height.Given as goal

abbrev pub decreases-height : goal.decreases-height
decreases-height l = 257 - nodes.depth l.self.now l.n

-- the deepest node stands as deep as this, or below the children from here on
abbrev pub invariant-loop-child : goal.invariant-loop-child
invariant-loop-child l = record {
  rest : max l.deepest (deepest l.self (drop l.child-index (nodes.children l.self l.fn.n))) ≡ nodes.height l.self l.fn.n;
  bound : l.deepest ≤ MOST_TREE_DEPTH;
}
