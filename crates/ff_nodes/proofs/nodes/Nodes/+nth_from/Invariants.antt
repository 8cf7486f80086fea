use Rattle.std.proofs.Common.{◌≡◌, ◌+◌, ◌-◌, drop, length, slice_get}
use Rattle.ff_machine.specs.Nodes as nodes
use Rattle.ff_machine.specs.Kinds.{kind_word}
use Rattle.ff_nodes.proofs.Rest.{kind_from}
use Rattle.ff_nodes.proofs.nodes.Nodes.+nth_from.Given as goal

abbrev pub decreases-nth_from : goal.decreases-nth_from
decreases-nth_from l = 257 - nodes.depth l.self.now l.root

-- those that are left to count stand in the walks of the children from here on
abbrev pub invariant-loop-child : goal.invariant-loop-child
invariant-loop-child l =
    let rest = kind_from l.self (kind_word l.kind) (drop l.child-index (nodes.children l.self l.fn.root)) in
    record {
      found : nodes.nth l.self l.fn.root l.kind l.k ≡ slice_get rest l.left;
      passed : l.left + length (nodes.of_word l.self l.fn.root (kind_word l.kind)) ≡ l.k + length rest;
    }
