use Rattle.std.proofs.Common.{None, take}
use Rattle.std.specs.List.{All}
use Rattle.ff_machine.specs.Alone.{IsNode}
use Rattle.ff_nodes.specs.Recorded.{node_of}
use Rattle.ff_nodes.proofs.checking.are_nodes.Given as goal

abbrev pub invariant-loop-rec : goal.invariant-loop-rec
invariant-loop-rec l = All (λ rec. IsNode (node_of rec None)) (take l.rec-index l.recs)
