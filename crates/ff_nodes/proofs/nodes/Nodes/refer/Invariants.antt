use Rattle.std.proofs.Common.{take}
use Rattle.std.specs.List.{All}
use Rattle.ff_machine.specs.References.{NodeRefers}
use Rattle.ff_records.specs.Counted.{made}
use Rattle.ff_nodes.proofs.nodes.Nodes.refer.Given as goal

abbrev pub invariant-loop-i : goal.invariant-loop-i
invariant-loop-i l = All (NodeRefers (made l.counts)) (take l.i l.self)
