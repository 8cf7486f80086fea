use Rattle.std.proofs.Common.{take}
use Rattle.std.specs.List.{All}
use Rattle.ff_machine.specs.References.{CodeRefers}
use Rattle.ff_records.specs.Counted.{made}
use Rattle.ff_nodes.proofs.referring.node_refers.Given as goal

abbrev pub invariant-loop-code : goal.invariant-loop-code
invariant-loop-code l = All (CodeRefers (made l.counts)) (take l.code-index l.code-items)
