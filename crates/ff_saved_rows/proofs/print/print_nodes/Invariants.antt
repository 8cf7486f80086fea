use Rattle.std.proofs.Common.{take}
use Rattle.ff_trace.specs.Printed.{number}
use Rattle.ff_printing.specs.Pieces.{Prints, each_after_blank}
use Rattle.ff_saved_rows.proofs.print.print_nodes.Given as goal

abbrev pub invariant-loop-node : goal.invariant-loop-node
invariant-loop-node l = Prints l.fn.out l.out (each_after_blank (λ n. number n.0) (take l.node-index l.nodes))
