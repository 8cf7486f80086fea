use Rattle.ff_trace.specs.Printed.{number}
use Rattle.ff_saved_rows.proofs.Printing.{one_more_at}
use Rattle.ff_saved_rows.proofs.print.print_nodes.Goals as goal

pub loop-node-preserved : goal.loop-node-preserved
loop-node-preserved c = one_more_at (λ n. number n.0) c.args.nodes.now c.loop-node.node-index _ c.loop-node-test.true c.loop-node.invariant (rw c.from.ensures at c.number.ensures)
