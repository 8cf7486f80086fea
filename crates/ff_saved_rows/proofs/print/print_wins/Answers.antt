use Rattle.ff_trace.specs.Printed.{number}
use Rattle.ff_saved_rows.proofs.Printing.{one_more_at}
use Rattle.ff_saved_rows.proofs.print.print_wins.Goals as goal

pub loop-win-preserved : goal.loop-win-preserved
loop-win-preserved c = one_more_at (λ n. number n.0) c.args.wins.now c.loop-win.win-index _ c.loop-win-test.true c.loop-win.invariant (rw c.from.ensures at c.number.ensures)
