use Rattle.std.proofs.Common.{codes}
use Rattle.ff_trace.specs.Printed.{number}
use Rattle.ff_saved_rows.proofs.Printing.{row_of_each}
use Rattle.ff_saved_rows.proofs.print.print_kids.Goals as goal

pub returns : goal.returns
returns c = row_of_each (codes "kids") (λ n. number n.0) c.args.kids.now c.bytes.ensures c.print_nodes.ensures
