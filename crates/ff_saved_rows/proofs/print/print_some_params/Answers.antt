use Rattle.ff_saved_rows.proofs.Printing.{list_of_names}
use Rattle.ff_saved_rows.proofs.print.print_some_params.Goals as goal

pub returns : goal.returns
returns c = list_of_names c.args.first.now c.args.rest.now c.bytes.ensures (rw c.as_bytes.ensures.value at c.bytes-2.ensures) c.print_names.ensures c.bytes-3.ensures
