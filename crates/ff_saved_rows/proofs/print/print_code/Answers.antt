use Rattle.std.proofs.Common.{map, codes}
use Rattle.ff_forms.specs.Canonical.{word, parens, expr_item}
use Rattle.ff_trace.specs.Printed.{number}
use Rattle.ff_saved_rows.proofs.Printing.{list_of_three}
use Rattle.ff_saved_rows.proofs.print.print_code.Goals as goal

pub returns : goal.returns
returns c = list_of_three (codes "code") (number c.args.code.now.env.0) (parens (map word c.args.code.now.params)) (expr_item c.args.code.now.body) c.bytes.ensures (rw c.from.ensures at c.number.ensures) (rw c.as_slice.ensures at c.print_params.ensures) (rw c.get.ensures at c.expr.ensures) c.bytes-2.ensures
