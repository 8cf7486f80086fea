use Rattle.std.proofs.Common.{codes}
use Rattle.ff_forms.specs.Canonical.{word}
use Rattle.ff_saved_rows.specs.Rows.{val_item}
use Rattle.ff_saved_rows.proofs.Printing.{row_of_two}
use Rattle.ff_saved_rows.proofs.print.print_var.Goals as goal

pub returns : goal.returns
returns c = row_of_two (codes "var") (word c.args.var.now.name) (val_item c.args.var.now.value) c.bytes.ensures (rw c.as_bytes.ensures.value at c.word.ensures) c.print_val.ensures
