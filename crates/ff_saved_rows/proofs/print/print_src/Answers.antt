use Rattle.std.proofs.Common.{codes}
use Rattle.ff_forms.specs.Canonical.{word, address}
use Rattle.ff_saved_rows.specs.Rows.{truth_item}
use Rattle.ff_saved_rows.proofs.Printing.{row_of_four}
use Rattle.ff_saved_rows.proofs.print.print_src.Goals as goal

pub returns : goal.returns
returns c = row_of_four (codes "node") (word (codes "src")) (word c.args.name.now) (truth_item c.args.started) (address c.args.url.now) c.bytes.ensures c.word.ensures (rw c.as_bytes.ensures.value at c.word-2.ensures) c.truth.ensures c.address.ensures
