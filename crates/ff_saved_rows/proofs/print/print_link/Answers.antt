use Rattle.std.proofs.Common.{codes}
use Rattle.ff_forms.specs.Canonical.{word, string, address}
use Rattle.ff_saved_rows.proofs.Printing.{row_of_four}
use Rattle.ff_saved_rows.proofs.print.print_link.Goals as goal

pub returns : goal.returns
returns c = row_of_four (codes "node") (word (codes "link")) (word c.args.name.now) (address c.args.url.now) (string c.args.label.now) c.bytes.ensures c.word.ensures (rw c.as_bytes.ensures.value at c.word-2.ensures) c.address.ensures c.string.ensures
