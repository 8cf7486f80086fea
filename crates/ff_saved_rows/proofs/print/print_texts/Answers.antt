use Rattle.std.proofs.Common.{codes}
use Rattle.ff_forms.specs.Canonical.{word, string}
use Rattle.ff_saved_rows.proofs.Printing.{row_of_three}
use Rattle.ff_saved_rows.proofs.print.print_texts.Goals as goal

pub returns : goal.returns
returns c = row_of_three (codes "node") (word c.args.kind.now) (word c.args.name.now) (string c.args.text.now) c.bytes.ensures c.word.ensures (rw c.as_bytes.ensures.value at c.word-2.ensures) c.string.ensures
