use Rattle.std.proofs.Common.{codes}
use Rattle.ff_forms.specs.Canonical.{word}
use Rattle.ff_saved_rows.proofs.Printing.{row_of_two}
use Rattle.ff_saved_rows.proofs.print.print_div.Goals as goal

pub returns : goal.returns
returns c = row_of_two (codes "node") (word (codes "div")) (word c.args.name.now) c.bytes.ensures c.word.ensures (rw c.as_bytes.ensures.value at c.word-2.ensures)
