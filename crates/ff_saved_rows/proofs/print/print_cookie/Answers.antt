use Rattle.std.proofs.Common.{codes}
use Rattle.ff_forms.specs.Canonical.{word, string}
use Rattle.ff_saved_rows.proofs.Printing.{row_of_three}
use Rattle.ff_saved_rows.proofs.print.print_cookie.Goals as goal

pub returns : goal.returns
returns c = row_of_three (codes "cookie") (word c.args.rec.now.domain) (string c.args.rec.now.key) (string c.args.rec.now.value) c.bytes.ensures (rw c.as_bytes.ensures.value at c.word.ensures) c.string.ensures c.string-2.ensures
