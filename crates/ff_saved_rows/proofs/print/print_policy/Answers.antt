use Rattle.std.proofs.Common.{codes}
use Rattle.ff_forms.specs.Canonical.{string}
use Rattle.ff_saved_rows.proofs.Printing.{row_of_one}
use Rattle.ff_saved_rows.proofs.print.print_policy.Goals as goal

pub returns : goal.returns
returns c = row_of_one (codes "policy") (string c.args.text.now) c.bytes.ensures c.string.ensures
