use Rattle.std.proofs.Common.{codes}
use Rattle.ff_forms.specs.Canonical.{word}
use Rattle.ff_lattice.specs.Order.{name}
use Rattle.ff_saved_rows.proofs.Printing.{row_of_each}
use Rattle.ff_saved_rows.proofs.print.print_class.Goals as goal

pub returns : goal.returns
returns c = row_of_each (codes "class") (λ l. word (name c.args.lattice.now l)) c.args.levels c.bytes.ensures c.print_levels.ensures
