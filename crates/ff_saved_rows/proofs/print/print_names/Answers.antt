use Rattle.ff_forms.specs.Canonical.{word}
use Rattle.ff_printing.proofs.Printing.{one_more}
use Rattle.ff_saved_rows.proofs.print.print_names.Goals as goal

pub loop-name-preserved : goal.loop-name-preserved
loop-name-preserved c = one_more word c.args.names.now c.loop-name.name-index c.name-item.result c.loop-name-test.true c.name-item.is c.loop-name.invariant (rw c.as_bytes.ensures.value at c.word.ensures)
