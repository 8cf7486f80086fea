use Rattle.ff_forms.specs.Canonical.{cookie_item}
use Rattle.ff_printing.proofs.Printing.{one_more, blank_then}
use Rattle.ff_printing.proofs.print_reply.print_further.Goals as goal

pub loop-entry-preserved : goal.loop-entry-preserved
loop-entry-preserved c = one_more cookie_item c.args.cookies.now c.loop-entry.entry-index c.entry-item.result c.loop-entry-test.true c.entry-item.is c.loop-entry.invariant (blank_then (cookie_item c.entry-item.result) c.bytes.ensures c.print_entry.ensures)
