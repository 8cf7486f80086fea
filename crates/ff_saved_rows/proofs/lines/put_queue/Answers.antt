use Rattle.ff_printing.proofs.Printing.{nothing}
use Rattle.ff_saved_rows.specs.declared.row.Row.TheVariants as row
use Rattle.ff_saved_rows.proofs.LineByLine.{line_more, all_lines}
use Rattle.ff_saved_rows.proofs.lines.put_queue.Goals as goal

pub loop-entry-init : goal.loop-entry-init
loop-entry-init c = λ order. nothing c.args.out.now

pub loop-entry-preserved : goal.loop-entry-preserved
loop-entry-preserved c = λ order. line_more row.Queued order c.args.entries.now c.loop-entry.entry-index c.entry-item.result c.loop-entry-test.true c.entry-item.is (c.loop-entry.invariant order) c.print_entry.ensures c.bytes.ensures

pub returns : goal.returns
returns c = λ order. all_lines row.Queued order c.args.entries.now c.loop-entry.entry-index c.loop-entry-test.false (c.loop-entry.invariant order)
