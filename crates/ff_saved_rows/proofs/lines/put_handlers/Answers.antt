use Rattle.ff_printing.proofs.Printing.{nothing}
use Rattle.ff_saved_rows.specs.declared.row.Row.TheVariants as row
use Rattle.ff_saved_rows.proofs.LineByLine.{line_more, all_lines}
use Rattle.ff_saved_rows.proofs.lines.put_handlers.Goals as goal

pub loop-code-init : goal.loop-code-init
loop-code-init c = λ order. nothing c.args.out.now

pub loop-code-preserved : goal.loop-code-preserved
loop-code-preserved c = λ order. line_more row.On order c.args.codes.now c.loop-code.code-index c.code-item.result c.loop-code-test.true c.code-item.is (c.loop-code.invariant order) c.print_on.ensures c.bytes.ensures

pub returns : goal.returns
returns c = λ order. all_lines row.On order c.args.codes.now c.loop-code.code-index c.loop-code-test.false (c.loop-code.invariant order)
