use Rattle.ff_printing.proofs.Printing.{nothing}
use Rattle.ff_saved_rows.specs.declared.row.Row.TheVariants as row
use Rattle.ff_saved_rows.proofs.LineByLine.{line_more, all_lines}
use Rattle.ff_saved_rows.proofs.lines.put_vars.Goals as goal

pub loop-var-init : goal.loop-var-init
loop-var-init c = λ order. nothing c.args.out.now

pub loop-var-preserved : goal.loop-var-preserved
loop-var-preserved c = λ order. line_more row.Var order c.args.vars.now c.loop-var.var-index c.var-item.result c.loop-var-test.true c.var-item.is (c.loop-var.invariant order) c.print_var.ensures c.bytes.ensures

pub returns : goal.returns
returns c = λ order. all_lines row.Var order c.args.vars.now c.loop-var.var-index c.loop-var-test.false (c.loop-var.invariant order)
