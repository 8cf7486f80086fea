use Rattle.ff_printing.proofs.Printing.{nothing}
use Rattle.ff_saved_rows.specs.declared.row.Row.TheVariants as row
use Rattle.ff_saved_rows.proofs.LineByLine.{line_more, all_lines}
use Rattle.ff_saved_rows.proofs.lines.put_cookies.Goals as goal

pub loop-rec-init : goal.loop-rec-init
loop-rec-init c = λ order. nothing c.args.out.now

pub loop-rec-preserved : goal.loop-rec-preserved
loop-rec-preserved c = λ order. line_more row.Cookie order c.args.recs.now c.loop-rec.rec-index c.rec-item.result c.loop-rec-test.true c.rec-item.is (c.loop-rec.invariant order) c.print_cookie.ensures c.bytes.ensures

pub returns : goal.returns
returns c = λ order. all_lines row.Cookie order c.args.recs.now c.loop-rec.rec-index c.loop-rec-test.false (c.loop-rec.invariant order)
