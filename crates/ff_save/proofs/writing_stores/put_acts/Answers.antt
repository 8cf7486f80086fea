use Rattle.ff_printing.proofs.Printing.{nothing}
use Rattle.ff_saved_rows.specs.Rows.{act_rows}
use Rattle.ff_save.proofs.RowByRow.{rows_more, rows_all}
use Rattle.ff_save.proofs.writing_stores.put_acts.Goals as goal

pub loop-rec-init : goal.loop-rec-init
loop-rec-init c = λ order. nothing c.args.out.now

pub loop-rec-preserved : goal.loop-rec-preserved
loop-rec-preserved c = λ order. rows_more act_rows order c.args.recs.now c.loop-rec.rec-index c.rec-item.result c.rec-item.result c.loop-rec-test.true c.rec-item.is (c.loop-rec.invariant order) (c.put_act.ensures order)

pub returns : goal.returns
returns c = λ order. rows_all act_rows order c.args.recs.now c.loop-rec.rec-index c.loop-rec-test.false (c.loop-rec.invariant order)
