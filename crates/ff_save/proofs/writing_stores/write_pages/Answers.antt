use Rattle.std.proofs.Common.{get_or, refl, ap, arith}
use Rattle.ff_machine.specs.Windows.{no_page}
use Rattle.ff_printing.proofs.Printing.{nothing}
use Rattle.ff_records.specs.Records.{page_rec}
use Rattle.ff_records.specs.declared.records.Counts.{Counts}
use Rattle.ff_saved_rows.specs.Rows.{page_rows}
use Rattle.ff_save.proofs.RowByRow.{rec_more, rec_all}
use Rattle.ff_save.proofs.writing_stores.write_pages.Goals as goal

pub loop-number-init : goal.loop-number-init
loop-number-init c = λ order. nothing c.args.out.now

pub loop-number-preserved : goal.loop-number-preserved
loop-number-preserved c = λ order.
    rec_more page_rows order page_rec no_page c.args.windows.now.pages c.loop-number.number (page_rec (get_or c.args.windows.now.pages c.loop-number.number no_page)) (omega (arith, c.loop-number-test.true, ap (λ (n : Counts). n.pages) c.counts-number-end.ensures.value)) refl (c.loop-number.invariant order) (c.write_page.ensures order)

pub returns : goal.returns
returns c = λ order. rec_all page_rows order page_rec no_page c.args.windows.now.pages c.loop-number.number (omega (arith, c.loop-number-test.false, ap (λ (n : Counts). n.pages) c.counts-number-end.ensures.value)) (c.loop-number.invariant order)
