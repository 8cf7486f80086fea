use Rattle.std.proofs.Common.{◌∷◌, [], map, get_or, refl, ap, arith}
use Rattle.ff_machine.specs.Windows.{no_window}
use Rattle.ff_printing.proofs.Printing.{nothing}
use Rattle.ff_records.specs.Records.{win_rec}
use Rattle.ff_records.specs.declared.records.Counts.{Counts}
use Rattle.ff_saved_rows.specs.declared.row.Row.TheVariants as row
use Rattle.ff_save.proofs.RowByRow.{rec_more, rec_all, single_rows}
use Rattle.ff_save.proofs.writing_stores.write_wins.Goals as goal

pub loop-number-init : goal.loop-number-init
loop-number-init c = λ order. nothing c.args.out.now

pub loop-number-preserved : goal.loop-number-preserved
loop-number-preserved c = λ order.
    rec_more (λ w. row.Win w ∷ []) order win_rec no_window c.args.windows.now.windows c.loop-number.number (win_rec (get_or c.args.windows.now.windows c.loop-number.number no_window)) (omega (arith, c.loop-number-test.true, ap (λ (n : Counts). n.wins) c.counts-number-end.ensures.value)) refl (c.loop-number.invariant order) (c.write_win.ensures order)

pub returns : goal.returns
returns c = λ order. single_rows row.Win order (map win_rec c.args.windows.now.windows) (rec_all (λ w. row.Win w ∷ []) order win_rec no_window c.args.windows.now.windows c.loop-number.number (omega (arith, c.loop-number-test.false, ap (λ (n : Counts). n.wins) c.counts-number-end.ensures.value)) (c.loop-number.invariant order))
