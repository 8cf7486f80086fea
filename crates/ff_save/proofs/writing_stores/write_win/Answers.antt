use Rattle.ff_machine.specs.Windows.{window_at}
use Rattle.ff_records.specs.Records.{win_rec}
use Rattle.ff_saved_rows.specs.declared.row.Row.TheVariants as row
use Rattle.ff_save.proofs.RowByRow.{one_row}
use Rattle.ff_save.proofs.writing_stores.write_win.Goals as goal

pub returns-in-Ok : goal.returns-in-Ok
returns-in-Ok c = λ order. one_row order (row.Win (win_rec (window_at c.args.windows.now c.args.n))) (rw c.in-Ok.ensures at c.put_win.ensures order)
