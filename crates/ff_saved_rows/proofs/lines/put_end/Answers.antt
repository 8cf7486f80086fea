use Rattle.std.proofs.Common.{ap, [], ◌∷◌, ◌++◌}
use Rattle.ff_printing.proofs.Printing.{prints_as}
use Rattle.ff_saved_rows.specs.Rows.{row_line}
use Rattle.ff_saved_rows.specs.declared.row.Row.TheVariants as row
use Rattle.ff_saved_rows.proofs.Printing.{end_line}
use Rattle.ff_saved_rows.proofs.lines.put_end.Goals as goal

pub returns : goal.returns
returns c = λ order. prints_as (row_line order row.End) (ap (λ bs. bs ++ 10 ∷ []) (end_line order)) c.bytes.ensures
