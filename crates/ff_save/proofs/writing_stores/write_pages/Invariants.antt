use Rattle.std.proofs.Common.{flat_map, map, take}
use Rattle.ff_lattice.specs.Order.{Order}
use Rattle.ff_printing.specs.Pieces.{Prints}
use Rattle.ff_records.specs.Records.{page_rec}
use Rattle.ff_saved_rows.specs.Rows.{rows_text, page_rows}
use Rattle.ff_save.proofs.writing_stores.write_pages.Given as goal

abbrev pub invariant-loop-number : goal.invariant-loop-number
invariant-loop-number l = (order : Order) → Prints l.fn.out l.out (rows_text order (flat_map page_rows (take l.number (map page_rec l.windows.pages))))
