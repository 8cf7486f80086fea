use Rattle.std.proofs.Common.{flat_map, take}
use Rattle.ff_lattice.specs.Order.{Order}
use Rattle.ff_printing.specs.Pieces.{Prints}
use Rattle.ff_saved_rows.specs.Rows.{rows_text, act_rows}
use Rattle.ff_save.proofs.writing_stores.put_acts.Given as goal

abbrev pub invariant-loop-rec : goal.invariant-loop-rec
invariant-loop-rec l = (order : Order) → Prints l.fn.out l.out (rows_text order (flat_map act_rows (take l.rec-index l.recs)))
