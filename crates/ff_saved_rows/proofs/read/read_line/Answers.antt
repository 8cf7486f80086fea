use Rattle.std.proofs.Common.{List, subst}
use Rattle.ff_text.specs.declared.items.Sexp.{Sexp}
use Rattle.ff_trace.proofs.Once.{first_of}
use Rattle.ff_saved_rows.specs.Reading.{row_in}
use Rattle.ff_trace.specs.Lines.{Gives}
use Rattle.ff_saved_rows.proofs.Once.{found_items, found_fault}
use Rattle.ff_saved_rows.proofs.read.read_line.Goals as goal

pub returns-in-Ok : goal.returns-in-Ok
returns-in-Ok c =
    found_items c.args.lattice.now c.args.line.now c.in-Ok.items c.read_row_items.result c.in-Ok.ensures.found
    (subst (λ (items : List Sexp). Gives c.read_row_items.result (row_in c.args.lattice.now items)) c.as_slice.ensures c.read_row_items.ensures)

pub returns-in_default : goal.returns-in_default
returns-in_default c = found_fault c.args.lattice.now c.args.line.now c.in-Err.fault (first_of c.args.line.now c.in-Err.fault c.in_default.not-NoMemory c.in-Err.ensures.fault)
