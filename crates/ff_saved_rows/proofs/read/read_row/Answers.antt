use Rattle.std.proofs.Common.{Ok, subst, sym}
use Rattle.ff_saved_rows.specs.Reading.{ReadsRow}
use Rattle.ff_saved_rows.proofs.Once.{exact_from_found}
use Rattle.ff_saved_rows.proofs.Rereading.{line_again}
use Rattle.ff_saved_rows.proofs.read.read_row.Goals as goal

pub returns-clause-only : goal.returns-clause-only
returns-clause-only c = λ row good fits is.
    exact_from_found c.args.lattice.now c.args.line.now c.read_line.result c.read_line.ensures (Ok row)
    (subst (λ line. ReadsRow c.args.lattice.now line (Ok row)) (sym is) (line_again c.args.lattice.now row good fits))
