use Rattle.std.proofs.Common.{◌∷◌, ◌++◌, []}
use Rattle.ff_contract.proofs.Sequence.{appends_front, front_first, front_middle}
use Rattle.ff_lattice.specs.Order.{name}
use Rattle.ff_trace.specs.Printed.{out_text, out_line}
use Rattle.ff_trace.proofs.Cuts.{out_line_cut}
use Rattle.ff_trace.proofs.printing.print_out_line.Goals as goal

pub returns-in_err-print_name-clause-appends : goal.returns-in_err-print_name-clause-appends
returns-in_err-print_name-clause-appends c =
    let head = name c.args.lattice.now c.args.level.0 in
    let text = out_text c.args.one.now in
    let all = out_line c.args.lattice.now c.args.level.0 c.args.one.now in
    appends_front c.from_residual.result c.args.out.now.items c.print_name.new.out.items all c.from_residual.ensures.0
    (front_first c.args.out.now.items c.print_name.new.out.items (head ++ 32 ∷ []) (text ++ 10 ∷ []) all (out_line_cut head text) c.in_err-print_name.ensures.appends)

pub returns-in_err-print_output-clause-appends : goal.returns-in_err-print_output-clause-appends
returns-in_err-print_output-clause-appends c =
    let head = name c.args.lattice.now c.args.level.0 in
    let text = out_text c.args.one.now in
    let all = out_line c.args.lattice.now c.args.level.0 c.args.one.now in
    appends_front c.from_residual-in_err-print_output.result c.args.out.now.items c.print_output.new.out.items all c.from_residual-in_err-print_output.ensures.0
    (front_middle c.args.out.now.items c.print_name.new.out.items c.print_output.new.out.items (head ++ 32 ∷ []) text (10 ∷ []) all
    (out_line_cut head text) c.in_ok-print_name.ensures.appends c.in_err-print_output.ensures)
