use Rattle.std.proofs.Common.{◌++◌, ◌∙◌, append_assoc, ap, codes, refl, sym}
use Rattle.ff_contract.proofs.Sequence.{appends_after, appends_front, front_middle}
use Rattle.ff_number.specs.Decimal.{nat_text}
use Rattle.ff_gen.specs.Workload.{typed}
use Rattle.ff_gen.proofs.generator.print_typed.Goals as goal

pub returns-in_err-print_nat : goal.returns-in_err-print_nat
returns-in_err-print_nat c =
    let old = c.args.out.now.items in
    let all = typed c.args.head.now c.args.draw in
    appends_front c.from_residual-in_err-print_nat.result old c.print_nat.new.out.items all c.from_residual-in_err-print_nat.ensures.0
    (front_middle old c.extend_from_slice.new.self.items c.print_nat.new.out.items c.args.head.now (nat_text c.args.draw) (codes "\"\n") all refl c.in_ok-extend_from_slice.ensures.items c.in_err-print_nat.ensures)

pub returns : goal.returns
returns c =
    let old = c.args.out.now.items in
    let head = c.args.head.now in
    let digits = nat_text c.args.draw in
    let both = c.in_ok-print_nat.ensures ∙ ap (λ bs. bs ++ digits) c.in_ok-extend_from_slice.ensures.items ∙ append_assoc old head digits in
    appends_after c.put.result old c.print_nat.new.out.items c.put.new.out.items (head ++ digits) (codes "\"\n") (typed head c.args.draw)
    (sym (append_assoc head digits (codes "\"\n"))) both c.put.ensures
