use Rattle.std.proofs.Common.{◌∙◌, ◌∷◌, ◌++◌, [], sym, ap, refl, append_assoc}
use Rattle.ff_trace.specs.Pieces.{tag_text}
use Rattle.ff_trace.specs.Printed.{act_items, input_text, joined}
use Rattle.ff_trace.proofs.Cuts.{input_cut, input_line_cut}
use Rattle.ff_contract.proofs.Sequence.{appends_front, appends_last, front_first, front_middle}
use Rattle.ff_trace.proofs.printing.print_input_line.Goals as goal

pub returns-in_err-print_tag-clause-appends : goal.returns-in_err-print_tag-clause-appends
returns-in_err-print_tag-clause-appends c =
    let input = c.args.input.now in
    let order = c.args.lattice.now in
    let all = input_text order input ++ 10 ∷ [] in
    appends_front c.from_residual.result c.args.out.now.items c.print_tag.new.out.items all c.from_residual.ensures.0
    (front_first c.args.out.now.items c.print_tag.new.out.items (tag_text order input.tag) (joined (act_items input.act) ++ 10 ∷ []) all (input_line_cut order input) c.in_err-print_tag.ensures.appends)

pub returns-in_err-print_act-clause-appends : goal.returns-in_err-print_act-clause-appends
returns-in_err-print_act-clause-appends c =
    let input = c.args.input.now in
    let order = c.args.lattice.now in
    let all = input_text order input ++ 10 ∷ [] in
    appends_front c.from_residual-in_err-print_act.result c.args.out.now.items c.print_act.new.out.items all c.from_residual-in_err-print_act.ensures.0
    (front_middle c.args.out.now.items c.print_tag.new.out.items c.print_act.new.out.items (tag_text order input.tag) (joined (act_items input.act)) (10 ∷ []) all
    (input_line_cut order input) c.in_ok-print_tag.ensures.appends c.in_err-print_act.ensures)

pub returns-clause-appends : goal.returns-clause-appends
returns-clause-appends c =
    let input = c.args.input.now in
    let order = c.args.lattice.now in
    let first = tag_text order input.tag in
    let more = joined (act_items input.act) in
    appends_last c.put_all.result c.args.out.now.items c.print_act.new.out.items c.put_all.new.out.items (input_text order input ++ 10 ∷ []) (input_text order input) (10 ∷ [])
    c.put_all.ensures
    (c.in_ok-print_act.ensures ∙ ap (λ bs. bs ++ more) c.in_ok-print_tag.ensures.appends ∙ append_assoc c.args.out.now.items first more ∙ ap (λ bs. c.args.out.now.items ++ bs) (sym (input_cut order input)))
    refl
