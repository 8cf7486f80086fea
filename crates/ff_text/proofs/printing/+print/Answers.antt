use Rattle.std.proofs.Common.{◌∙◌, sym, ap, ◌+◌, List, ◌∷◌, ◌++◌, [], take, get_or, append-nil, append_assoc}
use Rattle.ff_text.specs.declared.items.Sexp.{Sexp}
use Rattle.ff_text.specs.Printed.{spelled, blank_before}
use Rattle.ff_text.proofs.Layers.{spelled-Word, spelled-List}
use Rattle.ff_contract.proofs.Sequence.{front_done, front_middle, appends_front, appends_last}
use Rattle.ff_text.proofs.Appending.{append_three, joined, joined_more, joined_front, joined_cut, joined_all}
use Rattle.ff_text.proofs.printing.+print.Goals as goal

pub print_item-returns-in-Word : goal.print_item-returns-in-Word
print_item-returns-in-Word t c =
    appends_last c.put_all.result c.args.out.now.items c.args.out.now.items c.put_all.new.out.items (spelled c.args.item.now) [] c.as_bytes.result.now
    c.put_all.ensures (sym (append-nil c.args.out.now.items))
    (ap spelled c.in-Word.is ∙ spelled-Word c.in-Word.field-0 c.in-Word.text ∙ sym c.as_bytes.ensures.value)

pub print_item-returns-in_ok-print_parts-in-List : goal.print_item-returns-in_ok-print_parts-in-List
print_item-returns-in_ok-print_parts-in-List t c =
    appends_last c.put_all-in-List-2.result c.args.out.now.items c.print_parts.new.out.items c.put_all-in-List-2.new.out.items (spelled c.args.item.now)
    (40 ∷ joined c.as_slice.result.now) (41 ∷ []) c.put_all-in-List-2.ensures
    (c.in_ok-print_parts-in-List.ensures ∙ ap (λ bs. bs ++ joined c.as_slice.result.now) c.in_ok-put_all-in-List.ensures ∙ append_assoc c.args.out.now.items (40 ∷ []) (joined c.as_slice.result.now))
    (ap spelled c.in-List.is ∙ spelled-List c.in-List.field-0 c.in-List.parts ∙ ap (λ (ps : List Sexp). 40 ∷ (joined ps ++ 41 ∷ [])) (sym c.as_slice.ensures))

pub print_parts-returns-in_err-put_blank : goal.print_parts-returns-in_err-put_blank
print_parts-returns-in_err-put_blank t c =
    let front = joined_front c.args.parts.now c.loop-i.i in
    appends_front c.from_residual.result c.args.out.now.items c.put_blank.new.out.items (joined c.args.parts.now) c.from_residual.ensures.0
    (front_done c.args.out.now.items c.put_blank.new.out.items (joined c.args.parts.now) (joined (take c.loop-i.i c.args.parts.now)) front.rest
    (c.in_err-put_blank.ensures ∙ c.loop-i.invariant) front.cut)

pub print_parts-returns-in_err-print_item : goal.print_parts-returns-in_err-print_item
print_parts-returns-in_err-print_item t c =
    let whole = joined_cut c.args.parts.now c.loop-i.i c.index-parts-i.result c.loop-i-test.true in
    let done = joined (take c.loop-i.i c.args.parts.now) ++ blank_before c.loop-i.i in
    appends_front c.from_residual-in_err-print_item.result c.args.out.now.items c.print_item.new.out.items (joined c.args.parts.now) c.from_residual-in_err-print_item.ensures.0
    (front_middle c.args.out.now.items c.put_blank.new.out.items c.print_item.new.out.items done (spelled c.index-parts-i.result) whole.rest (joined c.args.parts.now)
    (whole.cut ∙ append_assoc done (spelled (get_or c.args.parts.now c.loop-i.i c.index-parts-i.result)) whole.rest ∙ ap (λ (part : Sexp). done ++ (spelled part ++ whole.rest)) (sym c.index-parts-i.is))
    (c.in_ok-put_blank.ensures ∙ ap (λ bs. bs ++ blank_before c.loop-i.i) c.loop-i.invariant ∙ append_assoc c.args.out.now.items (joined (take c.loop-i.i c.args.parts.now)) (blank_before c.loop-i.i))
    c.in_err-print_item.ensures)

pub print_parts-loop-i-preserved : goal.print_parts-loop-i-preserved
print_parts-loop-i-preserved t c =
    append_three c.args.out.now.items c.loop-i.out.items c.put_blank.new.out.items c.print_item.new.out.items
    (joined (take c.loop-i.i c.args.parts.now)) (blank_before c.loop-i.i) (spelled c.index-parts-i.result) (joined (take (c.loop-i.i + 1) c.args.parts.now))
    c.in_ok-print_item.ensures c.in_ok-put_blank.ensures c.loop-i.invariant
    (joined_more c.args.parts.now c.loop-i.i c.index-parts-i.result c.loop-i-test.true
    ∙ ap (λ (part : Sexp). joined (take c.loop-i.i c.args.parts.now) ++ (blank_before c.loop-i.i ++ spelled part)) (sym c.index-parts-i.is))

pub print_parts-returns : goal.print_parts-returns
print_parts-returns t c = c.loop-i.invariant ∙ joined_all c.args.out.now.items c.args.parts.now c.loop-i.i c.loop-i-test.false
