use Rattle.std.proofs.Common.{◌≡◌, ◌<◌, ◌∙◌, ◌++◌, ◌+◌, ℕ, List, take, get_or, length, sym, ap, append_assoc}
use Rattle.std.proofs.lemmas.List.{get_or-map, length-map}
use Rattle.ff_text.specs.Printed.{spelled, blank_before}
use Rattle.ff_text.specs.declared.items.Sexp.{Sexp}
use Rattle.ff_text.proofs.Appending.{append_three, joined_more, joined_front, joined_cut}
use Rattle.ff_trace.specs.Pieces.{part_item, part_items}
use Rattle.ff_trace.specs.Printed.{joined}
use Rattle.ff_trace.specs.declared.pieces.Part.{Part}
use Rattle.ff_contract.proofs.Sequence.{appends_front, front_done, front_middle}
use Rattle.ff_trace.proofs.pieces.print_parts.Goals as goal

item_at : (parts : List Part) (i : ℕ) (part : Part) → i < length parts → part ≡ get_or parts i part → get_or (part_items parts) i (part_item part) ≡ part_item part
item_at parts i part inside is = get_or-map part_item parts i part (part_item part) inside ∙ ap part_item (sym is)

within : (parts : List Part) (i : ℕ) → i < length parts → i < length (part_items parts)
within parts i inside = rw (length-map parts part_item) inside

pub returns-in_err-put_blank : goal.returns-in_err-put_blank
returns-in_err-put_blank c =
    let items = part_items c.args.parts.now in
    let front = joined_front items c.loop-i.i in
    appends_front c.from_residual.result c.args.out.now.items c.put_blank.new.out.items (joined items) c.from_residual.ensures.0
    (front_done c.args.out.now.items c.put_blank.new.out.items (joined items) (joined (take c.loop-i.i items)) front.rest
    (c.in_err-put_blank.ensures ∙ c.loop-i.invariant) front.cut)

pub returns-in_err-print_part : goal.returns-in_err-print_part
returns-in_err-print_part c =
    let items = part_items c.args.parts.now in
    let item = part_item c.index-parts-i.result in
    let whole = joined_cut items c.loop-i.i item (within c.args.parts.now c.loop-i.i c.loop-i-test.true) in
    let done = joined (take c.loop-i.i items) ++ blank_before c.loop-i.i in
    appends_front c.from_residual-in_err-print_part.result c.args.out.now.items c.print_part.new.out.items (joined items) c.from_residual-in_err-print_part.ensures.0
    (front_middle c.args.out.now.items c.put_blank.new.out.items c.print_part.new.out.items done (spelled item) whole.rest (joined items)
    (whole.cut ∙ append_assoc done (spelled (get_or items c.loop-i.i item)) whole.rest ∙ ap (λ (part : Sexp). done ++ (spelled part ++ whole.rest)) (item_at c.args.parts.now c.loop-i.i c.index-parts-i.result c.loop-i-test.true c.index-parts-i.is))
    (c.in_ok-put_blank.ensures ∙ ap (λ bs. bs ++ blank_before c.loop-i.i) c.loop-i.invariant ∙ append_assoc c.args.out.now.items (joined (take c.loop-i.i items)) (blank_before c.loop-i.i))
    c.in_err-print_part.ensures)

pub loop-i-preserved : goal.loop-i-preserved
loop-i-preserved c =
    let items = part_items c.args.parts.now in
    let item = part_item c.index-parts-i.result in
    append_three c.args.out.now.items c.loop-i.out.items c.put_blank.new.out.items c.print_part.new.out.items
    (joined (take c.loop-i.i items)) (blank_before c.loop-i.i) (spelled item) (joined (take (c.loop-i.i + 1) items))
    c.in_ok-print_part.ensures c.in_ok-put_blank.ensures c.loop-i.invariant
    (joined_more items c.loop-i.i item (within c.args.parts.now c.loop-i.i c.loop-i-test.true)
    ∙ ap (λ (part : Sexp). joined (take c.loop-i.i items) ++ (blank_before c.loop-i.i ++ spelled part)) (item_at c.args.parts.now c.loop-i.i c.index-parts-i.result c.loop-i-test.true c.index-parts-i.is))
