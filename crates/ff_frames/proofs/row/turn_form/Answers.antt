use Rattle.std.proofs.Common.{sym, ◌∙◌, arith}
use Rattle.ff_frames.specs.declared.frame.Head.TheVariants as head
use Rattle.ff_frames.proofs.Locals.{form-at, turned-last, turned-next}
use Rattle.ff_frames.proofs.row.turn_form.Goals as goal

pub returns-in_ok-head-in-Do : goal.returns-in_ok-head-in-Do
returns-in_ok-head-in-Do c =
    let f = head.Part c.in-Part.form c.in-Part.held in
    let es = c.in-Do.parts in
    rw c.in-Part.is (turned-next f _ es 1 c.args.hand.now c.next_item.new.self (form-at c.in-Part.form es c.in-Part.held (sym c.get.ensures ∙ c.in-Do.is)) c.in_ok-head-in-Do.ensures c.in_ok-next_item-in-Do.ensures)

pub returns-else-len-gt1 : goal.returns-else-len-gt1
returns-else-len-gt1 c =
    let f = head.Part c.in-Part.form c.in-Part.held in
    let es = c.in-Do.parts in
    rw c.in-Part.is (turned-last f es 1 c.args.hand.now (form-at c.in-Part.form es c.in-Part.held (sym c.get.ensures ∙ c.in-Do.is)) (omega (arith, c.if-len-gt1.false, c.len.ensures)))
