use Rattle.std.proofs.Common.{◌≡◌, true, inl, inr, ap}
use Rattle.ff_machine.specs.Shapes.{may_have_children}
use Rattle.ff_saved_rows.proofs.LineByLine.{kids_line}
use Rattle.ff_saved_rows.proofs.lines.put_kids.Goals as goal

pub returns-in-Page : goal.returns-in-Page
returns-in-Page c = λ order.
    let may : may_have_children c.args.shape.now ≡ true = elim (c.in-Page.is) [ inl x ↦ ap may_have_children x.1 | inr x ↦ ap may_have_children x.1 ] in
    kids_line order c.args.shape.now c.args.kids.now may (rw c.as_slice.ensures at c.print_kids.ensures) c.bytes.ensures
