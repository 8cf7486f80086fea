use Rattle.std.proofs.Common.{◌∷◌, ◌++◌, [], Ok, length, refl, sym, ap, subst, ◌∙◌, arith}
use Rattle.ff_session.specs.Giving.{Gives}
use Rattle.ff_writing.proofs.DrawnLines.{drawn_line, drawn_short}
use Rattle.ff_writing.proofs.summing.next_input.Goals as goal

pub read-requires : goal.read-requires
read-requires c =
    let short = drawn_short c.next_line.new.self c.new-line.result.items c.next_line.new.out.items c.pop.new.self.items c.pop.result c.args.draws.now c.in_ok-next_line.ensures.drawn c.new-line.ensures.items c.in_ok-next_line.ensures.line c.pop.ensures.items in
    let same = ap length c.as_slice.ensures.value in
    omega (arith, short, same)

pub returns-in-Ok-Some-clause-drawn : goal.returns-in-Ok-Some-clause-drawn
returns-in-Ok-Some-clause-drawn c = record {
  line = c.as_slice.result.now;
  line_is =
      drawn_line c.next_line.new.self c.new-line.result.items c.next_line.new.out.items c.pop.new.self.items c.pop.result c.args.draws.now c.in_ok-next_line.ensures.drawn c.new-line.ensures.items c.in_ok-next_line.ensures.line c.pop.ensures.items (rw c.in-Some.is refl)
      ∙ ap (λ line. line ++ 10 ∷ []) (sym c.as_slice.ensures.value);
  gives = subst (λ o. Gives c.args.lattice.now c.as_slice.result.now (Ok o)) c.in-Ok-Some.field-0-is (subst (Gives c.args.lattice.now c.as_slice.result.now) c.in-Ok-Some.is c.in_ok-input.ensures);
}
