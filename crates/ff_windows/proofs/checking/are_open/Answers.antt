use Rattle.std.proofs.Common.{◌<◌, T, get_or, refl, sym, subst, ◌∙◌, arith}
use Rattle.std.proofs.lemmas.List.Elements.{All-more}
use Rattle.ff_value.specs.declared.ids.WinId.{WinId}
use Rattle.ff_windows.proofs.Distinct.{none_distinct, number_new, number_more}
use Rattle.ff_windows.proofs.checking.are_open.Goals as goal

pub loop-i-init : goal.loop-i-init
loop-i-init c = record { there = λ k d less. absurd (omega (arith, less)); differ = none_distinct }

pub returns-then-is_among : goal.returns-then-is_among
returns-then-is_among c = (
  λ h. cc,
  λ are.
      let d : WinId = record { 0 = 0 } in
      let none = number_new c.args.opened.now c.loop-i.i (get_or c.args.opened.now c.loop-i.i d) d c.loop-i-test.true refl are.differ in
      absurd (subst T (sym c.if-is_among.true ∙ c.is_among.ensures ∙ none) tt),
)

pub loop-i-preserved : goal.loop-i-preserved
loop-i-preserved c =
    let d : WinId = record { 0 = 0 } in
    record {
      there = All-more (λ w. w.0 < c.args.wins) c.args.opened.now c.loop-i.i d c.loop-i-test.true c.loop-i.invariant.there c.if-opened-i.false;
      differ = number_more c.args.opened.now c.loop-i.i (get_or c.args.opened.now c.loop-i.i d) d c.loop-i-test.true refl c.loop-i.invariant.differ (sym c.is_among.ensures ∙ c.if-is_among.false);
    }
