use Rattle.std.proofs.Common.{◌≡◌, true, get_or, position, sym, ap, ◌∙◌, arith}
use Rattle.std.proofs.lemmas.Bool.{eq-eqb}
use Rattle.ff_value.specs.declared.ids.WinId.{WinId}
use Rattle.ff_machine.specs.Windows.{is_win}
use Rattle.ff_windows.proofs.Searching.{first_place, no_place}
use Rattle.ff_windows.proofs.windows.Windows.position.Goals as goal

pub returns-then-n-m : goal.returns-then-n-m
returns-then-n-m c =
    let d : WinId = record { 0 = 0 } in
    let p = is_win c.args.n in
    let here : p (get_or c.opened-opened.result.now c.loop-i.i d) ≡ true = eq-eqb _ _ c.if-n-m.true in
    sym (ap (position p) (sym c.opened-opened.ensures.value) ∙ first_place p c.opened-opened.result.now c.loop-i.i d (omega (arith, c.loop-i-test.true)) c.loop-i.invariant here)

pub returns : goal.returns
returns c =
    let d : WinId = record { 0 = 0 } in
    let p = is_win c.args.n in
    sym (ap (position p) (sym c.opened-opened.ensures.value) ∙ no_place p c.opened-opened.result.now d (λ k lt. c.loop-i.invariant k (omega (arith, lt, c.loop-i-test.false))))
