use Rattle.std.proofs.Common.{◌≡◌, ⊎_elim, map, sym, ap, subst, ◌∙◌, arith}
use Rattle.std.proofs.lemmas.List.{length-map}
use Rattle.std.proofs.lemmas.Bool.{cases_lt}
use Rattle.ff_value.specs.declared.ids.WinId.{WinId}
use Rattle.ff_machine.specs.Windows.{nth_page, nth_window}
use Rattle.ff_windows.specs.Recorded.{page_of, window_of}
use Rattle.ff_windows.proofs.Recorded.{own_at}
use Rattle.ff_windows.proofs.checking.are_own.Goals as goal

pub returns-then-pages-wins : goal.returns-then-pages-wins
returns-then-pages-wins c =
    let i = c.loop-i.i in
    let there = c.requires i c.index-wins-i.result c.loop-i-test.true in
    let at = own_at c.args.wins.now c.args.pages.now i c.index-wins-i.result c.index-pages-wins.result c.loop-i-test.true there in
    (λ h. cc, λ own. absurd (c.if-pages-wins.true (ap (λ (w : WinId). w.0) (sym at ∙ own.own (record { 0 = i }) (omega (arith, c.loop-i-test.true, length-map c.args.wins.now window_of))))))

pub loop-i-preserved : goal.loop-i-preserved
loop-i-preserved c =
    let i = c.loop-i.i in
    let there = c.requires i c.index-wins-i.result c.loop-i-test.true in
    let at = own_at c.args.wins.now c.args.pages.now i c.index-wins-i.result c.index-pages-wins.result c.loop-i-test.true there in
    λ w less.
    ⊎_elim
    (λ below. c.loop-i.invariant w below)
    (λ past.
    let same : i ≡ w.0 = omega (arith, past, less) in
    let here = subst (λ n. (nth_page (map page_of c.args.pages.now) (nth_window (map window_of c.args.wins.now) (record { 0 = n })).page).win.0 ≡ n) same (ap (λ (v : WinId). v.0) at ∙ c.if-pages-wins.false) in
    ap (λ n. let v : WinId = record { 0 = n } in v) here)
    (cases_lt w.0 i)
