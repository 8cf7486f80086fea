use Rattle.std.proofs.Common.{T, All, List, map, length, refl, sym, subst, ◌∙◌, arith}
use Rattle.std.proofs.lemmas.List.{take_all}
use Rattle.ff_machine.specs.Alone.{IsWindow}
use Rattle.ff_records.specs.declared.records.WinRec.{WinRec}
use Rattle.ff_windows.specs.Recorded.{window_of}
use Rattle.ff_windows.proofs.Mapped.{mapped_more, mapped_at}
use Rattle.ff_windows.proofs.checking.are_windows.Goals as goal

pub returns-then-not-is_window : goal.returns-then-not-is_window
returns-then-not-is_window c = (
  λ h. cc,
  λ all.
      let here = mapped_at (IsWindow (length c.args.wins.now) c.args.pages) window_of c.args.wins.now c.loop-win.win-index c.win-item.result c.loop-win-test.true c.win-item.is all in
      absurd (subst T (sym (c.is_window.ensures.1 here) ∙ c.if-not-is_window.true) tt),
)

pub loop-win-preserved : goal.loop-win-preserved
loop-win-preserved c =
    mapped_more (IsWindow (length c.args.wins.now) c.args.pages) window_of c.args.wins.now c.loop-win.win-index c.win-item.result c.loop-win-test.true c.win-item.is c.loop-win.invariant (c.is_window.ensures.0 c.if-not-is_window.false)

pub returns : goal.returns
returns c = (
  λ h. subst (λ (ws : List WinRec). All (IsWindow (length c.args.wins.now) c.args.pages) (map window_of ws)) (take_all c.loop-win.win-index c.args.wins.now (omega (arith, c.loop-win-test.false))) c.loop-win.invariant,
  λ h. refl,
)
