use Rattle.std.proofs.Common.{T, length, sym, ap, subst, ◌∙◌}
use Rattle.ff_machine.specs.Alone.{AreActs, AreWindows}
use Rattle.ff_records.specs.Records.{WindowsRecs, act_recs, windows_recs}
use Rattle.ff_records.specs.Restored.{Restores}
use Rattle.ff_windows.specs.Recorded.{AreFit}
use Rattle.ff_windows.proofs.Recorded.{pages_valid, windows_valid, open_valid, own_valid, restored_valid, restored_recs, same_recs}
use Rattle.ff_windows.proofs.windows.Windows.restore.Goals as goal

pub returns-then-not-fit-clause-value : goal.returns-then-not-fit-clause-value
returns-then-not-fit-clause-value g c v are has =
    let recs : WindowsRecs = record { acts = c.args.acts.now; pages = c.as_slice-pages.result.now; wins = c.as_slice-wins.result.now; opened = c.as_slice-opened.result.now } in
    let same = same_recs c.args.acts.now c.as_slice-pages.result.now c.args.pages.now c.as_slice-wins.result.now c.args.wins.now c.as_slice-opened.result.now c.args.opened.now c.as_slice-pages.ensures c.as_slice-wins.ensures c.as_slice-opened.ensures in
    let acts = subst (Restores AreActs act_recs c.args.acts.now) c.in-Some.is c.in_ok-acts.ensures.value in
    let all = has ∙ sym same in
    let fit : AreFit (length c.in-Some.acts) recs.pages recs.wins recs.opened = record {
      pages = pages_valid recs v are all c.in-Some.acts acts.1;
      windows = windows_valid recs v are all;
      opened = open_valid recs v are all;
      own = own_valid recs v are all;
    } in
    let yes = c.in_ok-fit.ensures.1 (subst (λ n. AreFit n recs.pages recs.wins recs.opened) (sym c.len.ensures.value) fit) in
    subst T (sym yes ∙ c.if-not-fit.true) tt

pub of-requires : goal.of-requires
of-requires g c =
    let recs : WindowsRecs = record { acts = c.args.acts.now; pages = c.as_slice-pages.result.now; wins = c.as_slice-wins.result.now; opened = c.as_slice-opened.result.now } in
    let acts = subst (Restores AreActs act_recs c.args.acts.now) c.in-Some.is c.in_ok-acts.ensures.value in
    let fit = subst (λ n. AreFit n c.as_slice-pages.result.now c.as_slice-wins.result.now c.as_slice-opened.result.now) c.len.ensures.value (c.in_ok-fit.ensures.0 c.if-not-fit.false) in
    restored_valid c.in-Some.acts recs acts.0 acts.1 fit.pages fit.windows fit.opened fit.own
    c.in_ok-windows.windows c.in_ok-opened.opened.items c.in_ok-pages.pages c.in_ok-windows.ensures.value c.in_ok-opened.ensures.items c.in_ok-pages.ensures.value

pub returns-clause-value : goal.returns-clause-value
returns-clause-value g c =
    let recs : WindowsRecs = record { acts = c.args.acts.now; pages = c.as_slice-pages.result.now; wins = c.as_slice-wins.result.now; opened = c.as_slice-opened.result.now } in
    let same = same_recs c.args.acts.now c.as_slice-pages.result.now c.args.pages.now c.as_slice-wins.result.now c.args.wins.now c.as_slice-opened.result.now c.args.opened.now c.as_slice-pages.ensures c.as_slice-wins.ensures c.as_slice-opened.ensures in
    let acts = subst (Restores AreActs act_recs c.args.acts.now) c.in-Some.is c.in_ok-acts.ensures.value in
    let fit = subst (λ n. AreFit n c.as_slice-pages.result.now c.as_slice-wins.result.now c.as_slice-opened.result.now) c.len.ensures.value (c.in_ok-fit.ensures.0 c.if-not-fit.false) in (
      subst AreWindows (sym c.of.ensures) (restored_valid c.in-Some.acts recs acts.0 acts.1 fit.pages fit.windows fit.opened fit.own c.in_ok-windows.windows c.in_ok-opened.opened.items c.in_ok-pages.pages c.in_ok-windows.ensures.value c.in_ok-opened.ensures.items c.in_ok-pages.ensures.value),
      ap windows_recs c.of.ensures ∙ restored_recs c.in-Some.acts recs acts.0 acts.1 fit.pages fit.windows fit.opened fit.own c.in_ok-windows.windows c.in_ok-opened.opened.items c.in_ok-pages.pages c.in_ok-windows.ensures.value c.in_ok-opened.ensures.items c.in_ok-pages.ensures.value ∙ same,
    )
