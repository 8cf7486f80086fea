use Rattle.std.proofs.Common.{sym, ap, ◌∙◌, arith}
use Rattle.std.specs.List.{list_any}
use Rattle.ff_value.specs.declared.ids.WinId.{WinId}
use Rattle.ff_machine.specs.Windows.{is_win}
use Rattle.ff_windows.proofs.Searching.{none_any}
use Rattle.ff_windows.proofs.windows.Windows.is_open.Goals as goal

pub returns : goal.returns
returns c =
    let d : WinId = record { 0 = 0 } in
    let p = is_win c.args.n in
    sym (ap (list_any p) (sym c.opened-opened.ensures.value) ∙ none_any p c.opened-opened.result.now d (λ k lt. c.loop-m.invariant k (omega (arith, lt, c.loop-m-test.false))))
