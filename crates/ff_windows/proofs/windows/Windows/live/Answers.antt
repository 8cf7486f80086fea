use Rattle.std.proofs.Common.{Bool, sym, ap, ◌∙◌, arith}
use Rattle.std.specs.Prelude.{nat_eq}
use Rattle.std.specs.List.{list_any}
use Rattle.ff_value.specs.declared.ids.WinId.{WinId}
use Rattle.ff_machine.specs.Windows.{window_at}
use Rattle.ff_windows.proofs.Searching.{none_any}
use Rattle.ff_windows.proofs.windows.Windows.live.Goals as goal

pub returns : goal.returns
returns c =
    let d : WinId = record { 0 = 0 } in
    let p : WinId → Bool = λ n. nat_eq (window_at c.args.self.now n).page.0 c.args.page.0 in
    sym (ap (list_any p) (sym c.opened-opened.ensures.value) ∙ none_any p c.opened-opened.result.now d (λ k lt. c.loop-n.invariant k (omega (arith, lt, c.loop-n-test.false))))
