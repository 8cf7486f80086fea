use Rattle.std.proofs.Common.{◌≡◌, Bool, true, find, get_or, sym, ap, ◌∙◌, arith}
use Rattle.ff_value.specs.declared.ids.WinId.{WinId}
use Rattle.ff_machine.specs.Nodes.{is_name}
use Rattle.ff_machine.specs.Windows.{Window, window_at}
use Rattle.ff_windows.proofs.Searching.{first_found, none_found}
use Rattle.ff_windows.proofs.windows.Windows.named.Goals as goal

pub returns-then-is_named : goal.returns-then-is_named
returns-then-is_named c =
    let d : WinId = record { 0 = 0 } in
    let p : WinId → Bool = λ n. is_name c.args.name.now (window_at c.args.self.now n).name in
    let here : p (get_or c.opened-opened.result.now c.loop-n.n-index d) ≡ true =
    ap (λ (w : Window). is_name c.args.name.now w.name) (sym c.window.ensures.value) ∙ sym c.is_named.ensures ∙ c.if-is_named.true in
    sym (ap (find p) (sym c.opened-opened.ensures.value) ∙ first_found p c.opened-opened.result.now c.loop-n.n-index d (omega (arith, c.loop-n-test.true)) c.loop-n.invariant here)

pub returns : goal.returns
returns c =
    let d : WinId = record { 0 = 0 } in
    let p : WinId → Bool = λ n. is_name c.args.name.now (window_at c.args.self.now n).name in
    sym (ap (find p) (sym c.opened-opened.ensures.value) ∙ none_found p c.opened-opened.result.now d (λ k lt. c.loop-n.invariant k (omega (arith, lt, c.loop-n-test.false))))
