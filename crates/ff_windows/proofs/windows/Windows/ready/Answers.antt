use Rattle.std.proofs.Common.{◌≡◌, Bool, true, Some, find, get_or, map, is_some, refl, sym, ap, subst, ◌∙◌, arith}
use Rattle.ff_value.specs.declared.ids.WinId.{WinId}
use Rattle.ff_value.specs.declared.ids.PageId.{PageId}
use Rattle.ff_machine.specs.Windows.{Window, Page, window_at, page_at, first_ready}
use Rattle.ff_windows.proofs.Searching.{first_mapped, none_mapped}
use Rattle.ff_windows.proofs.windows.Windows.ready.Goals as goal

pub returns-then-is_ready : goal.returns-then-is_ready
returns-then-is_ready c =
    let d : WinId = record { 0 = 0 } in
    let q : PageId → Bool = λ p. is_some (first_ready (page_at c.args.self.now p).queue) in
    let f : WinId → PageId = λ n. (window_at c.args.self.now n).page in
    let shown : c.page-page.result ≡ f (get_or c.opened-opened.result.now c.loop-n.n-index d) = c.page-page.ensures ∙ ap (λ (w : Window). w.page) c.window.ensures.value in
    let passes : q c.page-page.result ≡ true = ap (λ (p : Page). is_some (first_ready p.queue)) (sym c.page_of.ensures.value) ∙ sym c.is_ready.ensures ∙ c.if-is_ready.true in
    ap (λ p. Some p) shown
    ∙ sym (ap (λ ns. find q (map f ns)) (sym c.opened-opened.ensures.value)
    ∙ first_mapped q f c.opened-opened.result.now c.loop-n.n-index d (omega (arith, c.loop-n-test.true)) c.loop-n.invariant (subst (λ p. q p ≡ true) shown passes))

pub returns : goal.returns
returns c =
    let d : WinId = record { 0 = 0 } in
    let q : PageId → Bool = λ p. is_some (first_ready (page_at c.args.self.now p).queue) in
    let f : WinId → PageId = λ n. (window_at c.args.self.now n).page in
    sym (ap (λ ns. find q (map f ns)) (sym c.opened-opened.ensures.value) ∙ none_mapped q f c.opened-opened.result.now d (λ k lt. c.loop-n.invariant k (omega (arith, lt, c.loop-n-test.false))))

pub returns-then-not-any_ready : goal.returns-then-not-any_ready
returns-then-not-any_ready c =
    let d : WinId = record { 0 = 0 } in
    let q : PageId → Bool = λ p. is_some (first_ready (page_at c.args.self.now p).queue) in
    let f : WinId → PageId = λ n. (window_at c.args.self.now n).page in
    sym (none_mapped q f c.args.self.now.opened d (λ k lt. c.if-not-any_ready.ensures.none refl (f (get_or c.args.self.now.opened k d))))
