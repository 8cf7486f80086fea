use Rattle.std.proofs.Common.{◌≡◌, None, length, ap, subst, sym, ◌∙◌, arith}
use Rattle.std.proofs.lemmas.Bool.Decides.{nat_tests}
use Rattle.std.specs.Prelude.{IsTrue}
use Rattle.ff_machine.specs.State.{State}
use Rattle.ff_machine.specs.Windows.{Windows, ready}
use Rattle.ff_machine.specs.Turns.{next_work}
use Rattle.ff_core.specs.Views.{state_of}
use Rattle.ff_core.proofs.Turning.{idle_is, idle_only, no_items, none_if, if_none}
use Rattle.ff_core.proofs.parts.Parts.idle.Goals as goal

pub returns-then-is_empty : goal.returns-then-is_empty
returns-then-is_empty c =
    let s : State = state_of c.self.inside in
    let count : length c.self.inside.tasks.items ≡ 0 = grind (arith, nat_tests) in
    let found : c.ready.result ≡ ready s.stores.windows = c.ready.ensures ∙ ap (λ (w : Windows). ready w) c.windows.ensures.value in
    subst (λ (t : State). (IsTrue c.is_none.result → next_work t ≡ None) × (next_work t ≡ None → IsTrue c.is_none.result)) c.self.view_is (
      (λ yes. idle_is s (no_items c.self.inside.tasks.items count) (sym found ∙ none_if c.ready.result c.is_none.result c.is_none.ensures yes)),
      (λ e. if_none c.ready.result c.is_none.result c.is_none.ensures (found ∙ (idle_only s e).1)),
    )
