-- The reduction of a value, and by the redex that was read.
use Rattle.std.proofs.Common.{◌≡◌, false, Option, Some, sym, ap, ◌∙◌}
use Rattle.ff_value.specs.declared.ids.PageId.{PageId}
use Rattle.ff_value.specs.declared.value.Val.{Val}
use Rattle.ff_term.specs.Redex.{Redex}
use Rattle.ff_term.specs.Running as term
use Rattle.ff_term.specs.Running.{Running, Evaluation, Done, innermost, is_value, value_of}
use Rattle.ff_term.specs.Calls.{calls_around}
use Rattle.ff_term.specs.Redexes.{IsRedexOf}
use Rattle.ff_term.proofs.Reading.{redex-read, no-value}
use Rattle.ff_machine.specs.Stores.{Stores}
use Rattle.ff_machine.specs.Reduction.{Red, reduction, as_reduction, by_redex, reduced}

-- a value stays
pub done_reduction : (s : Stores) (page : PageId) (t : Evaluation) (v : Val) → t.expr ≡ Done v → reduction s page t ≡ as_reduction s t (Some v) (Red s page t)
unfolding reduction
done_reduction s page t v e = ap (λ (e : Running). as_reduction s t (value_of e) (Red s page t)) e

-- an expression that is no value is reduced as its redex says
pub reduction_by : (s : Stores) (page : PageId) (t : Evaluation) (r : Redex) → is_value t.expr ≡ false → IsRedexOf r (term.redex t.expr)
    → reduction s page t ≡ by_redex s t (reduced s page (innermost t.base t.expr) (calls_around t.expr) (term.redex t.expr) r)
unfolding reduction Red
reduction_by s page t r no_value is =
    ap (λ (o : Option Val). as_reduction s t o (Red s page t)) (no-value t.expr no_value)
    ∙ ap (λ (r : Redex). by_redex s t (reduced s page (innermost t.base t.expr) (calls_around t.expr) (term.redex t.expr) r)) (sym (redex-read r (term.redex t.expr) is))
