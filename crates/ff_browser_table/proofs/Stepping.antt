-- Evaluations that may go on: those of scripts that begin, and those that reductions leave.
use Rattle.std.proofs.Common.{◌≡◌, ◌<◌, length, arith, true, Option, Some, None, Result, Ok, Err, refl, sym, subst}
use Rattle.ff_tree.specs.Spelled.{IsWellSpelledExpr}
use Rattle.ff_tree.specs.declared.tree.Expr.{Expr}
use Rattle.ff_value.specs.declared.fault.Fault.{Fault}
use Rattle.ff_value.specs.declared.ids.ActId.{ActId}
use Rattle.ff_value.specs.declared.ids.PageId.{PageId}
use Rattle.ff_value.specs.declared.value.Val.{Val}
use Rattle.ff_term.specs.Running.{Evaluation, value_of}
use Rattle.ff_term.specs.Whole.{whole}
use Rattle.ff_term.proofs.Calls.{at_most_all, whole-around}
use Rattle.ff_term.proofs.Sources.{source}
use Rattle.ff_machine.specs.Stores.{Stores}
use Rattle.ff_machine.specs.Reduction.{Moved, Red, reduction, as_reduction}
use Rattle.ff_machine.specs.Windows.{is_live, page_at}
use Rattle.ff_machine.specs.References.{made}
use Rattle.ff_machine.specs.Valid.{IsStores, IsTask}
use Rattle.ff_laws.specs.Reduced.{MovesUnlessFault}
use Rattle.ff_laws.proofs.Reducing.{red_keeps}
use Rattle.ff_laws.proofs.Redexes.{source_valid}
use Rattle.ff_laws.proofs.Working.{unfinished}
use Rattle.ff_store_operators.proofs.Lives.{live_lives}
use Rattle.ff_browser_table.specs.Ready.{IsReady}

-- a script that begins in an activation that was made may go on
pub begun : (s : Stores) (a : ActId) (body : Expr) → a.0 < length s.windows.acts → IsWellSpelledExpr body → IsReady s (record { base = a; expr = whole body })
begun s a body lives is = record { act = lives; running = source_valid (made s) body is }

went_on : (s : Stores) (t : Evaluation) (o : Option Val) (red : Result Moved Fault) → IsReady s t → (o ≡ None → MovesUnlessFault s red)
    → IsReady (as_reduction s t o red).after (as_reduction s t o red).running
went_on s t (Some v) red is moves = is
went_on s t None (Err f) is moves = is
went_on s t None (Ok moved) is moves = record { act = (moves refl).base; running = (moves refl).running }

-- a reduction of a live page leaves an evaluation that may go on
pub goes_on : (s : Stores) (page : PageId) (t : Evaluation) → IsStores s → is_live s.windows page ≡ true → IsReady s t → IsReady (reduction s page t).after (reduction s page t).running
unfolding reduction
goes_on s page t valid live is =
    went_on s t (value_of t.expr) (Red s page t) is (λ e. red_keeps s page t valid (live_lives s valid page live) is.act is.running (unfinished t.expr e))

-- so does what a call leaves that makes it
pub left_ready : (s s' : Stores) (page : PageId) (t t' : Evaluation) → IsStores s → is_live s.windows page ≡ true → IsReady s t → t' ≡ (reduction s page t).running → s' ≡ (reduction s page t).after → IsReady s' t'
left_ready s s' page t t' valid live is e f =
    subst (λ (x : Stores). IsReady x t') (sym f) (subst (λ (u : Evaluation). IsReady (reduction s page t).after u) (sym e) (goes_on s page t valid live is))

-- a script of a page, in the page's activation, is a valid task
pub task_begun : (s : Stores) (page : PageId) (a : ActId) (body : Expr) → page.0 < length s.windows.pages → a ≡ (page_at s.windows page).act → IsWellSpelledExpr body
    → IsTask s (record { page = page; running = record { base = a; expr = whole body } })
task_begun s page a body there own is = record {
  page = there;
  act = own;
  running = source_valid (made s) body is;
  around = whole-around body;
  shallow = let p = at_most_all (whole body) in let q = (source body).insides in omega (arith, p, q);
}
