-- The reduction of a `let` or a `set` whose value is evaluated.
use Rattle.std.proofs.Common.{◌≡◌, List, Option, Some, None, Ok, Err, refl, sym, ap, ◌∙◌, append-nil}
use Rattle.ff_value.specs.declared.fault.Fault.{Fault}
use Rattle.ff_value.specs.declared.output.Out.{Out}
use Rattle.ff_value.specs.declared.value.Val.{Val}
use Rattle.ff_operators.specs.Answers.{Answers, OnFault}
use Rattle.ff_operators.specs.declared.answer.Fail.{Fail}
use Rattle.ff_operators.specs.declared.answer.Fail.TheVariants as fail
use Rattle.ff_term.specs.Running.{Running, Evaluation, Done, redex, rewritten_in}
use Rattle.ff_term.proofs.Laws.{rewritten_at}
use Rattle.ff_frames.specs.Bindings.{bound}
use Rattle.ff_machine.specs.declared.reduced.Reduced.TheVariants as answer
use Rattle.ff_machine.specs.Stores.{Stores, nothing}
use Rattle.ff_machine.specs.Answers.{Reduces}
use Rattle.ff_machine.specs.Operators.{unless, does}
use Rattle.ff_machine.specs.Reduction.{by_redex, of_outcome}
use Rattle.ff_step.specs.Answered.{answered}
use Rattle.ff_step.proofs.Values.{none_put}

-- the stores hold the value, and then it is kept for the redex
pub kept : (s s' after : Stores) (t t' : Evaluation) (puts : List Out) (why : Option Fault) (v : Val) → why ≡ None → s' ≡ after → bound (redex t.expr) ≡ Done v → t' ≡ rewritten_in bound t
    → Reduces {E = Unit {0}} (by_redex s t (of_outcome (unless why (does v (nothing after))))) (Ok answer.Moved) t' s' puts puts
kept s s' after t t' puts why v none stored is e =
    rw none (refl, e ∙ rewritten_at bound t ∙ ap (λ (f : Running). rewritten_in (λ _. f) t) is, stored, sym (append-nil puts))

-- or the stores refuse it
pub not_bound : (s s' after : Stores) (t : Evaluation) (puts : List Out) (why : Option Fault) (v : Val) (f : Fail) → Answers {X = Unit {0}} why (Err f) → OnFault {X = Unit {0}} (Err f) (s' ≡ s)
    → Reduces (by_redex s t (of_outcome (unless why (does v (nothing after))))) (answered (Err f)) t s' puts puts
not_bound s s' after t puts why v (fail.Fault f) is same = rw is (refl, refl, same, sym (append-nil puts))
not_bound s s' after t puts why v fail.NoMemory is same = none_put puts (by_redex s t (of_outcome (unless why (does v (nothing after))))).outputs
