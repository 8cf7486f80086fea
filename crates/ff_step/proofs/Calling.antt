-- A function's call that was found, and is then put for the redex.
use Rattle.std.proofs.Common.{List, ◌++◌, Result, Ok, Err, refl, sym, ap, ◌∙◌, append-nil}
use Rattle.ff_tree.specs.declared.tree.Expr.{Expr}
use Rattle.ff_value.specs.declared.fault.Fault.{Fault}
use Rattle.ff_value.specs.declared.ids.ActId.{ActId}
use Rattle.ff_value.specs.declared.output.Out.{Out}
use Rattle.ff_operators.specs.declared.answer.Fail.{Fail}
use Rattle.ff_operators.specs.declared.answer.Fail.TheVariants as fail
use Rattle.ff_term.specs.Running.{Running, Evaluation, rewritten_in}
use Rattle.ff_machine.specs.declared.reduced.Reduced.{Reduced}
use Rattle.ff_machine.specs.declared.reduced.Reduced.TheVariants as answer
use Rattle.ff_machine.specs.Stores.{Stores}
use Rattle.ff_machine.specs.Answers.{Reduces}
use Rattle.ff_machine.specs.Reduction.{Became, by_redex}
use Rattle.ff_step.specs.Calls.{Calls, Enters}
use Rattle.ff_step.proofs.Values.{none_put, nothing_put}

-- the call of a function, or the fault, was found, and then it was put for the redex, or answered
pub reduced_call : {E : Type 0} (s s' : Stores) (t t' : Evaluation) (puts : List Out) (r : Result Became Fault) (got : Result (ActId × Expr) Fail) (result : Result Reduced E)
    → Calls r got s s' → Enters t got result t' → Reduces (by_redex s t r) result t' s' puts puts
reduced_call s s' t t' puts (Ok became) (Ok found) (Ok a) d f =
    let part = ap (λ (b : Became). b.part) d in
    let after = ap (λ (b : Became). b.after) d in
    let outputs = ap (λ (b : Became). b.outputs) d in
    (f.0, f.1 ∙ ap (λ (p : Running). rewritten_in (λ _. p) t) (sym part), sym after, sym (append-nil puts) ∙ ap (λ (os : List Out). puts ++ os) (sym outputs))
reduced_call s s' t t' puts (Ok became) (Ok found) (Err e) d f = none_put puts became.outputs
reduced_call s s' t t' puts (Ok became) (Err (fail.Fault g)) result d f = absurd d
reduced_call s s' t t' puts (Ok became) (Err fail.NoMemory) (Ok a) d f = absurd f
reduced_call s s' t t' puts (Ok became) (Err fail.NoMemory) (Err e) d f = none_put puts became.outputs
reduced_call s s' t t' puts (Err g) (Ok found) result d f = absurd d
reduced_call s s' t t' puts (Err g) (Err (fail.Fault h)) (Ok a) d f = (f.0 ∙ ap answer.Failed d.0, f.1, d.1, sym (append-nil puts))
reduced_call s s' t t' puts (Err g) (Err (fail.Fault h)) (Err e) d f = absurd f
reduced_call s s' t t' puts (Err g) (Err fail.NoMemory) (Ok a) d f = absurd f
reduced_call s s' t t' puts (Err g) (Err fail.NoMemory) (Err e) d f = nothing_put puts puts refl
