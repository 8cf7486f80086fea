-- Rows that give a value, and what is then put for the redex.
use Rattle.std.proofs.Common.{◌≡◌, List, [], Result, Ok, Err, refl, sym, ap, ◌∙◌, append-nil}
use Rattle.ff_contract.specs.Appending.{AppendsFront}
use Rattle.ff_value.specs.declared.output.Out.{Out}
use Rattle.ff_value.specs.declared.value.Val.{Val}
use Rattle.ff_operators.specs.declared.answer.Fail.{Fail}
use Rattle.ff_operators.specs.declared.answer.Fail.TheVariants as fail
use Rattle.ff_term.specs.Running as term
use Rattle.ff_term.specs.Running.{Evaluation}
use Rattle.ff_machine.specs.declared.reduced.Reduced.{Reduced}
use Rattle.ff_machine.specs.declared.reduced.Reduced.TheVariants as answer
use Rattle.ff_machine.specs.Stores.{Stores}
use Rattle.ff_machine.specs.Operators.{Outcome, gives}
use Rattle.ff_machine.specs.Answers.{Does, Reads, Reduces, Finishes}
use Rattle.ff_machine.specs.Reduction.{by_redex, of_outcome}

-- what stays as it was has nothing appended
pub nothing_put : (puts puts' : List Out) → puts' ≡ puts → AppendsFront puts puts' []
nothing_put puts puts' e = record { front = []; rest = []; cut = refl; appended = e ∙ sym (append-nil puts) }

-- of a reduction that was refused nothing may have been put
pub none_put : (puts outputs : List Out) → AppendsFront puts puts outputs
none_put puts outputs = record { front = []; rest = outputs; cut = refl; appended = sym (append-nil puts) }

-- a value that is given changes nothing and puts nothing
pub given_does : (s : Stores) (v : Val) (got : Result Val Fail) (puts : List Out) → Reads (gives s v) got → Does (gives s v) got s s puts puts
given_does s v (Ok w) puts h = (h, refl, sym (append-nil puts))
given_does s v (Err (fail.Fault g)) puts h = absurd h
given_does s v (Err fail.NoMemory) puts h = nothing_put puts puts refl

-- a row gave a value or a fault, and then the value was put for the redex, or the fault answered
pub finished : {E : Type 0} (s s' : Stores) (t t' : Evaluation) (puts puts' : List Out) (outcome : Outcome) (got : Result Val Fail) (result : Result Reduced E)
    → Does outcome got s s' puts puts' → Finishes t got result t' → Reduces (by_redex s t (of_outcome outcome)) result t' s' puts puts'
finished s s' t t' puts puts' (Ok did) (Ok v) (Ok a) d f = (f.0, f.1 ∙ ap (λ (v : Val). term.rewritten_in (λ _. term.Done v) t) d.0, d.1, d.2)
finished s s' t t' puts puts' (Ok did) (Ok v) (Err e) d f = record { front = did.outputs; rest = []; cut = sym (append-nil did.outputs); appended = d.2 }
finished s s' t t' puts puts' (Ok did) (Err (fail.Fault g)) result d f = absurd d
finished s s' t t' puts puts' (Ok did) (Err fail.NoMemory) (Ok a) d f = absurd f
finished s s' t t' puts puts' (Ok did) (Err fail.NoMemory) (Err e) d f = d
finished s s' t t' puts puts' (Err g) (Ok v) result d f = absurd d
finished s s' t t' puts puts' (Err g) (Err (fail.Fault h)) (Ok a) d f = (f.0 ∙ ap answer.Failed d.0, f.1, d.1, d.2 ∙ sym (append-nil puts))
finished s s' t t' puts puts' (Err g) (Err (fail.Fault h)) (Err e) d f = absurd f
finished s s' t t' puts puts' (Err g) (Err fail.NoMemory) (Ok a) d f = absurd f
finished s s' t t' puts puts' (Err g) (Err fail.NoMemory) (Err e) d f = nothing_put puts puts' d
