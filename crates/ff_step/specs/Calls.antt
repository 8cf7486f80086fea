-- What calls leave that find what the call of a function becomes, and that put it.
use Rattle.std.specs.Prelude.{◌≡◌, [], Result, Ok, Err, ⊤}
use Rattle.ff_tree.specs.declared.tree.Expr.{Expr}
use Rattle.ff_value.specs.declared.fault.Fault.{Fault}
use Rattle.ff_value.specs.declared.ids.ActId.{ActId}
use Rattle.ff_operators.specs.declared.answer.Fail.{Fail}
use Rattle.ff_operators.specs.declared.answer.Fail.TheVariants as fail
use Rattle.ff_term.specs.Running.{Evaluation, Inside, rewritten_in}
use Rattle.ff_term.specs.Whole.{whole}
use Rattle.ff_machine.specs.declared.reduced.Reduced.{Reduced}
use Rattle.ff_machine.specs.declared.reduced.Reduced.TheVariants as answer
use Rattle.ff_machine.specs.Stores.{Stores}
use Rattle.ff_machine.specs.Reduction.{Became}

-- a call that makes the activation of what is called, and gives it and the body that runs in it
abbrev pub Calls : Result Became Fault → Result (ActId × Expr) Fail → Stores → Stores → Type 0
Calls (Ok became) (Ok found) old new = became ≡ record { part = Inside found.0 (whole found.1); after = new; outputs = [] }
Calls (Ok became) (Err (fail.Fault g)) old new = ⊥
Calls (Ok became) (Err fail.NoMemory) old new = ⊤
Calls (Err f) (Ok found) old new = ⊥
Calls (Err f) (Err (fail.Fault g)) old new = (g ≡ f) × (new ≡ old)
Calls (Err f) (Err fail.NoMemory) old new = ⊤

-- a call that puts such a body for the redex, or hands on why there is none
abbrev pub Enters : {E : Type 0} → Evaluation → Result (ActId × Expr) Fail → Result Reduced E → Evaluation → Type 0
Enters t (Ok found) (Ok a) t' = (a ≡ answer.Moved) × (t' ≡ rewritten_in (λ _. Inside found.0 (whole found.1)) t)
Enters t (Ok found) (Err e) t' = ⊤
Enters t (Err (fail.Fault f)) (Ok a) t' = (a ≡ answer.Failed f) × (t' ≡ t)
Enters t (Err (fail.Fault f)) (Err e) t' = ⊥
Enters t (Err fail.NoMemory) (Ok a) t' = ⊥
Enters t (Err fail.NoMemory) (Err e) t' = ⊤
