-- What calls leave that make what the definitions say. Where a call was refused memory, what it put
-- is a front of what it was to put, and of its object no more is said. Whether a call fails is said
-- by `Answers` and `OnFault` of the operators.
use Rattle.std.specs.Prelude.{◌≡◌, Bool, true, false, List, [], ◌++◌, Option, Some, None, Result, Ok, Err, ⊤}
use Rattle.ff_contract.specs.Appending.{AppendsFront}
use Rattle.ff_operators.specs.declared.answer.Fail.{Fail}
use Rattle.ff_operators.specs.declared.answer.Fail.TheVariants as fail
use Rattle.ff_confinement.specs.Turns.{Stepped}
use Rattle.ff_value.specs.declared.fault.Fault.{Fault}
use Rattle.ff_value.specs.declared.output.Out.{Out}
use Rattle.ff_value.specs.declared.value.Val.{Val}
use Rattle.ff_term.specs.Running.{Evaluation, Done, rewritten_in}
use Rattle.ff_machine.specs.declared.reduced.Reduced.{Reduced}
use Rattle.ff_machine.specs.declared.reduced.Reduced.TheVariants as answer
use Rattle.ff_machine.specs.Stores.{Stores}
use Rattle.ff_machine.specs.Operators.{Outcome}
use Rattle.ff_machine.specs.Reduction.{Reduction}
use Rattle.ff_machine.specs.State.{Task}
use Rattle.ff_machine.specs.Turns.{Worked}

-- Steps: `old` and `new` are what the call changes, `puts` and `puts'` the outputs before and after
-- it.

-- a call that always makes its step
abbrev pub Makes : {S O X E : Type 0} → S → S → List O → List O → Stepped O S → Result X E → Type 0
Makes old new puts puts' step (Ok x) = (new ≡ step.after) × (puts' ≡ puts ++ step.outputs)
Makes old new puts puts' step (Err e) = AppendsFront puts puts' step.outputs

-- a call that makes a step where there is room for it, and answers whether there is; without room
-- nothing changes
abbrev pub MakesIfRoom : {S O E : Type 0} → S → S → List O → List O → Option (Stepped O S) → Result Bool E → Type 0
MakesIfRoom old new puts puts' None (Ok b) = (b ≡ false) × (new ≡ old) × (puts' ≡ puts)
MakesIfRoom old new puts puts' None (Err e) = puts' ≡ puts
MakesIfRoom old new puts puts' (Some step) (Ok b) = (b ≡ true) × (new ≡ step.after) × (puts' ≡ puts ++ step.outputs)
MakesIfRoom old new puts puts' (Some step) (Err e) = AppendsFront puts puts' step.outputs

-- a call that makes a step where there is no fault, and else answers the fault; then nothing
-- changes
abbrev pub Tries : {S O X : Type 0} → S → S → List O → List O → Option Fault → Stepped O S → Result X Fail → Type 0
Tries old new puts puts' None step (Ok x) = (new ≡ step.after) × (puts' ≡ puts ++ step.outputs)
Tries old new puts puts' None step (Err (fail.Fault g)) = ⊥
Tries old new puts puts' None step (Err fail.NoMemory) = AppendsFront puts puts' step.outputs
Tries old new puts puts' (Some f) step (Ok x) = ⊥
Tries old new puts puts' (Some f) step (Err (fail.Fault g)) = (g ≡ f) × (new ≡ old) × (puts' ≡ puts)
Tries old new puts puts' (Some f) step (Err fail.NoMemory) = puts' ≡ puts

-- Rows of the reduction.

-- a call that does what an operator does
abbrev pub Does : Outcome → Result Val Fail → Stores → Stores → List Out → List Out → Type 0
Does (Ok did) (Ok v) old new puts puts' = (v ≡ did.value) × (new ≡ did.after) × (puts' ≡ puts ++ did.outputs)
Does (Ok did) (Err (fail.Fault g)) old new puts puts' = ⊥
Does (Ok did) (Err fail.NoMemory) old new puts puts' = AppendsFront puts puts' did.outputs
Does (Err f) (Ok v) old new puts puts' = ⊥
Does (Err f) (Err (fail.Fault g)) old new puts puts' = (g ≡ f) × (new ≡ old) × (puts' ≡ puts)
Does (Err f) (Err fail.NoMemory) old new puts puts' = puts' ≡ puts

-- the same of a call that changes nothing and puts nothing
abbrev pub Reads : Outcome → Result Val Fail → Type 0
Reads (Ok did) (Ok v) = v ≡ did.value
Reads (Ok did) (Err (fail.Fault g)) = ⊥
Reads (Ok did) (Err fail.NoMemory) = ⊤
Reads (Err f) (Ok v) = ⊥
Reads (Err f) (Err (fail.Fault g)) = g ≡ f
Reads (Err f) (Err fail.NoMemory) = ⊤

-- a call that makes a reduction of an evaluation
abbrev pub Reduces : {E : Type 0} → Reduction → Result Reduced E → Evaluation → Stores → List Out → List Out → Type 0
Reduces r (Ok a) t s puts puts' = (a ≡ r.answer) × (t ≡ r.running) × (s ≡ r.after) × (puts' ≡ puts ++ r.outputs)
Reduces r (Err e) t s puts puts' = AppendsFront puts puts' r.outputs

-- a call that puts the value that a row gave for the redex, or hands on why the row gave none
abbrev pub Finishes : {E : Type 0} → Evaluation → Result Val Fail → Result Reduced E → Evaluation → Type 0
Finishes t (Ok v) (Ok a) t' = (a ≡ answer.Moved) × (t' ≡ rewritten_in (λ _. Done v) t)
Finishes t (Ok v) (Err e) t' = ⊤
Finishes t (Err (fail.Fault f)) (Ok a) t' = (a ≡ answer.Failed f) × (t' ≡ t)
Finishes t (Err (fail.Fault f)) (Err e) t' = ⊥
Finishes t (Err fail.NoMemory) (Ok a) t' = ⊥
Finishes t (Err fail.NoMemory) (Err e) t' = ⊤

-- a call that works on a task, and gives the task where it goes on
abbrev pub Works : {E : Type 0} → Worked → Result (Option Task) E → Stores → List Out → List Out → Type 0
Works w (Ok left) s puts puts' = (left ≡ w.left) × (s ≡ w.after) × (puts' ≡ puts ++ w.outputs)
Works w (Err e) s puts puts' = AppendsFront puts puts' w.outputs
