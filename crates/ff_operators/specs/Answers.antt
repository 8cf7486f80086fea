-- What calls answer that may meet a fault of the script.
use Rattle.std.specs.Prelude.{◌≡◌, Option, Some, None, Result, Ok, Err, ⊤}
use Rattle.ff_value.specs.declared.fault.Fault.{Fault}
use Rattle.ff_operators.specs.declared.answer.Fail.{Fail}
use Rattle.ff_operators.specs.declared.answer.Fail.TheVariants as fail

-- the answer is the one that is meant; want of memory may stand in its place
abbrev pub Gives : {X : Type 0} → Result X Fault → Result X Fail → Type 0
Gives (Ok x) (Ok y) = y ≡ x
Gives (Ok x) (Err (fail.Fault f)) = ⊥
Gives (Ok x) (Err fail.NoMemory) = ⊤
Gives (Err f) (Ok y) = ⊥
Gives (Err f) (Err (fail.Fault g)) = g ≡ f
Gives (Err f) (Err fail.NoMemory) = ⊤

-- the answer is the fault that there is, or that there is none; want of memory may stand in its
-- place
abbrev pub Answers : {X : Type 0} → Option Fault → Result X Fail → Type 0
Answers why (Ok x) = why ≡ None
Answers why (Err (fail.Fault f)) = why ≡ Some f
Answers why (Err fail.NoMemory) = ⊤

-- the fact holds where the answer is a fault
abbrev pub OnFault : {X : Type 0} → Result X Fail → Type 0 → Type 0
OnFault (Ok x) P = ⊤
OnFault (Err (fail.Fault f)) P = P
OnFault (Err fail.NoMemory) P = ⊤
