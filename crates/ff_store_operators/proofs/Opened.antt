-- A window that opens, and its request that is sent, where there is room for both.
use Rattle.std.proofs.Common.{◌≡◌, Bool, true, false, cond, ◌&&◌, List, ◌++◌, Some, None, Result, Err, refl}
use Rattle.std.proofs.lemmas.Bool.{false≢true}
use Rattle.ff_contract.proofs.Sequence.{front_first}
use Rattle.ff_confinement.specs.Turns.{Stepped}
use Rattle.ff_operators.specs.declared.answer.Fail.{Fail}
use Rattle.ff_operators.specs.declared.answer.Fail.TheVariants as fail
use Rattle.ff_value.specs.declared.fault.Fault.TheVariants as fault
use Rattle.ff_value.specs.declared.output.Out.{Out}
use Rattle.ff_value.specs.declared.value.Val.{Val}
use Rattle.ff_machine.specs.Answers.{MakesIfRoom, Does}
use Rattle.ff_machine.specs.Operators.{Outcome, does}
use Rattle.ff_machine.specs.Stores.{Stores, then}

-- two steps, where there is room for both
abbrev both_or_limit : Bool → Bool → Val → Stepped Out Stores → (Stores → Stepped Out Stores) → Outcome
both_or_limit a b v first next = cond (a && b) (does v (then first next)) (Err fault.Limit)

-- there is room for the second, and the first was refused memory
pub first_refused : {E : Type 0} (s s' : Stores) (puts puts' : List Out) (v : Val) (first : Stepped Out Stores) (next : Stores → Stepped Out Stores) (a b : Bool) → b ≡ true → (e : E)
    → MakesIfRoom s s' puts puts' (cond a (Some first) None) (let r : Result Bool E = Err e in r) → Does (both_or_limit a b v first next) (let r : Result Val Fail = Err fail.NoMemory in r) s s' puts puts'
first_refused s s' puts puts' v first next true true room e h = front_first puts puts' first.outputs (next first.after).outputs (first.outputs ++ (next first.after).outputs) refl h
first_refused s s' puts puts' v first next true false room e h = absurd (false≢true room)
first_refused s s' puts puts' v first next false b room e h = h
