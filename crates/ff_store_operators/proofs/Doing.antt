-- How a call hands its error on, and what operators require.
use Rattle.std.proofs.Common.{◌≡◌, ℕ, ◌≤◌, length, List, Result, Ok, Err, refl, sym, subst}
use Rattle.std.specs.Result.{IsErrAnd}
use Rattle.ff_operators.specs.declared.answer.Fail.{Fail}
use Rattle.ff_operators.specs.declared.answer.Applied.{Applied}
use Rattle.ff_operators.specs.Answers.{Gives}
use Rattle.ff_operators.specs.Limits.{most_mass}
use Rattle.ff_value.specs.declared.fault.Fault.{Fault}
use Rattle.ff_value.specs.declared.output.Out.{Out}
use Rattle.ff_value.specs.declared.value.Code.{Code}
use Rattle.ff_value.specs.declared.value.Val.{Val}
use Rattle.ff_machine.specs.Alone.{IsHandler}
use Rattle.ff_machine.specs.Answers.{Does}
use Rattle.ff_machine.specs.Operators.{Outcome}
use Rattle.ff_machine.specs.References.{Made}
use Rattle.ff_machine.specs.Stores.{Stores}
use Rattle.ff_machine.specs.Valid.{IsCode}
use Rattle.ff_machine.proofs.Changes.{takes_one}
use Rattle.ff_laws.proofs.LaterOperators.{Weighs}

-- a call whose error is handed on
pub exits : (o : Outcome) (r : Result Val Fail) (e : Fail) (s s' : Stores) (puts puts' : List Out) → IsErrAnd r (λ f. f ≡ e) → Does o (let q : Result Val Fail = Err e in q) s s' puts puts' → Does o r s s' puts puts'
exits o (Ok v) e s s' puts puts' is d = absurd is
exits o (Err f) e s s' puts puts' is d = subst (λ (g : Fail). Does o (let q : Result Val Fail = Err g in q) s s' puts puts') (sym is) d

-- a pure operator leaves a mass within its limit
pub light : (mass : ℕ) (r : Result Applied Fault) (a : Applied) → Weighs mass r → mass ≤ most_mass → Gives r (let q : Result Applied Fail = Ok a in q) → a.mass ≤ most_mass
light mass (Ok x) a weighs le is = subst (λ (y : Applied). y.mass ≤ most_mass) (sym is) (weighs.1 le)
light mass (Err f) a weighs le is = absurd is

-- a function of one parameter is a callback
pub is_callback : (m : Made) (code copy : Code) → copy ≡ code → IsCode m code → length code.params ≡ 1 → IsHandler copy
is_callback m code copy same is one = subst IsHandler (sym same) (record { spelled = is.0; takes_one = takes_one code code.params refl one })
