-- From one step of reading a policy to the next.
use Rattle.std.proofs.Common.{◌≡◌, ◌≢◌, ◌≤◌, ℕ, List, length, Result, Ok, Err, IfOk, IfErr}
use Rattle.serde_json.specs.Data.{Data}
use Rattle.ff_lattice.specs.Order.{Order}
use Rattle.ff_lattice.specs.Levels.{IsLatticeOf}
use Rattle.ff_policy.specs.declared.limits.TheConstants.{MOST_POLICY_BYTES}
use Rattle.ff_policy.specs.declared.fault.PolicyFault.{PolicyFault}
use Rattle.ff_policy.specs.declared.fault.PolicyFault.TheVariants.{NoMemory}
use Rattle.ff_policy.specs.Assignment.{Assignment}
use Rattle.ff_policy.specs.Members.{Plan, plan_in}
use Rattle.ff_policy.specs.Naming.{assigned}
use Rattle.ff_policy.specs.Reading as reading
use Rattle.ff_policy.specs.Reading.{IsValueOf, Checks, Names, Orders, Says, Reads}

-- an answer is a policy or a fault with this property, or want of memory
abbrev pub OkWith : (Result Assignment PolicyFault → Type 0) → Result Assignment PolicyFault → Type 0
OkWith P answer = IfOk answer (λ policy. P (Ok policy))

abbrev pub ErrWith : (Result Assignment PolicyFault → Type 0) → Result Assignment PolicyFault → Type 0
ErrWith P answer = IfErr answer (λ fault. fault ≢ NoMemory → P (Err fault))

ok_more : (P Q : Result Assignment PolicyFault → Type 0) (answer : Result Assignment PolicyFault) → ((r : Result Assignment PolicyFault) → P r → Q r) → OkWith P answer → OkWith Q answer
ok_more P Q (Ok policy) more is = more (Ok policy) is
ok_more P Q (Err fault) more is = tt

err_more : (P Q : Result Assignment PolicyFault → Type 0) (answer : Result Assignment PolicyFault) → ((r : Result Assignment PolicyFault) → P r → Q r) → ErrWith P answer → ErrWith Q answer
err_more P Q (Ok policy) more is = tt
err_more P Q (Err fault) more is = λ other. more (Err fault) (is other)

module _ (bytes : List ℕ) (value : Data) (small : length bytes ≤ MOST_POLICY_BYTES) (is : IsValueOf bytes value) (answer : Result Assignment PolicyFault) where
  pub reads_ok : OkWith (Says value) answer → OkWith (Reads bytes) answer
  reads_ok = ok_more (Says value) (Reads bytes) answer (λ r says. reading.valued value r small is says)

  pub reads_err : ErrWith (Says value) answer → ErrWith (Reads bytes) answer
  reads_err = err_more (Says value) (Reads bytes) answer (λ r says. reading.valued value r small is says)

module _ (value : Data) (plan : Plan) (is : plan_in value ≡ Ok plan) (answer : Result Assignment PolicyFault) where
  pub says_ok : OkWith (Orders plan) answer → OkWith (Says value) answer
  says_ok = ok_more (Orders plan) (Says value) answer (λ r orders. reading.planned plan r is orders)

  pub says_err : ErrWith (Orders plan) answer → ErrWith (Says value) answer
  says_err = err_more (Orders plan) (Says value) answer (λ r orders. reading.planned plan r is orders)

module _ (plan : Plan) (order : Order) (is : IsLatticeOf plan.levels plan.below order) (answer : Result Assignment PolicyFault) where
  pub orders_ok : OkWith (Names order plan) answer → OkWith (Orders plan) answer
  orders_ok = ok_more (Names order plan) (Orders plan) answer (λ r names. reading.lattice order r is names)

  pub orders_err : ErrWith (Names order plan) answer → ErrWith (Orders plan) answer
  orders_err = err_more (Names order plan) (Orders plan) answer (λ r names. reading.lattice order r is names)

module _ (order : Order) (plan : Plan) (policy : Assignment) (is : assigned order plan ≡ Ok policy) (answer : Result Assignment PolicyFault) where
  pub names_ok : OkWith (Checks policy) answer → OkWith (Names order plan) answer
  names_ok = ok_more (Checks policy) (Names order plan) answer (λ r checks. reading.named policy r is checks)

  pub names_err : ErrWith (Checks policy) answer → ErrWith (Names order plan) answer
  names_err = err_more (Checks policy) (Names order plan) answer (λ r checks. reading.named policy r is checks)
