-- A browser at rest is valid.
use Rattle.std.proofs.Common.{◌≡◌, ℕ, refl, sym, subst, arith}
use Rattle.std.specs.FinSet as finset
use Rattle.ff_machine.specs.State.{State}
use Rattle.ff_machine.specs.Stores.{Stores}
use Rattle.ff_machine.specs.Valid.{IsState, IsStores}
use Rattle.ff_restorable.specs.Resting.{resting}

pub resting_valid : (budget : ℕ) (stores : Stores) (s : State) → IsStores stores → stores.touched ≡ finset.empty → s ≡ resting budget stores → IsState budget s
resting_valid budget stores s valid untouched e = subst (λ (t : State). IsState budget t) (sym e) (record {
  stores = valid;
  tasks = λ k d less. absurd (omega (arith, less));
  budget_is = refl;
  within = omega arith;
  quiet = λ _. record { tasks = refl; fuel = refl; touched = untouched };
})
