-- Whether a fuel is from 1 to MOST_FUEL, and a draft with such a fuel.
use Rattle.std.proofs.Common.{◌≡◌, ◌⊎◌, inl, inr, ℕ, zero, suc, ◌<◌, ◌≤◌, Bool, true, false, ◌↔◌, IsTrue, refl, sym, ◌∙◌, arith}
use Rattle.std.proofs.lemmas.Bool.{true≢false, cases_lt}
use Rattle.ff_policy.specs.declared.limits.TheConstants.{MOST_FUEL}
use Rattle.ff_policy.specs.Assignment.{Assignment, AreSpelled}
use Rattle.ff_policy.specs.Reading.{IsFueled}

pub fuel_out : (fuel : ℕ) (has : Bool) → (IsTrue has ↔ ((1 ≤ fuel) × (fuel ≤ MOST_FUEL))) → has ≡ false → (fuel ≡ 0) ⊎ (MOST_FUEL < fuel)
fuel_out zero has tells fails = inl refl
fuel_out (suc n) has tells fails =
    elim (cases_lt MOST_FUEL (suc n)) as (λ _. (suc n ≡ 0) ⊎ (MOST_FUEL < suc n)) [
      | inl much ↦ inr much
      | inr little ↦ absurd (true≢false (sym (tells.1 (omega arith, little)) ∙ fails))
    ]

pub fueled_from : (draft : Assignment) (has : Bool) → AreSpelled draft.domains → (IsTrue has ↔ ((1 ≤ draft.fuel) × (draft.fuel ≤ MOST_FUEL))) → has ≡ true → IsFueled draft
fueled_from draft has spelled tells holds = record { spelled = spelled; some_fuel = (tells.0 holds).0; little_fuel = (tells.0 holds).1 }
