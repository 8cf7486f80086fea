-- Steps on the way to rest.
use Rattle.std.proofs.Common.{◌≡◌, ℕ, ◌+◌, ◌<◌, ◌≤◌, true, false, length, refl, sym, ap, subst, ◌∙◌, arith}
use Rattle.ff_machine.specs.Machine.{reactor}
use Rattle.ff_confinement.specs.Worlds.{leader}
use Rattle.ff_confinement.proofs.Worlds.{leaders-turn, turn_ok, drain-turn, left-turn, steps-turn, rests_by_leaders, drain_rest, left_at_rest}
use Rattle.ff_pool.specs.Pooled as pooled
use Rattle.ff_pool.specs.Pooled.{Pooled, size, has_work, drained, turned, left, IsPool}
use Rattle.ff_pool.specs.Draining.{IsOnward, steps_left}
use Rattle.ff_pool.proofs.Gathering.{ends}

pub onward_start : (p : Pooled) (turns : ℕ) → p.spent ≡ false → IsPool p → IsOnward p turns p turns
onward_start p turns unspent valid = record { unspent = unspent; valid = valid; levels = refl; comes_to = refl; turns = refl }

-- what one step counts is among what is left
pub counts_within : (p : Pooled) (l : ℕ) → IsPool p → l < size p → pooled.step_turns p l ≤ left p
counts_within p l valid lt = let e = left-turn (ends p.fuel) p.world l valid lt in omega (arith, e)

pub steps_fall : (p q : Pooled) (l : ℕ) → IsPool p → l < size p → has_work p l ≡ true → q ≡ turned p l → steps_left q < steps_left p
steps_fall p q l valid lt work done =
    let e = steps-turn (ends p.fuel) p.world l valid lt work in
    let f : steps_left q ≡ steps_left (turned p l) = ap steps_left done in
    omega (arith, e, f)

pub onward_turn : (p q r : Pooled) (before now then : ℕ) (l : ℕ) → IsOnward p before q now → l < size q → r ≡ turned q l → then ≡ now + pooled.step_turns q l → IsOnward p before r then
onward_turn p q r before now then l at lt done counted =
    subst (λ s. IsOnward p before s then) (sym done)
    (record {
      unspent = at.unspent;
      valid = turn_ok (ends q.fuel) q.world l at.valid;
      levels = ap length (leaders-turn (reactor q.fuel) q.world l) ∙ at.levels;
      comes_to = ap (λ w. record { fuel = q.fuel; spent = q.spent; world = w }) (drain-turn (ends q.fuel) q.world l at.valid) ∙ at.comes_to;
      turns = let e = left-turn (ends q.fuel) q.world l at.valid lt in let f = at.turns in omega (arith, e, f, counted);
    })

-- turns that were made in a call that found no memory are among those that were left
pub onward_within : (p q : Pooled) (before now then n : ℕ) → IsOnward p before q now → then ≤ now + n → n ≤ left q → then ≤ before + left p
onward_within p q before now then n at made few = let e = at.turns in omega (arith, e, made, few)

pub onward_done : (p q : Pooled) (before now : ℕ) → IsOnward p before q now → ((l : ℕ) → l < size q → leader q.world.leaders l ≡ l → has_work q l ≡ false) → (q ≡ drained p) × (now ≡ before + left p)
onward_done p q before now at rests =
    let rest = rests_by_leaders (ends q.fuel) q.world at.valid rests in
    let none = left_at_rest (ends q.fuel) q.world at.valid rest in
    let e = at.turns in
    (sym (ap (λ w. record { fuel = q.fuel; spent = q.spent; world = w }) (drain_rest (ends q.fuel) q.world at.valid rest)) ∙ at.comes_to, omega (arith, e, none))
