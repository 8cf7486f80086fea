-- How many cells a turn copies at most.
use Rattle.std.specs.Prelude.{◌≡◌, ℕ, zero, suc, false, cond, Option, Some, None, List, [], ◌∷◌, refl}
use Rattle.std.proofs.Common.{ap, ◌∙◌}
use Rattle.ff_machine.specs.Stores.{Stores}
use Rattle.ff_machine.specs.State.{State, Step, Task}
use Rattle.ff_machine.specs.Turns.{next_work}
use Rattle.ff_machine.specs.Windows.{is_live}
use Rattle.ff_step.specs.Copies.{worked_on, working}

-- for one fuel that is spent with these tasks: what the work on the first of them copies, else what
-- taking a script out of its queue copies
abbrev pub spending : Stores → List Task → ℕ
spending s [] = 17
spending s (task ∷ tasks) = worked_on s task

-- for a turn with so much fuel, where this is to be done: a browser that settles or stops copies
-- none
abbrev pub turning_with : ℕ → State → Option (State → Step) → ℕ
turning_with fuel s None = 0
turning_with zero s (Some work) = 0
turning_with (suc fuel) s (Some work) = spending s.stores s.tasks

-- for a turn of a state
abbrev pub turning : State → ℕ
turning s = turning_with s.fuel s (next_work s)

-- a turn that settles, stops, or drops a task whose page isn't live copies none
pub settling_none : (s : State) → next_work s ≡ None → turning s ≡ 0
settling_none s none = ap (turning_with s.fuel s) none

pub stopping_none : (s : State) → s.fuel ≡ 0 → turning s ≡ 0
stopping_none s spent = ap (λ n. turning_with n s (next_work s)) spent ∙ from (next_work s)
  where
    from : (work : Option (State → Step)) → turning_with zero s work ≡ 0
    from None = refl
    from (Some work) = refl

pub dropping_none : (s : State) (task : Task) (tasks : List Task) → s.tasks ≡ task ∷ tasks → is_live s.stores.windows task.page ≡ false → turning s ≡ 0
dropping_none s task tasks first dead = from s.fuel (next_work s)
  where
    spent : spending s.stores s.tasks ≡ 0
    spent = ap (spending s.stores) first ∙ ap (λ b. cond b (working s.stores task.running) 0) dead

    from : (fuel : ℕ) (work : Option (State → Step)) → turning_with fuel s work ≡ 0
    from fuel None = refl
    from zero (Some work) = refl
    from (suc fuel) (Some work) = spent
