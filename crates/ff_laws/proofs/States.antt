-- Inputs, turns and whole runs keep states of the browser valid.
use Rattle.std.proofs.Common.{◌≡◌, ℕ, zero, suc, ◌+◌, ◌<◌, ◌≤◌, ◌⊎◌, inl, inr, Bool, true, false, Option, Some, None, List, [], ◌∷◌, All, arith, refl, ◌∙◌}
use Rattle.std.specs.Prelude.{⊤}
use Rattle.std.proofs.lemmas.List.Elements.{All-head, All-tail}
use Rattle.ff_confinement.specs.Runs.{after_from, after}
use Rattle.ff_confinement.specs.Turns.{KeepsOk, machine_of}
use Rattle.ff_confinement.proofs.Turns.{machine_handle_ok}
use Rattle.ff_tree.specs.declared.tree.Expr.{Expr}
use Rattle.ff_value.specs.Spelled.{IsWellSpelledInput}
use Rattle.ff_value.specs.declared.ids.PageId.{PageId}
use Rattle.ff_value.specs.declared.input.Input.{Input}
use Rattle.ff_machine.specs.Stores as stores
use Rattle.ff_machine.specs.Stores.{Stores}
use Rattle.ff_machine.specs.State.{State, Step, Task, empty}
use Rattle.ff_machine.specs.Inputs.{begin}
use Rattle.ff_machine.specs.Turns.{script_work, work_of, next_work, spend, turn_of, turn}
use Rattle.ff_machine.specs.Machine.{reactor, browser}
use Rattle.ff_machine.specs.Valid.{IsQuiet, IsState}
use Rattle.ff_machine.proofs.Empty.{empty_state}
use Rattle.ff_machine.proofs.Fuel.{fuelled, ends_quiet}
use Rattle.ff_laws.proofs.Inputs.{begin_keeps}
use Rattle.ff_laws.proofs.LaterTurns.{begin_budget, begin_busy}
use Rattle.ff_laws.proofs.Resting.{RestsIfQuiet, busy, nothing_left, turn_rests}
use Rattle.ff_laws.proofs.TasksBeginning.{begin_tasks}
use Rattle.ff_laws.proofs.TasksWorking.{turn_tasks}
use Rattle.ff_laws.proofs.Working.{turn_keeps}

-- Inputs.

-- taking a well spelled input keeps a state valid
pub begin_state : (budget : ℕ) (s : State) (i : Input) → IsState budget s → IsWellSpelledInput i → IsState budget (begin s i).after
begin_state budget s i is good = record {
  stores = (begin_keeps s i is.stores good).stores;
  tasks = begin_tasks s i is.stores good is.tasks;
  budget_is = begin_budget s i ∙ is.budget_is;
  within = (fuelled budget).brings s i is.budget_is tt;
  quiet = busy (begin s i).after (begin_busy s i);
}

-- Turns.

-- what is done next leaves what an input brings
abbrev KeepsBudget : Option (State → Step) → Type 0
KeepsBudget None = ⊤
KeepsBudget (Some f) = (t : State) → (f t).after.budget ≡ t.budget

-- a script that was taken out leaves it
script_budget : (script : Option ((PageId × Expr) × Stores)) → KeepsBudget (script_work script)
script_budget None = tt
script_budget (Some taken) = λ t. refl

-- so does whatever is done next
work_budget : (tasks : List Task) (script : Option ((PageId × Expr) × Stores)) → KeepsBudget (work_of tasks script)
work_budget [] script = script_budget script
work_budget (task ∷ tasks) script = λ t. refl

-- and for one fuel
spend_budget : (s : State) (fuel : ℕ) (f : State → Step) → ((t : State) → (f t).after.budget ≡ t.budget) → (spend s fuel f).after.budget ≡ s.budget
spend_budget s zero f h = refl
spend_budget s (suc fuel) f h = h (record s { fuel = fuel })

-- and where there may be nothing to do
turn_of_budget : (s : State) (f : Option (State → Step)) → KeepsBudget f → (turn_of s f).after.budget ≡ s.budget
turn_of_budget s None h = refl
turn_of_budget s (Some f) h = spend_budget s s.fuel f h

-- a turn leaves what an input brings
turn_budget : (s : State) → (turn s).after.budget ≡ s.budget
unfolding turn
turn_budget s = turn_of_budget s (next_work s) (work_budget s.tasks (stores.take_ready s.stores))

-- without fuel a state comes to rest
spent : (s : State) (fuel : ℕ) (f : State → Step) → fuel ≡ 0 → IsQuiet (spend s fuel f).after
spent s zero f e = record { tasks = refl; fuel = refl; touched = refl }
spent s (suc fuel) f e = absurd (omega (arith, e))

-- the same where there may be nothing to do
turn_of_quiet : (s : State) (f : Option (State → Step)) → s.fuel ≡ 0 → (f ≡ None → s.tasks ≡ []) → IsQuiet (turn_of s f).after
turn_of_quiet s None e none = record { tasks = none refl; fuel = refl; touched = refl }
turn_of_quiet s (Some f) e none = spent s s.fuel f e

-- a turn without fuel leaves a state at rest
turn_of_spent : (s : State) → s.fuel ≡ 0 → IsQuiet (turn s).after
unfolding turn
turn_of_spent s e = turn_of_quiet s (next_work s) e (nothing_left s.tasks (stores.take_ready s.stores))

-- a turn leaves a state at rest, if it is quiet, whether it was quiet before or not
turn_quiet : (s : State) → RestsIfQuiet s → RestsIfQuiet (turn s).after
turn_quiet s rests = by s.quiet refl where
  by : (b : Bool) → s.quiet ≡ b → RestsIfQuiet (turn s).after
  by true e = λ _. turn_of_spent s (rests e).fuel
  by false e = turn_rests s e

-- a state with less fuel than before, or at rest, has no more than an input brings
no_more : (budget : ℕ) (s t : State) → s.fuel ≤ budget → RestsIfQuiet t → (t.fuel < s.fuel) ⊎ (t.quiet ≡ true) → t.fuel ≤ budget
no_more budget s t within rests (inl less) = omega (arith, within, less)
no_more budget s t within rests (inr quiet) = let none = (rests quiet).fuel in omega (arith, none)

-- after a turn there is no more fuel than an input brings
turn_within : (budget : ℕ) (s : State) → IsState budget s → (turn s).after.fuel ≤ budget
turn_within budget s is = by s.quiet refl where
  by : (b : Bool) → s.quiet ≡ b → (turn s).after.fuel ≤ budget
  by true e = let none = (turn_of_spent s (is.quiet e).fuel).fuel in omega (arith, none)
  by false e = no_more budget s (turn s).after is.within (turn_rests s e) ((fuelled budget).spends s is.budget_is e)

-- a turn keeps a state valid
pub turn_state : (budget : ℕ) (s : State) → IsState budget s → IsState budget (turn s).after
turn_state budget s is = record {
  stores = (turn_keeps s is.stores is.tasks).stores;
  tasks = turn_tasks s is.stores is.tasks;
  budget_is = turn_budget s ∙ is.budget_is;
  within = turn_within budget s is;
  quiet = turn_quiet s is.quiet;
}

-- Whole inputs and runs.

-- the browser keeps to valid states
pub keeps_states : (budget : ℕ) → KeepsOk (reactor budget) IsWellSpelledInput (IsState budget) (λ o. ⊤)
keeps_states budget = record {
  start_ok = empty_state budget;
  begin_ok = λ s i is good. begin_state budget s i is good;
  begin_outputs = λ s i is good. λ k d h. tt;
  turn_ok = λ s is e. turn_state budget s is;
  turn_outputs = λ s is e. λ k d h. tt;
}

-- and so does the machine that it is, however many turns it may make
pub handled_state : (budget most : ℕ) (s : State) (i : Input) → IsState budget s → IsWellSpelledInput i → IsState budget ((machine_of (reactor budget) most).handle s i).after
handled_state budget most s i is good = machine_handle_ok (keeps_states budget) most s i is good

-- the same of a run from a valid state that is quiet
run_from : (budget : ℕ) (s : State) (is : List Input) → IsState budget s → s.quiet ≡ true → All IsWellSpelledInput is → IsState budget (after_from (browser budget) s is) × IsQuiet (after_from (browser budget) s is)
run_from budget s [] valid rest good = (valid, valid.quiet rest)
run_from budget s (i ∷ is) valid rest good =
    run_from budget ((browser budget).handle s i).after is (handled_state budget (budget + 1) s i valid (All-head IsWellSpelledInput i is good)) (ends_quiet budget s i valid.budget_is)
    (All-tail IsWellSpelledInput i is good)

-- after a run over well spelled inputs the state is valid, and nothing is left to do
pub run_state : (budget : ℕ) (is : List Input) → All IsWellSpelledInput is → IsState budget (after (browser budget) is) × IsQuiet (after (browser budget) is)
unfolding after
run_state budget is good = run_from budget (empty budget) is (empty_state budget) refl good
