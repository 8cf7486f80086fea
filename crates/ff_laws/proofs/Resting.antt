-- Where the browser is quiet, nothing is left to do, to show or to spend.
use Rattle.std.proofs.Common.{◌≡◌, ℕ, zero, suc, ◌+◌, true, false, Option, Some, None, List, [], ◌∷◌, refl, sym, ◌∙◌}
use Rattle.std.proofs.lemmas.Bool.{false≢true}
use Rattle.std.specs.Prelude.{⊤}
use Rattle.ff_confinement.specs.Turns.{KeepsOk, machine_of}
use Rattle.ff_confinement.proofs.Turns.{machine_handle_ok}
use Rattle.ff_tree.specs.declared.tree.Expr.{Expr}
use Rattle.ff_value.specs.declared.ids.PageId.{PageId}
use Rattle.ff_value.specs.declared.input.Input.{Input}
use Rattle.ff_machine.specs.Stores as stores
use Rattle.ff_machine.specs.Stores.{Stores}
use Rattle.ff_machine.specs.State.{State, Step, Task}
use Rattle.ff_machine.specs.Inputs.{begin}
use Rattle.ff_machine.specs.Turns.{script_work, work_of, next_work, spend, turn_of, turn}
use Rattle.ff_machine.specs.Machine.{reactor}
use Rattle.ff_machine.specs.Valid.{IsQuiet}
use Rattle.ff_machine.proofs.Fuel.{ends_quiet}
use Rattle.ff_laws.proofs.LaterTurns.{begin_busy}

-- the state is at rest, if it is quiet
abbrev pub RestsIfQuiet : State → Type 0
RestsIfQuiet s = s.quiet ≡ true → IsQuiet s

-- a state that isn't quiet
pub busy : (s : State) → s.quiet ≡ false → RestsIfQuiet s
busy s e = λ h. absurd (false≢true (sym e ∙ h))

-- what is done next leaves a state busy
abbrev StaysBusy : Option (State → Step) → Type 0
StaysBusy None = ⊤
StaysBusy (Some f) = (t : State) → t.quiet ≡ false → (f t).after.quiet ≡ false

script_busy : (script : Option ((PageId × Expr) × Stores)) → StaysBusy (script_work script)
script_busy None = tt
script_busy (Some taken) = λ t e. e

work_busy : (tasks : List Task) (script : Option ((PageId × Expr) × Stores)) → StaysBusy (work_of tasks script)
work_busy [] script = script_busy script
work_busy (task ∷ tasks) script = λ t e. e

-- there are tasks only where something is done next
pub nothing_left : (tasks : List Task) (script : Option ((PageId × Expr) × Stores)) → work_of tasks script ≡ None → tasks ≡ []
nothing_left [] script e = refl
nothing_left (task ∷ tasks) script e = cc

spend_rests : (s : State) (fuel : ℕ) (f : State → Step) → s.quiet ≡ false → ((t : State) → t.quiet ≡ false → (f t).after.quiet ≡ false) → RestsIfQuiet (spend s fuel f).after
spend_rests s zero f e h = λ _. record { tasks = refl; fuel = refl; touched = refl }
spend_rests s (suc fuel) f e h = busy (f (record s { fuel = fuel })).after (h (record s { fuel = fuel }) e)

turn_rests_of : (s : State) (f : Option (State → Step)) → s.quiet ≡ false → StaysBusy f → (f ≡ None → s.tasks ≡ []) → RestsIfQuiet (turn_of s f).after
turn_rests_of s None e h none = λ _. record { tasks = none refl; fuel = refl; touched = refl }
turn_rests_of s (Some f) e h none = spend_rests s s.fuel f e h

-- a turn leaves a state that is at rest, if it is quiet
pub turn_rests : (s : State) → s.quiet ≡ false → RestsIfQuiet (turn s).after
unfolding turn
turn_rests s e =
    let script = stores.take_ready s.stores in
    turn_rests_of s (next_work s) e (work_busy s.tasks script) (nothing_left s.tasks script)

keeps : (budget : ℕ) → KeepsOk (reactor budget) (λ i. ⊤) RestsIfQuiet (λ o. ⊤)
keeps budget = record {
  start_ok = λ _. record { tasks = refl; fuel = refl; touched = refl };
  begin_ok = λ s i rests good. busy (begin s i).after (begin_busy s i);
  begin_outputs = λ s i rests good. λ k d h. tt;
  turn_ok = λ s rests e. turn_rests s e;
  turn_outputs = λ s rests e. λ k d h. tt;
}

-- after an input nothing is left to do, to show or to spend
pub rests : (budget : ℕ) (s : State) (i : Input) → s.budget ≡ budget → RestsIfQuiet s → IsQuiet ((machine_of (reactor budget) (budget + 1)).handle s i).after
rests budget s i same at_rest = machine_handle_ok (keeps budget) (budget + 1) s i at_rest tt (ends_quiet budget s i same)
