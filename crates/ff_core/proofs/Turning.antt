-- What a turn makes, by what is to be done.
use Rattle.std.proofs.Common.{◌≡◌, ℕ, suc, ◌-◌, ◌<◌, Bool, true, false, not, Option, Some, None, is_some, Result, Ok, Err, List, [], ◌∷◌, ◌++◌, map, length, refl, sym, ap, subst, ◌∙◌, append-nil, arith}
use Rattle.ff_contract.specs.Appending.{AppendsFront}
use Rattle.ff_tree.specs.declared.tree.Expr.{Expr}
use Rattle.ff_value.specs.declared.ids.PageId.{PageId}
use Rattle.ff_value.specs.declared.output.Out.{Out}
use Rattle.ff_term.specs.Whole.{whole}
use Rattle.ff_machine.specs.Answers.{Makes}
use Rattle.ff_value.specs.declared.ids.ActId.{ActId}
use Rattle.ff_machine.specs.Windows as windows
use Rattle.ff_machine.specs.Windows.{page_at, window_at, first_ready, ready}
use Rattle.ff_machine.specs.Stores.{Stores, popped_script, popped_of, take_ready}
use Rattle.ff_machine.specs.State.{State, Step, Task, given}
use Rattle.ff_machine.specs.Turns.{settle, stop, work, with_worked, first_work, begin_script, script_work, work_of, next_work, spend, turn_of, turn}
use Rattle.ff_laws.specs.Later.{AreLater}
use Rattle.ff_laws.proofs.LaterSteps as later
use Rattle.ff_laws.proofs.LaterSteps.{TakenLater}
use Rattle.ff_laws.proofs.Working.{queue_lives}
use Rattle.ff_stores.proofs.Ready.{found_passes}

-- What is to be done.

-- nothing is, only where there is no task and no script
no_work_of : (tasks : List Task) (script : Option ((PageId × Expr) × Stores)) → work_of tasks script ≡ None → (tasks ≡ []) × (script ≡ None)
no_work_of [] None e = (refl, refl)
no_work_of [] (Some taken) e = cc
no_work_of (task ∷ tasks) script e = cc

-- where a queue begins with a script, one can be taken out
some_taken : (s : Stores) (page : PageId) (body : Option Expr) → is_some body ≡ true → popped_script s page body ≡ None → ⊥
some_taken s page None has e = cc
some_taken s page (Some body) has e = cc

none_ready : (s : Stores) (page : Option PageId) → ready s.windows ≡ page → popped_of s page ≡ None → page ≡ None
none_ready s None is e = refl
none_ready s (Some page) is e =
    let has = found_passes (λ (p : PageId). is_some (first_ready (page_at s.windows p).queue)) (map (λ n. (window_at s.windows n).page) s.windows.opened) page is in
    absurd (some_taken s page (first_ready (page_at s.windows page).queue) has e)

-- no script may run, only where none is taken out
pub nothing_ready : (s : Stores) → take_ready s ≡ None → ready s.windows ≡ None
nothing_ready s e = none_ready s (ready s.windows) refl e

-- nothing is to be done, exactly where there is no task and no script may run
pub idle_is : (s : State) → s.tasks ≡ [] → ready s.stores.windows ≡ None → next_work s ≡ None
idle_is s none unready = ap (λ (tasks : List Task). work_of tasks (take_ready s.stores)) none ∙ ap (λ (page : Option PageId). script_work (popped_of s.stores page)) unready

pub idle_only : (s : State) → next_work s ≡ None → (s.tasks ≡ []) × (ready s.stores.windows ≡ None)
idle_only s e = let h = no_work_of s.tasks (take_ready s.stores) e in (h.0, nothing_ready s.stores h.1)

-- The turn.

-- with nothing to be done the browser settles
pub turn_settles : (s : State) → next_work s ≡ None → turn s ≡ settle s
unfolding turn
turn_settles s e = ap (turn_of s) e

stopped : (s : State) (f : Option (State → Step)) → (f ≡ None → ⊥) → s.fuel ≡ 0 → turn_of s f ≡ stop s
stopped s None some e = absurd (some refl)
stopped s (Some f) some e = ap (λ n. spend s n f) e

-- without fuel for what is to be done it stops
pub turn_stops : (s : State) → (next_work s ≡ None → ⊥) → s.fuel ≡ 0 → turn s ≡ stop s
unfolding turn
turn_stops s some e = stopped s (next_work s) some e

-- with fuel the first task is worked on
turn_works : (s : State) (task : Task) (rest : List Task) (n : ℕ) → s.tasks ≡ task ∷ rest → s.fuel ≡ suc n
    → turn s ≡ with_worked (record s { fuel = n; tasks = rest }) rest (work s.stores task)
unfolding turn
turn_works s task rest n has e =
    ap (λ (tasks : List Task). turn_of s (work_of tasks (take_ready s.stores))) has ∙ ap (λ m. spend s m (λ t. first_work t (task ∷ rest))) e

begun : (s : State) (n : ℕ) (script : Option ((PageId × Expr) × Stores)) → (script ≡ None → ⊥) → s.fuel ≡ suc n
    → turn_of s (script_work script) ≡ given (record s { fuel = n; tasks = [] }) script (begin_script (record s { fuel = n; tasks = [] }))
begun s n None some e = absurd (some refl)
begun s n (Some taken) some e = ap (λ m. spend s m (λ t. begin_script t taken)) e

-- with no task a script is taken
turn_begins : (s : State) (n : ℕ) → s.tasks ≡ [] → (next_work s ≡ None → ⊥) → s.fuel ≡ suc n
    → turn s ≡ given (record s { fuel = n; tasks = [] }) (take_ready s.stores) (begin_script (record s { fuel = n; tasks = [] }))
unfolding turn
turn_begins s n none some e =
    let to_do = ap (λ (tasks : List Task). work_of tasks (take_ready s.stores)) none in
    ap (turn_of s) to_do ∙ begun s n (take_ready s.stores) (λ no_script. some (to_do ∙ ap script_work no_script)) e

-- some tasks
worked_spent : (s u : State) (tasks : List Task) → u ≡ record s { fuel = s.fuel - 1 } → u.tasks ≡ tasks → 0 < length tasks → 0 < s.fuel → turn s ≡ first_work u tasks
worked_spent s u [] spent has are some = absurd (omega (arith, are))
worked_spent s u (task ∷ rest) spent has are some =
    turn_works s task rest (s.fuel - 1) (ap (λ (v : State). v.tasks) (sym spent) ∙ has) (omega (arith, some))
    ∙ ap (λ (v : State). with_worked (record v { tasks = rest }) rest (work v.stores task)) (sym spent)

-- the same of a state whose fuel was spent
pub spent_works : (s u : State) → u ≡ record s { fuel = s.fuel - 1 } → 0 < length u.tasks → 0 < s.fuel → turn s ≡ first_work u u.tasks
spent_works s u spent are some = worked_spent s u u.tasks spent refl are some

pub spent_begins : (s u : State) (rest : List Task) → u ≡ record s { fuel = s.fuel - 1 } → u.tasks ≡ [] → rest ≡ [] → (next_work s ≡ None → ⊥) → 0 < s.fuel
    → turn s ≡ given (record u { tasks = rest }) (take_ready u.stores) (begin_script (record u { tasks = rest }))
spent_begins s u rest spent none left to_do some =
    turn_begins s (s.fuel - 1) (ap (λ (v : State). v.tasks) (sym spent) ∙ none) to_do (omega (arith, some))
    ∙ ap (λ (v : State). given (record v { tasks = [] }) (take_ready v.stores) (begin_script (record v { tasks = [] }))) (sym spent)
    ∙ ap (λ (ts : List Task). given (record u { tasks = ts }) (take_ready u.stores) (begin_script (record u { tasks = ts }))) (sym left)

-- A script that was taken out.

lives_of : (s : Stores) (page : PageId) (body : Option Expr) (taken : (PageId × Expr) × Stores) → first_ready (page_at s.windows page).queue ≡ body → popped_script s page body ≡ Some taken
    → taken.0.0.0 < length s.windows.pages
lives_of s page None taken is e = cc
lives_of s page (Some body) taken is e =
    let same : taken.0.0 ≡ page = ap (λ (t : (PageId × Expr) × Stores). t.0.0) (let of : taken ≡ ((page, body), record s { windows = windows.popped s.windows page }) = cc in of) in
    subst (λ (p : PageId). p.0 < length s.windows.pages) (sym same) (queue_lives s page body is)

taken_of : (s : Stores) (page : Option PageId) (taken : (PageId × Expr) × Stores) → popped_of s page ≡ Some taken → taken.0.0.0 < length s.windows.pages
taken_of s None taken e = cc
taken_of s (Some page) taken e = lives_of s page (first_ready (page_at s.windows page).queue) taken refl e

taken_later : (s : Stores) (taken : (PageId × Expr) × Stores) → take_ready s ≡ Some taken → AreLater s taken.1
taken_later s taken e = subst (TakenLater s) e (later.take_ready s)

-- and has the activation that it had
taken_act : (s : Stores) (taken : (PageId × Expr) × Stores) → take_ready s ≡ Some taken → (page_at taken.1.windows taken.0.0).act ≡ (page_at s.windows taken.0.0).act
taken_act s taken e = ((taken_later s taken e).windows.same taken.0.0 (taken_of s (ready s.windows) taken e)).act

-- it is the one task
pub taken_begins : (s : State) (t : Stores) (page : PageId) (body : Expr) (task : Task) → take_ready s.stores ≡ Some ((page, body), t)
    → task ≡ record { page = page; running = record { base = (page_at t.windows page).act; expr = whole body } }
    → given s (take_ready s.stores) (begin_script s) ≡ record { outputs = []; after = record s { stores = t; tasks = task ∷ [] } }
taken_begins s t page body task taken is =
    ap (λ (o : Option ((PageId × Expr) × Stores)). given s o (begin_script s)) taken
    ∙ ap (λ (a : ActId). let step : Step = record { outputs = []; after = record s { stores = t; tasks = record { page = page; running = record { base = a; expr = whole body } } ∷ [] } } in step) (sym (taken_act s.stores ((page, body), t) taken))
    ∙ ap (λ (task : Task). let step : Step = record { outputs = []; after = record s { stores = t; tasks = task ∷ [] } } in step) (sym is)

-- a state in which it was taken out, as a call left it
pub begins_at : (s now : State) (t : Stores) (page : PageId) (body : Expr) (task : Task) (tasks : List Task) (puts : List Out) → s ≡ now → take_ready s.stores ≡ Some ((page, body), t)
    → task ≡ record { page = page; running = record { base = (page_at t.windows page).act; expr = whole body } } → tasks ≡ task ∷ []
    → (record s { stores = t; tasks = tasks } ≡ (given now (take_ready now.stores) (begin_script now)).after) × (puts ≡ puts ++ (given now (take_ready now.stores) (begin_script now)).outputs)
begins_at s now t page body task tasks puts same taken is one =
    let e : record { outputs = []; after = record s { stores = t; tasks = task ∷ [] } } ≡ given now (take_ready now.stores) (begin_script now) =
    sym (taken_begins s t page body task taken is) ∙ ap (λ (u : State). given u (take_ready u.stores) (begin_script u)) same in (
      ap (λ (ts : List Task). let u : State = record s { stores = t; tasks = ts } in u) one ∙ ap (λ (step : Step). step.after) e,
      sym (append-nil puts) ∙ ap (λ (step : Step). puts ++ step.outputs) e,
    )

-- Steps.

-- the same step of another name
pub same_step : {X E : Type 0} (old old' new : State) (puts puts' : List Out) (step step' : Step) (result : Result X E) → step ≡ step' → Makes old new puts puts' step result → Makes old' new puts puts' step' result
same_step old old' new puts puts' step step' (Ok x) e h = (h.0 ∙ ap (λ (s : Step). s.after) e, h.1 ∙ ap (λ (s : Step). puts ++ s.outputs) e)
same_step old old' new puts puts' step step' (Err x) e h = subst (λ (s : Step). AppendsFront puts puts' s.outputs) e h

-- Answers of std.

-- a list of no length
pub no_items : {X : Type 0} (xs : List X) → length xs ≡ 0 → xs ≡ []
no_items [] e = refl
no_items (x ∷ xs) e = absurd (omega (arith, e))

-- an option of which it is told whether it is none
pub none_if : {X : Type 0} (o : Option X) (b : Bool) → is_some o ≡ not b → b ≡ true → o ≡ None
none_if None b e h = refl
none_if (Some x) b e h = let t : true ≡ not true = e ∙ ap not h in cc

pub if_none : {X : Type 0} (o : Option X) (b : Bool) → is_some o ≡ not b → o ≡ None → b ≡ true
if_none o true e none = refl
if_none o false e none = let t : is_some o ≡ false = ap is_some none in let u : true ≡ false = sym e ∙ t in cc
