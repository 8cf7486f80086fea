-- A turn keeps stores valid, where its tasks are valid.
use Rattle.std.proofs.Common.{◌≡◌, ℕ, zero, suc, ◌<◌, ⊎_elim, Bool, true, false, cond, Option, Some, None, Result, Ok, Err, List, [], ◌∷◌, length, All, refl, sym, ap, subst, ◌∙◌}
use Rattle.std.specs.Prelude.{⊤}
use Rattle.std.proofs.lemmas.Bool.{cases_lt}
use Rattle.std.proofs.lemmas.List.{get_or_past}
use Rattle.std.proofs.lemmas.List.Elements.{All-head}
use Rattle.ff_tree.specs.declared.tree.Expr.{Expr}
use Rattle.ff_value.specs.declared.fault.Fault.{Fault}
use Rattle.ff_value.specs.declared.ids.ActId.{ActId}
use Rattle.ff_value.specs.declared.ids.PageId.{PageId}
use Rattle.ff_value.specs.declared.value.Val.{Val}
use Rattle.ff_term.specs.Running.{Running, Done, is_value, value_of}
use Rattle.ff_machine.specs.Windows.{Page, no_page, page_at, first_ready, ready, is_live}
use Rattle.ff_machine.specs.Stores as stores
use Rattle.ff_machine.specs.Stores.{Stores}
use Rattle.ff_machine.specs.Reduction.{Moved, Red, reduction, as_reduction}
use Rattle.ff_machine.specs.State.{State, Step, Task}
use Rattle.ff_machine.specs.Turns.{Worked, work, go_on, gone, script_work, work_of, next_work, spend, turn_of, turn}
use Rattle.ff_machine.specs.Alone.{IsPage}
use Rattle.ff_machine.specs.Valid.{IsStores, IsTask}
use Rattle.ff_laws.specs.Keeps.{Keeps}
use Rattle.ff_laws.specs.Reduced.{MovesUnlessFault}
use Rattle.ff_laws.proofs.Reducing.{red_keeps}
use Rattle.ff_laws.proofs.Simple.{settled_valid}
use Rattle.ff_laws.proofs.Slots.{popped_valid}
use Rattle.ff_laws.proofs.Starting.{kept}

-- an expression without a value is not one
pub unfinished : (e : Running) → value_of e ≡ None → is_value e ≡ false
unfinished (Done v) e = cc
unfinished other e = refl

worked_on : (s : Stores) (task : Task) (o : Option Val) (red : Result Moved Fault) → IsStores s → (o ≡ None → MovesUnlessFault s red)
    → Keeps s (go_on s task (as_reduction s task.running o red) (as_reduction s task.running o red).answer).after
worked_on s task (Some v) red valid h = kept s valid
worked_on s task None (Ok moved) valid h = (h refl).keeps
worked_on s task None (Err f) valid h = kept s valid

one_worked : (s : Stores) (b : Bool) (x y : Worked) → Keeps s x.after → Keeps s y.after → Keeps s (cond b x y).after
one_worked s true x y g h = g
one_worked s false x y g h = h

-- work on a valid task keeps stores valid
pub work_keeps : (s : Stores) (task : Task) → IsStores s → IsTask s task → Keeps s (work s task).after
unfolding reduction
work_keeps s task valid is =
    let page : IsPage (length s.windows.acts) (page_at s.windows task.page) = valid.windows.pages.each task.page.0 no_page is.page in
    let lives : task.running.base.0 < length s.windows.acts = subst (λ (a : ActId). a.0 < length s.windows.acts) (sym is.act) page.act in
    one_worked s (is_live s.windows task.page) (go_on s task (reduction s task.page task.running) (reduction s task.page task.running).answer) (gone s [])
    (worked_on s task (value_of task.running.expr) (Red s task.page task.running) valid
    (λ e. red_keeps s task.page task.running valid is.page lives is.running (unfinished task.running.expr e)))
    (kept s valid)

-- Scripts that are taken out.

abbrev TakenKeeps : Stores → Option ((PageId × Expr) × Stores) → Type 0
TakenKeeps s None = ⊤
TakenKeeps s (Some taken) = Keeps s taken.1

none_some : {body : Expr} → None ≡ Some body → ⊥
none_some e = cc

-- a page whose queue begins with a script was made
pub queue_lives : (s : Stores) (page : PageId) (body : Expr) → first_ready (page_at s.windows page).queue ≡ Some body → page.0 < length s.windows.pages
queue_lives s page body e =
    ⊎_elim (λ l. l) (λ l. absurd (none_some (sym (ap (λ (x : Page). first_ready x.queue) (get_or_past s.windows.pages page.0 no_page l)) ∙ e))) (cases_lt page.0 (length s.windows.pages))

popped_keeps : (s : Stores) (page : PageId) (o : Option Expr) → first_ready (page_at s.windows page).queue ≡ o → IsStores s → TakenKeeps s (stores.popped_script s page o)
popped_keeps s page None e valid = tt
popped_keeps s page (Some body) e valid = popped_valid s page valid (queue_lives s page body e)

popped_of_keeps : (s : Stores) (page : Option PageId) → IsStores s → TakenKeeps s (stores.popped_of s page)
popped_of_keeps s None valid = tt
popped_of_keeps s (Some page) valid = popped_keeps s page (first_ready (page_at s.windows page).queue) refl valid

-- Turns.

abbrev WorkKeeps : Stores → Option (State → Step) → Type 0
WorkKeeps s None = ⊤
WorkKeeps s (Some f) = (t : State) → t.stores ≡ s → Keeps s (f t).after.stores

script_keeps : (s : Stores) (script : Option ((PageId × Expr) × Stores)) → TakenKeeps s script → WorkKeeps s (script_work script)
script_keeps s None h = tt
script_keeps s (Some taken) h = λ t e. h

work_of_keeps : (s : Stores) (tasks : List Task) (script : Option ((PageId × Expr) × Stores)) → IsStores s → All (IsTask s) tasks → TakenKeeps s script → WorkKeeps s (work_of tasks script)
work_of_keeps s [] script valid are h = script_keeps s script h
work_of_keeps s (task ∷ tasks) script valid are h = λ t e. subst (λ (x : Stores). Keeps s (work x task).after) (sym e) (work_keeps s task valid (All-head (IsTask s) task tasks are))

spend_keeps : (s : State) (fuel : ℕ) (f : State → Step) → IsStores s.stores → ((t : State) → t.stores ≡ s.stores → Keeps s.stores (f t).after.stores) → Keeps s.stores (spend s fuel f).after.stores
spend_keeps s zero f valid h = settled_valid s.stores valid
spend_keeps s (suc fuel) f valid h = h (record s { fuel = fuel }) refl

turn_of_keeps : (s : State) (f : Option (State → Step)) → IsStores s.stores → WorkKeeps s.stores f → Keeps s.stores (turn_of s f).after.stores
turn_of_keeps s None valid h = settled_valid s.stores valid
turn_of_keeps s (Some f) valid h = spend_keeps s s.fuel f valid h

-- a turn keeps stores valid, where its tasks are valid
pub turn_keeps : (s : State) → IsStores s.stores → All (IsTask s.stores) s.tasks → Keeps s.stores (turn s).after.stores
unfolding turn
turn_keeps s valid are = turn_of_keeps s (next_work s) valid (work_of_keeps s.stores s.tasks (stores.take_ready s.stores) valid are (popped_of_keeps s.stores (ready s.stores.windows) valid))
