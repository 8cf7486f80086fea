-- The tasks that a turn leaves are valid.
use Rattle.std.proofs.Common.{◌≡◌, ℕ, zero, suc, ◌<◌, Bool, true, false, cond, Option, Some, None, Result, Ok, Err, List, [], ◌∷◌, length, All, arith, refl, sym, subst, ◌∙◌}
use Rattle.std.specs.Prelude.{⊤}
use Rattle.std.proofs.lemmas.List.Elements.{All-nil, All-cons, All-head, All-tail, All-weaker}
use Rattle.ff_tree.specs.Spelled.{IsWellSpelledExpr}
use Rattle.ff_tree.specs.declared.tree.Expr.{Expr}
use Rattle.ff_value.specs.declared.fault.Fault.{Fault}
use Rattle.ff_value.specs.declared.ids.ActId.{ActId}
use Rattle.ff_value.specs.declared.ids.PageId.{PageId}
use Rattle.ff_value.specs.declared.value.Val.{Val}
use Rattle.ff_term.specs.Running.{Running, value_of}
use Rattle.ff_term.specs.Whole.{whole}
use Rattle.ff_term.proofs.Calls.{at_most_all, whole-around}
use Rattle.ff_term.proofs.Sources.{source}
use Rattle.ff_machine.specs.declared.records.Entry.{Entry}
use Rattle.ff_machine.specs.declared.records.Entry.TheVariants.{Ready, Wait}
use Rattle.ff_machine.specs.Windows.{no_page, page_at, first_ready, ready, is_live}
use Rattle.ff_machine.specs.Stores as stores
use Rattle.ff_machine.specs.Stores.{Stores}
use Rattle.ff_machine.specs.Reduction.{Moved, Red, reduction, as_reduction}
use Rattle.ff_machine.specs.State.{State, Step, Task}
use Rattle.ff_machine.specs.Turns.{Worked, work, go_on, gone, with_left, script_work, work_of, next_work, spend, turn_of, turn}
use Rattle.ff_machine.specs.Alone.{IsPage, IsEntry}
use Rattle.ff_machine.specs.References.{made}
use Rattle.ff_machine.specs.Valid.{IsStores, IsTask}
use Rattle.ff_laws.specs.Later.{AreLater}
use Rattle.ff_laws.specs.Reduced.{MovesUnlessFault}
use Rattle.ff_laws.proofs.Growing.{task_grows}
use Rattle.ff_laws.proofs.Later.{later_grows}
use Rattle.ff_laws.proofs.LaterReduction.{MovedLater, red_later}
use Rattle.ff_laws.proofs.LaterSteps.{TakenLater, take_ready, settle}
use Rattle.ff_laws.proofs.LaterTurns.{work_later}
use Rattle.ff_laws.proofs.Reducing.{red_keeps}
use Rattle.ff_laws.proofs.Redexes.{source_valid}
use Rattle.ff_laws.proofs.TasksPlacing.{GoesOnUnlessFault, red_goes_on}
use Rattle.ff_laws.proofs.Working.{unfinished, queue_lives}

-- valid tasks are valid in later stores
pub tasks_stay : (s t : Stores) → AreLater s t → (tasks : List Task) → All (IsTask s) tasks → All (IsTask t) tasks
tasks_stay s t later tasks are =
    All-weaker (IsTask s) (IsTask t) (λ task h. task_grows s t (later_grows s t later) task (later.windows.same task.page h.page).act h) tasks are

-- Tasks that go on.

abbrev LeftIsTask : Stores → Option Task → Type 0
LeftIsTask s None = ⊤
LeftIsTask s (Some task) = IsTask s task

-- a task that goes on as its reduction answers is valid
went_on : (s : Stores) (task : Task) (o : Option Val) (red : Result Moved Fault) → IsTask s task → (o ≡ None → MovesUnlessFault s red) → GoesOnUnlessFault task.running red → MovedLater s red
    → LeftIsTask (go_on s task (as_reduction s task.running o red) (as_reduction s task.running o red).answer).after (go_on s task (as_reduction s task.running o red) (as_reduction s task.running o red).answer).left
went_on s task (Some v) red is moves goes later = tt
went_on s task None (Err f) is moves goes later = tt
went_on s task None (Ok moved) is moves goes later = record {
  page = omega (arith, is.page, later.windows.pages);
  act = goes.base ∙ is.act ∙ sym (later.windows.same task.page is.page).act;
  running = (moves refl).running;
  around = goes.around;
  shallow = goes.shallow;
}

-- one of two tasks is
one_left : (b : Bool) (x y : Worked) → LeftIsTask x.after x.left → LeftIsTask y.after y.left → LeftIsTask (cond b x y).after (cond b x y).left
one_left true x y g h = g
one_left false x y g h = h

-- what work leaves of a valid task is
work_left : (s : Stores) (task : Task) → IsStores s → IsTask s task → LeftIsTask (work s task).after (work s task).left
unfolding reduction
work_left s task valid is =
    let page : IsPage (length s.windows.acts) (page_at s.windows task.page) = valid.windows.pages.each task.page.0 no_page is.page in
    let lives : task.running.base.0 < length s.windows.acts = subst (λ (a : ActId). a.0 < length s.windows.acts) (sym is.act) page.act in
    one_left (is_live s.windows task.page) (go_on s task (reduction s task.page task.running) (reduction s task.page task.running).answer) (gone s [])
    (went_on s task (value_of task.running.expr) (Red s task.page task.running) is
    (λ e. red_keeps s task.page task.running valid is.page lives is.running (unfinished task.running.expr e))
    (red_goes_on s task.page task.running is.around is.shallow) (red_later s task.page task.running))
    tt

-- a valid task before valid tasks
left_before : (s : Stores) (left : Option Task) (tasks : List Task) → LeftIsTask s left → All (IsTask s) tasks → All (IsTask s) (with_left left tasks)
left_before s None tasks h are = are
left_before s (Some task) tasks h are = All-cons (IsTask s) task tasks h are

-- work on the first task leaves valid tasks
worked_tasks : (s : Stores) (task : Task) (tasks : List Task) → IsStores s → All (IsTask s) (task ∷ tasks) → All (IsTask (work s task).after) (with_left (work s task).left tasks)
worked_tasks s task tasks valid are =
    left_before (work s task).after (work s task).left tasks (work_left s task valid (All-head (IsTask s) task tasks are))
    (tasks_stay s (work s task).after (work_later s task) tasks (All-tail (IsTask s) task tasks are))

-- Scripts that are taken out.

-- a task of a page, in the page's activation
abbrev pub task_of : Stores → PageId → Running → Task
task_of s page e = record { page = page; running = record { base = (page_at s.windows page).act; expr = e } }

-- a well spelled script of a page is a valid task
script_task : (s : Stores) (page : PageId) (body : Expr) → page.0 < length s.windows.pages → IsWellSpelledExpr body → IsTask s (task_of s page (whole body))
script_task s page body there is = record {
  page = there;
  act = refl;
  running = source_valid (made s) body is;
  around = whole-around body;
  shallow = let p = at_most_all (whole body) in let q = (source body).insides in omega (arith, p, q);
}

-- the script that a valid queue begins with is well spelled
ready_spelled : (next : ℕ) (queue : List Entry) (body : Expr) → first_ready queue ≡ Some body → All (IsEntry next) queue → IsWellSpelledExpr body
ready_spelled next [] body e all = cc
ready_spelled next (Ready b ∷ queue) body e all = let same : b ≡ body = cc in subst IsWellSpelledExpr same (All-head (IsEntry next) (Ready b) queue all)
ready_spelled next (Wait slot ∷ queue) body e all = cc

abbrev TakenIsTask : Stores → Option ((PageId × Expr) × Stores) → Type 0
TakenIsTask s None = ⊤
TakenIsTask s (Some taken) = IsTask s (task_of s taken.0.0 (whole taken.0.1))

-- the script that a page's queue begins with is a valid task
popped_task : (s : Stores) (page : PageId) (o : Option Expr) → first_ready (page_at s.windows page).queue ≡ o → IsStores s → TakenIsTask s (stores.popped_script s page o)
popped_task s page None e valid = tt
popped_task s page (Some body) e valid =
    let there = queue_lives s page body e in
    let is : IsPage (length s.windows.acts) (page_at s.windows page) = valid.windows.pages.each page.0 no_page there in
    script_task s page body there (ready_spelled (page_at s.windows page).next (page_at s.windows page).queue body e is.queue.entries)

-- the same of the page, if there is one, whose script may run
popped_of_task : (s : Stores) (page : Option PageId) → IsStores s → TakenIsTask s (stores.popped_of s page)
popped_of_task s None valid = tt
popped_of_task s (Some page) valid = popped_task s page (first_ready (page_at s.windows page).queue) refl valid

-- Turns.

-- the tasks of a state are valid
abbrev pub AreTasks : State → Type 0
AreTasks s = All (IsTask s.stores) s.tasks

abbrev LeavesTasks : Stores → Option (State → Step) → Type 0
LeavesTasks s None = ⊤
LeavesTasks s (Some f) = (t : State) → t.stores ≡ s → AreTasks (f t).after

-- a script that was taken out is the one task, which is valid
script_tasks : (s : Stores) (script : Option ((PageId × Expr) × Stores)) → TakenLater s script → TakenIsTask s script → LeavesTasks s (script_work script)
script_tasks s None later is = tt
script_tasks s (Some taken) later is = λ t e.
    subst (λ (x : Stores). All (IsTask taken.1) (task_of x taken.0.0 (whole taken.0.1) ∷ [])) (sym e)
    (tasks_stay s taken.1 later (task_of s taken.0.0 (whole taken.0.1) ∷ []) (All-cons (IsTask s) (task_of s taken.0.0 (whole taken.0.1)) [] is (All-nil (IsTask s))))

-- what is done next leaves valid tasks
work_tasks : (s : Stores) (tasks : List Task) (script : Option ((PageId × Expr) × Stores)) → IsStores s → All (IsTask s) tasks → TakenLater s script → TakenIsTask s script
    → LeavesTasks s (work_of tasks script)
work_tasks s [] script valid are later is = script_tasks s script later is
work_tasks s (task ∷ tasks) script valid are later is = λ t e.
    subst (λ (x : Stores). All (IsTask (work x task).after) (with_left (work x task).left tasks)) (sym e) (worked_tasks s task tasks valid are)

-- and so it does for one fuel
spend_tasks : (s : State) (fuel : ℕ) (f : State → Step) → ((t : State) → t.stores ≡ s.stores → AreTasks (f t).after) → AreTasks (spend s fuel f).after
spend_tasks s zero f h = All-nil (IsTask (stores.settle s.stores).after)
spend_tasks s (suc fuel) f h = h (record s { fuel = fuel }) refl

-- the same where there may be nothing to do
turn_of_tasks : (s : State) (f : Option (State → Step)) → AreTasks s → LeavesTasks s.stores f → AreTasks (turn_of s f).after
turn_of_tasks s None are h = tasks_stay s.stores (stores.settle s.stores).after (settle s.stores) s.tasks are
turn_of_tasks s (Some f) are h = spend_tasks s s.fuel f h

-- a turn leaves valid tasks
pub turn_tasks : (s : State) → IsStores s.stores → AreTasks s → AreTasks (turn s).after
unfolding turn
turn_tasks s valid are =
    turn_of_tasks s (next_work s) are
    (work_tasks s.stores s.tasks (stores.take_ready s.stores) valid are (take_ready s.stores) (popped_of_task s.stores (ready s.stores.windows) valid))
