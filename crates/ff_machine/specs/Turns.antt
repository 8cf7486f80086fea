-- One turn of a state that isn't quiet.
use Rattle.std.specs.Prelude.{ℕ, zero, suc, true, cond, Option, Some, None, List, [], ◌∷◌}
use Rattle.ff_tree.specs.declared.tree.Expr.{Expr}
use Rattle.ff_value.specs.declared.fault.Fault.{Fault}
use Rattle.ff_value.specs.declared.ids.PageId.{PageId}
use Rattle.ff_value.specs.declared.output.Out.{Out}
use Rattle.ff_value.specs.declared.output.Out.TheVariants as out
use Rattle.ff_term.specs.Whole.{whole}
use Rattle.ff_machine.specs.declared.reduced.Reduced.{Reduced}
use Rattle.ff_machine.specs.declared.reduced.Reduced.TheVariants as answer
use Rattle.ff_machine.specs.Windows.{is_live, page_at}
use Rattle.ff_machine.specs.Stores as stores
use Rattle.ff_machine.specs.Stores.{Stores}
use Rattle.ff_machine.specs.Reduction.{Reduction, reduction}
use Rattle.ff_machine.specs.State.{State, Step, Task, nothing, task_for}

-- Nothing is left to do, or no fuel for it.

-- what was changed is shown, no fuel is left, and the browser is quiet
abbrev pub settle : State → Step
settle s = let shown = stores.settle s.stores in record { outputs = shown.outputs; after = record s { stores = shown.after; fuel = 0; quiet = true } }

-- all tasks are dropped, and then the browser settles
abbrev pub stop : State → Step
stop s = let settled = settle (record s { tasks = [] }) in record { outputs = out.Stopped ∷ settled.outputs; after = settled.after }

-- A task.

-- what one fuel makes of a task: the outputs, the stores, and the task where it goes on
pub record Worked : Type 0 where
  pub outputs : List Out
  pub after : Stores
  pub left : Option Task

-- the task is gone
abbrev pub gone : Stores → List Out → Worked
gone s outputs = record { outputs = outputs; after = s; left = None }

-- the error of a task of a page, at the place of the page's window
abbrev pub error_at : Stores → PageId → Fault → Out
error_at s page f = out.Error (stores.place s (page_at s.windows page).win) f

-- a task goes on as its reduction answers: it is gone where it is a value or has failed
abbrev pub go_on : Stores → Task → Reduction → Reduced → Worked
go_on s task r answer.Moved = record { outputs = r.outputs; after = r.after; left = Some (record task { running = r.running }) }
go_on s task r (answer.Done v) = gone s []
go_on s task r (answer.Failed f) = gone s (error_at s task.page f ∷ [])

-- a task of a live page makes one reduction; any other is dropped
abbrev pub work : Stores → Task → Worked
work s task =
    let r = reduction s task.page task.running in
    cond (is_live s.windows task.page) (go_on s task r r.answer) (gone s [])

-- a task, where one is left, before others
abbrev pub with_left : Option Task → List Task → List Task
with_left None tasks = tasks
with_left (Some task) tasks = task ∷ tasks

-- a task was worked on that stands before the others
abbrev pub with_worked : State → List Task → Worked → Step
with_worked s tasks worked = record { outputs = worked.outputs; after = record s { stores = worked.after; tasks = with_left worked.left tasks } }

-- the first of these tasks, if there is one, is worked on
abbrev pub first_work : State → List Task → Step
first_work s [] = nothing s
first_work s (task ∷ tasks) = with_worked s tasks (work s.stores task)

-- A script.

-- a script that was taken out of its queue is the one task
abbrev pub begin_script : State → (PageId × Expr) × Stores → Step
begin_script s taken = nothing (record s { stores = taken.1; tasks = task_for s taken.0.0 (whole taken.0.1) ∷ [] })

-- The turn.

-- what is done with a script that was taken out, if one was
abbrev pub script_work : Option ((PageId × Expr) × Stores) → Option (State → Step)
script_work None = None
script_work (Some taken) = Some (λ t. begin_script t taken)

-- what is done with the first of these tasks, else with a script
abbrev pub work_of : List Task → Option ((PageId × Expr) × Stores) → Option (State → Step)
work_of [] script = script_work script
work_of (task ∷ tasks) script = Some (λ t. first_work t (task ∷ tasks))

-- what is done next for one fuel, if there is anything: the first task, else the first script that
-- may run
abbrev pub next_work : State → Option (State → Step)
next_work s = work_of s.tasks (stores.take_ready s.stores)

-- one fuel is spent on what is to be done; without fuel the browser stops
abbrev pub spend : State → ℕ → (State → Step) → Step
spend s zero f = stop s
spend s (suc fuel) f = f (record s { fuel = fuel })

-- with nothing to be done the browser settles
abbrev pub turn_of : State → Option (State → Step) → Step
turn_of s None = settle s
turn_of s (Some f) = spend s s.fuel f

-- one turn of a state that isn't quiet
unfoldable pub turn : State → Step
turn s = turn_of s (next_work s)
