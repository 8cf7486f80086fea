-- The state of one copy of the browser, and steps of it.
use Rattle.std.specs.Prelude.{ℕ, Bool, true, Option, Some, None, List, [], ◌++◌, map}
use Rattle.ff_confinement.specs.Turns.{Stepped}
use Rattle.ff_value.specs.declared.ids.PageId.{PageId}
use Rattle.ff_value.specs.declared.output.Out.{Out}
use Rattle.ff_value.specs.declared.value.Code.{Code}
use Rattle.ff_value.specs.declared.value.Val.{Val}
use Rattle.ff_term.specs.Running.{Running, Evaluation, call_of}
use Rattle.ff_machine.specs.Windows.{page_at}
use Rattle.ff_machine.specs.Stores as stores
use Rattle.ff_machine.specs.Stores.{Stores}

-- a task: an expression that runs for a page
pub record Task : Type 0 where
  pub page : PageId
  pub running : Evaluation

-- the stores, the fuel that each input brings, the fuel that is left, the tasks in order, and
-- whether an input may come
pub record State : Type 0 where
  pub stores : Stores
  pub budget : ℕ
  pub fuel : ℕ
  pub tasks : List Task
  pub quiet : Bool

-- nothing was made, and nothing is left to do
abbrev pub empty : ℕ → State
empty budget = record { stores = stores.empty; budget = budget; fuel = 0; tasks = []; quiet = true }

-- outputs, and the state after them
abbrev pub Step : Type 0
Step = Stepped Out State

-- the step to a state that puts nothing
abbrev pub nothing : State → Step
nothing s = record { outputs = []; after = s }

-- the state with other stores
abbrev pub with_stores : State → Stores → State
with_stores s t = record s { stores = t }

-- what a step of the stores makes of the state
abbrev pub lifted : State → Stepped Out Stores → Step
lifted s step = record { outputs = step.outputs; after = with_stores s step.after }

-- the same of a step that is made where there was room for it
abbrev pub if_room : State → Option (Stepped Out Stores) → Step
if_room s None = nothing s
if_room s (Some step) = lifted s step

-- what follows where there is something
abbrev pub given : {X : Type 0} → State → Option X → (X → Step) → Step
given s None f = nothing s
given s (Some x) f = f x

-- a task of a page, which runs in the page's activation
abbrev pub task_for : State → PageId → Running → Task
task_for s page e = record { page = page; running = record { base = (page_at s.stores.windows page).act; expr = e } }

-- one task more for each of the functions, in order, which calls it with the value
abbrev pub with_calls : State → PageId → List Code → Val → State
with_calls s page codes arg = record s { tasks = s.tasks ++ map (λ code. task_for s page (call_of code arg)) codes }
