-- Which stores, tasks and states are valid.
use Rattle.std.specs.Prelude.{◌≡◌, ℕ, ◌<◌, ◌≤◌, ◌⊎◌, Ok, Err, List, [], All, IsTrue, length, count_by, sum_by}
use Rattle.std.specs.FinSet as finset
use Rattle.ff_operators.specs.Limits.{most_mass}
use Rattle.ff_tree.specs.Ops.{arity_of}
use Rattle.ff_tree.specs.Spelled.{IsVar, AreParams, IsWellSpelledDoc, IsWellSpelledExpr}
use Rattle.ff_value.specs.Spelled.{IsWellSpelledCode, IsWellSpelledVal}
use Rattle.ff_value.specs.declared.ids.NodeId.{NodeId}
use Rattle.ff_value.specs.declared.ids.PageId.{PageId}
use Rattle.ff_value.specs.declared.value.Code.{Code}
use Rattle.ff_value.specs.declared.value.Val.{Val}
use Rattle.ff_value.specs.declared.value.Val.TheVariants as val
use Rattle.ff_term.specs.Redex.{Redex}
use Rattle.ff_term.specs.Running.{Running}
use Rattle.ff_term.specs.declared.TheConstants.{MOST_CALLS}
use Rattle.ff_term.specs.Calls.{CallsStandAround, calls_around}
use Rattle.ff_term.specs.Conditions.{Conditions, Satisfies}
use Rattle.ff_term.specs.Redexes.{GivesSound}
use Rattle.ff_machine.specs.declared.records.Shape.TheVariants as shape
use Rattle.ff_machine.specs.Shapes.{is_started}
use Rattle.ff_machine.specs.Nodes.{Node, node_at}
use Rattle.ff_machine.specs.Windows.{Page, nth_page, page_at, next_win}
use Rattle.ff_machine.specs.Stores.{Stores}
use Rattle.ff_machine.specs.Operators.{Outcome}
use Rattle.ff_machine.specs.State.{State, Task}
use Rattle.ff_machine.specs.Alone.{AreNodes, AreWindows, IsJar, AreRequests}
use Rattle.ff_machine.specs.References.{Made, made, CodeRefers, ValRefers, StoresRefer}

-- Values and expressions that run.

-- a well spelled function, made in an activation that there is
abbrev pub IsCode : Made → Code → Type 0
IsCode m code = IsWellSpelledCode code × CodeRefers m code

-- a well spelled value that refers to what was made
abbrev pub IsVal : Made → Val → Type 0
IsVal m v = IsWellSpelledVal v × ValRefers m v

-- the value of an outcome, if it has one, refers to what was made before, or is the window that was
-- opened
abbrev pub GivesVal : Stores → Outcome → Type 0
GivesVal s (Ok did) = IsVal (made s) did.value ⊎ (did.value ≡ val.Win (next_win s.windows))
GivesVal s (Err f) = Unit {0}

-- what holds of each thing in a valid runtime expression
abbrev pub valid : Made → Conditions
valid m = record {
  val = IsVal m;
  var = IsVar;
  make = λ params body. AreParams params × IsWellSpelledExpr body;
  tree = IsWellSpelledDoc;
  prim = λ op n. n ≡ arity_of op;
  act = λ a. a.0 < m.acts;
}

-- a runtime expression whose values, activations, names, functions and documents are valid
abbrev pub IsRunning : Made → Running → Type 0
IsRunning m e = Satisfies (valid m) e

-- the same of what a redex hands out
abbrev pub IsRedex : Made → Redex → Type 0
IsRedex m r = GivesSound (valid m) r

-- Stores.

-- how many scripts were started
abbrev pub count_started : List Node → ℕ
count_started nodes = count_by (λ node. is_started node.shape) nodes

-- the root of each page is the one node of kind page that has this page
pub record AreRooted (nodes : List Node) (pages : List Page) : Type 0 where
  pub root : (p : PageId) → p.0 < length pages → (node_at nodes (nth_page pages p).root).shape ≡ shape.Page p
  pub only : (n : NodeId) (p : PageId) → (node_at nodes n).shape ≡ shape.Page p → (nth_page pages p).root ≡ n

-- each entry of a queue, and each slot number, came with a script that was started
pub record AreQueued (nodes : List Node) (pages : List Page) : Type 0 where
  pub entries : sum_by (λ page. length page.queue) pages ≤ count_started nodes
  pub slots : sum_by (λ page. page.next) pages ≤ count_started nodes

-- valid stores: each by itself, and then what holds across them
pub record IsStores (s : Stores) : Type 0 where
  pub nodes : AreNodes s.nodes
  pub windows : AreWindows s.windows
  pub jar : IsJar s.jar
  pub requests : AreRequests s.requests
  pub refer : StoresRefer (made s) s
  pub rooted : AreRooted s.nodes s.windows.pages
  pub queued : AreQueued s.nodes s.windows.pages
  pub light : s.mass ≤ most_mass

-- States.

-- a task of a page: it runs in the page's activation, and each call in it stands around its redex,
-- a thousand at most
pub record IsTask (s : Stores) (task : Task) : Type 0 where
  pub page : task.page.0 < length s.windows.pages
  pub act : task.running.base ≡ (page_at s.windows task.page).act
  pub running : IsRunning (made s) task.running.expr
  pub around : CallsStandAround task.running.expr
  pub shallow : calls_around task.running.expr ≤ MOST_CALLS

-- nothing is left to do, to show or to spend
pub record IsQuiet (s : State) : Type 0 where
  pub tasks : s.tasks ≡ []
  pub fuel : s.fuel ≡ 0
  pub touched : s.stores.touched ≡ finset.empty

-- a valid state of the browser to which each input brings so much fuel
pub record IsState (budget : ℕ) (s : State) : Type 0 where
  pub stores : IsStores s.stores
  pub tasks : All (IsTask s.stores) s.tasks
  pub budget_is : s.budget ≡ budget
  pub within : s.fuel ≤ budget
  pub quiet : IsTrue s.quiet → IsQuiet s
