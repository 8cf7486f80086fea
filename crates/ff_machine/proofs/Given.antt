-- The states in which the traces stand, and their runs.
use Rattle.std.proofs.Common.{◌≡◌, ℕ, suc, ◌+◌, ◌≤◌, true, false, Option, Some, None, List, [], ◌∷◌, arith, ap, ◌∙◌}
use Rattle.std.specs.Prelude.{codes}
use Rattle.std.specs.FinMap as finmap
use Rattle.std.specs.FinSet as finset
use Rattle.ff_confinement.specs.Runs.{Machine, plain}
use Rattle.ff_confinement.specs.Turns.{machine_of}
use Rattle.ff_name.specs.declared.urls.Url.TheVariants as url
use Rattle.ff_value.specs.declared.ids.NodeId.{NodeId}
use Rattle.ff_value.specs.declared.input.Input.{Input}
use Rattle.ff_value.specs.declared.output.Out.{Out}
use Rattle.ff_term.specs.Running.{Running}
use Rattle.ff_machine.specs.declared.records.Entry.{Entry}
use Rattle.ff_machine.specs.declared.records.Pending.{Pending}
use Rattle.ff_machine.specs.declared.records.Dst.TheVariants as dst
use Rattle.ff_machine.specs.declared.records.Shape.{Shape}
use Rattle.ff_machine.specs.declared.records.Shape.TheVariants as shape
use Rattle.ff_machine.specs.Net.{Requests, with_ask}
use Rattle.ff_machine.specs.Nodes.{Node}
use Rattle.ff_machine.specs.Windows as windows
use Rattle.ff_machine.specs.Stores.{Stores, Pages}
use Rattle.ff_machine.specs.State.{State}
use Rattle.ff_machine.specs.Machine.{reactor, browser}
use Rattle.ff_machine.specs.Traces.{Trace, home}
pub use Rattle.ff_machine.proofs.Numbers.{win, page, node, activation}
use Rattle.ff_machine.proofs.Numbers.{more, at_least}

-- Nodes.

-- a node without handlers
abbrev pub plain_node : Shape → List NodeId → Option NodeId → Node
plain_node s children parent = record { shape = s; handlers = []; children = children; parent = parent }

-- the root of the window's first page, which is blank
abbrev pub blank_root : Node
blank_root = plain_node (shape.Page (page 0)) [] None

-- the root of the page that was loaded
abbrev pub root_of : List NodeId → Node
root_of children = plain_node (shape.Page (page 1)) children None

-- a node right below it
abbrev pub leaf : Shape → Node
leaf s = plain_node s [] (Some (node 1))

-- Stores of one window.

-- the request of the window for its page
abbrev pub for_window : Pending
for_window = record { uri = codes "/"; dst = dst.Window (win 0) }

-- the window's first page
abbrev pub blank_page : windows.Page
blank_page = record { url = url.Blank; win = win 0; root = node 0; act = activation 0; next = 0; queue = [] }

-- the window showing a page
abbrev pub showing : ℕ → windows.Window
showing p = record { name = None; opener = None; page = page p }

module _ (domain : List ℕ) where
  -- the window is open and waits for its page
  abbrev pub waiting : Stores
  waiting = record {
    nodes = blank_root ∷ [];
    windows = record { windows = showing 0 ∷ []; opened = win 0 ∷ []; pages = blank_page ∷ []; acts = windows.no_act ∷ [] };
    jar = finmap.empty;
    requests = with_ask finmap.empty domain for_window;
    mass = 0;
    touched = finset.empty;
  }

  -- the reply for the window came, of some weight
  abbrev pub answered : ℕ → Stores
  answered mass = record waiting { requests = finmap.empty; mass = mass }

  -- the page that was loaded, with the number of its next slot and its queue
  abbrev pub home_page : ℕ → List Entry → windows.Page
  home_page next queue = record { url = home domain; win = win 0; root = node 1; act = activation 1; next = next; queue = queue }

  -- the window shows its page
  abbrev pub with_home : List Node → ℕ → List Entry → List windows.Activation → Requests → ℕ → Pages → Stores
  with_home nodes next queue more requests mass touched = record {
    nodes = blank_root ∷ nodes;
    windows = record { windows = showing 1 ∷ []; opened = win 0 ∷ []; pages = blank_page ∷ home_page next queue ∷ []; acts = windows.no_act ∷ windows.no_act ∷ more };
    jar = finmap.empty;
    requests = requests;
    mass = mass;
    touched = touched;
  }

-- States: what each input brings, and the fuel that is left.

-- no task
abbrev pub between : ℕ → ℕ → Stores → State
between budget fuel s = record { stores = s; budget = budget; fuel = fuel; tasks = []; quiet = false }

-- an input was taken
abbrev pub busy : ℕ → Stores → State
busy budget s = between budget budget s

-- the loaded page has a task
abbrev pub running : ℕ → ℕ → Stores → Running → State
running budget fuel s e = record { stores = s; budget = budget; fuel = fuel; tasks = record { page = page 1; running = record { base = activation 1; expr = e } } ∷ []; quiet = false }

-- an input was handled
abbrev pub resting : ℕ → Stores → State
resting budget s = record { stores = s; budget = budget; fuel = 0; tasks = []; quiet = true }

-- Runs.

-- the browser, with a number of turns that computes
abbrev pub settling : ℕ → Machine Input Out State
settling fuel = machine_of (reactor fuel) (suc fuel)

-- its runs are the browser's
pub runs_alike : (fuel : ℕ) (trace : Trace) → plain (settling fuel) trace.inputs ≡ trace.outputs → plain (browser fuel) trace.inputs ≡ trace.outputs
runs_alike fuel trace run = let e : fuel + 1 ≡ suc fuel = omega arith in ap (λ most. plain (machine_of (reactor fuel) most) trace.inputs) e ∙ run

-- a trace that is run with so much fuel and any number more is run with any fuel that is at least
-- so much
pub runs_from : (k : ℕ) (trace : Trace) → ((n : ℕ) → plain (settling (more k n)) trace.inputs ≡ trace.outputs) → (fuel : ℕ) → k ≤ fuel → plain (browser fuel) trace.inputs ≡ trace.outputs
runs_from k trace run fuel enough = runs_alike fuel trace (at_least (λ f. plain (settling f) trace.inputs ≡ trace.outputs) k run fuel enough)
