-- The one reduction of a runtime expression.
use Rattle.std.specs.Prelude.{◌≡◌, ℕ, ◌+◌, cond, not, ◌==◌, nat_le, Option, Some, None, Result, Ok, Err, List, [], length}
use Rattle.ff_tree.specs.Weight.{doc_weight}
use Rattle.ff_tree.specs.declared.tree.Doc.{Doc}
use Rattle.ff_tree.specs.declared.tree.Expr.{Expr}
use Rattle.ff_value.specs.declared.fault.Fault.{Fault}
use Rattle.ff_value.specs.declared.fault.Fault.TheVariants as fault
use Rattle.ff_value.specs.declared.ids.ActId.{ActId}
use Rattle.ff_value.specs.declared.ids.PageId.{PageId}
use Rattle.ff_value.specs.declared.output.Out.{Out}
use Rattle.ff_value.specs.declared.value.Code.{Code}
use Rattle.ff_value.specs.declared.value.Val.{Val}
use Rattle.ff_value.specs.declared.value.Val.TheVariants as val
use Rattle.ff_machine.specs.Faults.{first_fault, limit_unless}
use Rattle.ff_machine.specs.Nodes as nodes
use Rattle.ff_machine.specs.Documents as documents
use Rattle.ff_machine.specs.Windows as windows
use Rattle.ff_machine.specs.Stores.{Stores, may_weigh, nothing}
use Rattle.ff_term.specs.Running.{Running, Done, Var, Let, Set, Make, Apply, Tree, Prim, Inside, Evaluation, more, rewritten_in, innermost, value_of}
use Rattle.ff_term.specs.Running as term
use Rattle.ff_term.specs.declared.TheConstants.{MOST_CALLS}
use Rattle.ff_term.specs.Calls.{calls_around}
use Rattle.ff_term.specs.Whole.{whole}
use Rattle.ff_term.specs.Redexes.{read_redex}
use Rattle.ff_term.specs.Rows.{local_row, branch}
use Rattle.ff_term.specs.Redex.{Redex}
use Rattle.ff_term.specs.Redex as redex
use Rattle.ff_machine.specs.declared.reduced.Reduced.{Reduced}
use Rattle.ff_machine.specs.declared.reduced.Reduced.TheVariants as answer
use Rattle.ff_machine.specs.Operators.{Outcome, operate, unless, gives, does}

-- other activations
abbrev pub with_acts : Stores → List windows.Activation → Stores
with_acts s acts = record s { windows = windows.with_acts s.windows acts }

-- Redexes that become a value.

-- the value of the nearest variable
abbrev pub variable : Stores → Option Val → Outcome
variable s None = Err fault.Name
variable s (Some v) = gives s v

-- the variable is declared in the activation, or overwritten there
abbrev pub declare : Stores → ActId → List ℕ → Val → Outcome
declare s a x v = unless (windows.declare_fault s.windows.acts a x) (does v (nothing (with_acts s (windows.set_var s.windows.acts a x v))))

-- the nearest variable of that name is written
abbrev pub assign : Stores → Option ActId → List ℕ → Val → Outcome
assign s holder x v = unless (windows.assign_fault holder) (does v (nothing (with_acts s (windows.assigned s.windows.acts holder x v))))

-- a tree more, without a parent
abbrev pub with_tree : Stores → ActId → Doc → Stores
with_tree s a doc = record s { nodes = documents.with_tree s.nodes (documents.laid a doc); mass = s.mass + doc_weight doc }

-- why no tree can be made, in order: the mass, then the nodes, would pass their limit
abbrev pub tree_fault : Stores → ActId → Doc → Option Fault
tree_fault s a doc = first_fault (limit_unless (may_weigh s (doc_weight doc))) (nodes.room_fault s.nodes (documents.laid a doc).size)

-- a reference to a new tree
abbrev pub make_tree : Stores → ActId → Doc → Outcome
make_tree s a doc = unless (tree_fault s a doc) (does (val.Node (nodes.next_node s.nodes)) (nothing (with_tree s a doc)))

-- a function made in the activation a
abbrev pub make : Stores → ActId → List (List ℕ) → Expr → Outcome
make s a params body = gives s (val.Code (record { params = params; body = body; env = a }))

-- Redexes that become an expression.

-- what a redex becomes: an expression, the stores after it, and the outputs
pub record Became : Type 0 where
  pub part : Running
  pub after : Stores
  pub outputs : List Out

-- an expression, and nothing else changes
abbrev pub is : Stores → Running → Result Became Fault
is s e = Ok (record { part = e; after = s; outputs = [] })

-- a value that was given
abbrev pub of_outcome : Outcome → Result Became Fault
of_outcome (Ok did) = Ok (record { part = Done did.value; after = did.after; outputs = did.outputs })
of_outcome (Err f) = Err f

-- the branch of an `if` for its test
abbrev pub choose : Stores → Val → Running → Result Became Fault
choose s (val.Bool b) e = is s (branch b e)
choose s other e = Err fault.Kind

-- why a function can't be called, in order: the number of arguments, too many calls inside one
-- another, no room
abbrev pub enter_fault : Stores → ℕ → Code → List Val → Option Fault
enter_fault s calls code args =
    cond (not (length code.params == length args)) (Some fault.Kind)
    (cond (nat_le MOST_CALLS calls) (Some fault.Depth) (windows.call_fault s.windows.acts (length code.params)))

-- a function runs in an activation of its own
abbrev pub entered : Stores → Code → List Val → Became
entered s code args = record {
  part = Inside (windows.next_act s.windows) (whole code.body);
  after = with_acts s (windows.with_act s.windows.acts code.env code.params args);
  outputs = [];
}

-- the fault that there is, or what a redex becomes
abbrev pub or_fault : Option Fault → Became → Result Became Fault
or_fault None became = Ok became
or_fault (Some f) became = Err f

-- a function is called with its arguments
abbrev pub call : Stores → ℕ → Val → List Val → Result Became Fault
call s calls (val.Code code) args = or_fault (enter_fault s calls code args) (entered s code args)
call s calls other args = Err fault.Kind

-- what a redex, which is e, becomes for a task of the page, in the activation a and inside so many
-- calls
abbrev pub reduced : Stores → PageId → ActId → ℕ → Running → Redex → Result Became Fault
reduced s page a calls e redex.Local = is s (local_row e)
reduced s page a calls e (redex.Test v) = choose s v e
reduced s page a calls e (redex.Apply v vs) = call s calls v vs
reduced s page a calls e (redex.Var x) = of_outcome (variable s (windows.lookup s.windows.acts a x))
reduced s page a calls e (redex.Let x v) = of_outcome (declare s a x v)
reduced s page a calls e (redex.Set x v) = of_outcome (assign s (windows.holder s.windows.acts a x) x v)
reduced s page a calls e (redex.Make params body) = of_outcome (make s a params body)
reduced s page a calls e (redex.Tree doc) = of_outcome (make_tree s a doc)
reduced s page a calls e (redex.Prim op vs) = of_outcome (operate s page op vs)

-- what a whole expression becomes
pub record Moved : Type 0 where
  pub now : Evaluation
  pub after : Stores
  pub outputs : List Out

-- what a redex becomes stands in its place
abbrev pub put_back : Evaluation → Result Became Fault → Result Moved Fault
put_back t (Ok became) = Ok (record { now = rewritten_in (λ _. became.part) t; after = became.after; outputs = became.outputs })
put_back t (Err f) = Err f

-- the one reduction of an evaluation for a page, or why it fails
unfoldable pub Red : Stores → PageId → Evaluation → Result Moved Fault
Red s page t =
    let e = term.redex t.expr in
    put_back t (reduced s page (innermost t.base t.expr) (calls_around t.expr) e (read_redex e))

-- what one reduction answers and leaves
pub record Reduction : Type 0 where
  pub answer : Reduced
  pub running : Evaluation
  pub after : Stores
  pub outputs : List Out

-- a value stays; a fault changes nothing
abbrev pub as_reduction : Stores → Evaluation → Option Val → Result Moved Fault → Reduction
as_reduction s t (Some v) red = record { answer = answer.Done v; running = t; after = s; outputs = [] }
as_reduction s t None (Ok moved) = record { answer = answer.Moved; running = moved.now; after = moved.after; outputs = moved.outputs }
as_reduction s t None (Err f) = record { answer = answer.Failed f; running = t; after = s; outputs = [] }

-- the reduction of an evaluation for a page
unfoldable pub reduction : Stores → PageId → Evaluation → Reduction
reduction s page t = as_reduction s t (value_of t.expr) (Red s page t)

-- the reduction changes nothing and puts nothing
pub record StaysAt (s : Stores) (t : Evaluation) (r : Reduction) : Type 0 where
  pub running_is : r.running ≡ t
  pub after_is : r.after ≡ s
  pub outputs_are : r.outputs ≡ []

-- the reduction that a redex gives
abbrev pub by_redex : Stores → Evaluation → Result Became Fault → Reduction
by_redex s t became = as_reduction s t None (put_back t became)
