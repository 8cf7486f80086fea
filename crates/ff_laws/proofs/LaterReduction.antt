-- A reduction leaves later stores.
use Rattle.std.proofs.Common.{ℕ, ◌≤◌, Option, Some, None, Result, Ok, Err, List, [], ◌∷◌, ◌++◌, length, slice_set, arith, length-append, length-set}
use Rattle.std.specs.Prelude.{⊤}
use Rattle.ff_tree.specs.declared.tree.Doc.{Doc}
use Rattle.ff_value.specs.declared.fault.Fault.{Fault}
use Rattle.ff_value.specs.declared.ids.ActId.{ActId}
use Rattle.ff_value.specs.declared.ids.PageId.{PageId}
use Rattle.ff_value.specs.declared.value.Code.{Code}
use Rattle.ff_value.specs.declared.value.Val.{Val}
use Rattle.ff_value.specs.declared.value.Val.TheVariants as val
use Rattle.ff_term.specs.Running.{Running, Evaluation, redex, innermost, value_of}
use Rattle.ff_term.specs.Calls.{calls_around}
use Rattle.ff_term.specs.Redexes.{read_redex}
use Rattle.ff_term.specs.Redex.{Redex}
use Rattle.ff_term.specs.Redex as read
use Rattle.ff_machine.specs.Documents as documents
use Rattle.ff_machine.specs.Windows as windows
use Rattle.ff_machine.specs.Windows.{Activation}
use Rattle.ff_machine.specs.Stores.{Stores}
use Rattle.ff_machine.specs.Operators.{Outcome}
use Rattle.ff_machine.specs.Reduction.{Became, Moved, Red, reduction, as_reduction, put_back, reduced, of_outcome, choose, call, entered, enter_fault, or_fault, with_acts, variable, declare, assign, make_tree, tree_fault}
use Rattle.ff_laws.specs.Later.{AreLater}
use Rattle.ff_laws.proofs.LaterWindows as windows_later
use Rattle.ff_laws.proofs.Later.{unchanged, other_windows}
use Rattle.ff_laws.proofs.LaterOperators.{OutcomeLater, unless_later, operate_later}

abbrev BecameLater : Stores → Result Became Fault → Type 0
BecameLater s (Ok became) = AreLater s became.after
BecameLater s (Err f) = ⊤

-- a reduction that doesn't fail leaves later stores
abbrev pub MovedLater : Stores → Result Moved Fault → Type 0
MovedLater s (Ok moved) = AreLater s moved.after
MovedLater s (Err f) = ⊤

acts_more : (s : Stores) (acts : List Activation) → length s.windows.acts ≤ length acts → AreLater s (with_acts s acts)
acts_more s acts le = other_windows s (windows.with_acts s.windows acts) (windows_later.other_acts s.windows acts le)

variable_later : (s : Stores) (v : Option Val) → OutcomeLater s (variable s v)
variable_later s None = tt
variable_later s (Some v) = unchanged s

set_act : (acts : List Activation) (a : ActId) (act : Activation) → length acts ≤ length (slice_set acts a.0 act)
set_act acts a act = omega (arith, length-set acts a.0 act)

set_size : (acts : List Activation) (a : ActId) (x : List ℕ) (v : Val) → length acts ≤ length (windows.set_var acts a x v)
set_size acts a x v = set_act acts a _

push_act : (acts : List Activation) (act : Activation) → length acts ≤ length (acts ++ act ∷ [])
push_act acts act = omega (arith, length-append acts (act ∷ []))

assigned_size : (acts : List Activation) (a : Option ActId) (x : List ℕ) (v : Val) → length acts ≤ length (windows.assigned acts a x v)
assigned_size acts None x v = omega arith
assigned_size acts (Some a) x v = set_size acts a x v

declare_later : (s : Stores) (a : ActId) (x : List ℕ) (v : Val) → OutcomeLater s (declare s a x v)
declare_later s a x v = unless_later s (windows.declare_fault s.windows.acts a x) _ (acts_more s (windows.set_var s.windows.acts a x v) (set_size s.windows.acts a x v))

assign_later : (s : Stores) (holder : Option ActId) (x : List ℕ) (v : Val) → OutcomeLater s (assign s holder x v)
assign_later s holder x v = unless_later s (windows.assign_fault holder) _ (acts_more s (windows.assigned s.windows.acts holder x v) (assigned_size s.windows.acts holder x v))

tree_later : (s : Stores) (a : ActId) (doc : Doc) → OutcomeLater s (make_tree s a doc)
tree_later s a doc =
    unless_later s (tree_fault s a doc) _
    (record { nodes = omega (arith, length-append s.nodes ((documents.laid a doc).nodes (length s.nodes) None)); windows = windows_later.unchanged s.windows; mass = omega arith })

outcome_became : (s : Stores) (o : Outcome) → OutcomeLater s o → BecameLater s (of_outcome o)
outcome_became s (Ok did) h = h
outcome_became s (Err f) h = tt

choose_later : (s : Stores) (v : Val) (e : Running) → BecameLater s (choose s v e)
choose_later s (val.Bool b) e = unchanged s
choose_later s other e = tt

entered_later : (s : Stores) (why : Option Fault) (code : Code) (args : List Val) → BecameLater s (or_fault why (entered s code args))
entered_later s None code args = acts_more s (windows.with_act s.windows.acts code.env code.params args) (push_act s.windows.acts _)
entered_later s (Some f) code args = tt

call_later : (s : Stores) (calls : ℕ) (v : Val) (args : List Val) → BecameLater s (call s calls v args)
call_later s calls (val.Code code) args = entered_later s (enter_fault s calls code args) code args
call_later s calls other args = tt

reduced_later : (s : Stores) (page : PageId) (a : ActId) (calls : ℕ) (e : Running) (r : Redex) → BecameLater s (reduced s page a calls e r)
reduced_later s page a calls e read.Local = unchanged s
reduced_later s page a calls e (read.Test v) = choose_later s v e
reduced_later s page a calls e (read.Apply v vs) = call_later s calls v vs
reduced_later s page a calls e (read.Var x) = outcome_became s _ (variable_later s (windows.lookup s.windows.acts a x))
reduced_later s page a calls e (read.Let x v) = outcome_became s _ (declare_later s a x v)
reduced_later s page a calls e (read.Set x v) = outcome_became s _ (assign_later s (windows.holder s.windows.acts a x) x v)
reduced_later s page a calls e (read.Make params body) = unchanged s
reduced_later s page a calls e (read.Tree doc) = outcome_became s _ (tree_later s a doc)
reduced_later s page a calls e (read.Prim op vs) = outcome_became s _ (operate_later s page op vs)

put_later : (s : Stores) (t : Evaluation) (became : Result Became Fault) → BecameLater s became → MovedLater s (put_back t became)
put_later s t (Ok became) h = h
put_later s t (Err f) h = tt

-- the one reduction of an evaluation leaves later stores
pub red_later : (s : Stores) (page : PageId) (t : Evaluation) → MovedLater s (Red s page t)
unfolding Red
red_later s page t =
    put_later s t _ (reduced_later s page (innermost t.base t.expr) (calls_around t.expr) (redex t.expr) (read_redex (redex t.expr)))

as_later : (s : Stores) (t : Evaluation) (v : Option Val) (red : Result Moved Fault) → MovedLater s red → AreLater s (as_reduction s t v red).after
as_later s t (Some v) red h = unchanged s
as_later s t None (Ok moved) h = h
as_later s t None (Err f) h = unchanged s

-- what a reduction leaves is later
pub reduction_later : (s : Stores) (page : PageId) (t : Evaluation) → AreLater s (reduction s page t).after
unfolding reduction
reduction_later s page t = as_later s t (value_of t.expr) (Red s page t) (red_later s page t)
