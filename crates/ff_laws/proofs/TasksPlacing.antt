-- The calls of an evaluation stand around its redex after a reduction, a thousand at most.
use Rattle.std.proofs.Common.{◌≡◌, ℕ, ◌+◌, ◌<◌, ◌≤◌, Bool, true, false, cond, not, eqb, leb, Option, Some, None, Result, Ok, Err, List, length, arith, refl}
use Rattle.std.specs.Prelude.{⊤}
use Rattle.std.proofs.lemmas.Bool.{leb-false}
use Rattle.ff_value.specs.declared.fault.Fault.{Fault}
use Rattle.ff_value.specs.declared.fault.Fault.TheVariants as fault
use Rattle.ff_value.specs.declared.ids.ActId.{ActId}
use Rattle.ff_value.specs.declared.ids.PageId.{PageId}
use Rattle.ff_value.specs.declared.value.Code.{Code}
use Rattle.ff_value.specs.declared.value.Val.{Val}
use Rattle.ff_value.specs.declared.value.Val.TheVariants as val
use Rattle.ff_term.specs.Running.{Running, Evaluation, redex, innermost, insides, rewritten}
use Rattle.ff_term.specs.Calls.{calls_around, CallsStandAround}
use Rattle.ff_term.specs.Redexes.{read_redex}
use Rattle.ff_term.specs.declared.TheConstants.{MOST_CALLS}
use Rattle.ff_term.specs.Redex.{Redex}
use Rattle.ff_term.specs.Redex as read
use Rattle.ff_term.proofs.Calls.{at_most_all, redex-around, rewritten-around, local-around, branch-around, entered-around}
use Rattle.ff_term.proofs.Sources.{source}
use Rattle.ff_machine.specs.Windows as windows
use Rattle.ff_machine.specs.Stores.{Stores}
use Rattle.ff_machine.specs.Operators.{Outcome, operate}
use Rattle.ff_machine.specs.Reduction.{Became, Moved, Red, put_back, reduced, of_outcome, choose, call, entered, enter_fault, or_fault, variable, declare, assign, make_tree}
use Rattle.ff_laws.proofs.TasksDepth.{no_more_calls, local_no_more, branch_no_more}

-- what stands in the place of a redex inside so many calls: with its own calls there are not too
-- many
record IsPlaced (calls : ℕ) (e part : Running) : Type 0 where
  pub around : CallsStandAround part
  pub few : calls + insides part ≤ MOST_CALLS + insides e

abbrev BecomesPlaced : ℕ → Running → Result Became Fault → Type 0
BecomesPlaced calls e (Ok became) = IsPlaced calls e became.part
BecomesPlaced calls e (Err f) = ⊤

-- an evaluation that went on in the same activation: its calls stand around, and are not too many
pub record GoesOn (t now : Evaluation) : Type 0 where
  pub base : now.base ≡ t.base
  pub around : CallsStandAround now.expr
  pub shallow : calls_around now.expr ≤ MOST_CALLS

-- the same of a reduction that doesn't fail
abbrev pub GoesOnUnlessFault : Evaluation → Result Moved Fault → Type 0
GoesOnUnlessFault t (Ok moved) = GoesOn t moved.now
GoesOnUnlessFault t (Err f) = ⊤

-- a value has no calls
outcome_placed : (calls : ℕ) (e : Running) (o : Outcome) → calls ≤ MOST_CALLS → BecomesPlaced calls e (of_outcome o)
outcome_placed calls e (Ok did) few = record { around = refl; few = omega (arith, few) }
outcome_placed calls e (Err f) few = tt

-- a branch stands in the place of its test
choose_placed : (s : Stores) (calls : ℕ) (v : Val) (e : Running) → calls ≤ MOST_CALLS → CallsStandAround e → BecomesPlaced calls e (choose s v e)
choose_placed s calls (val.Bool b) e few h = let fewer = branch_no_more b e in record { around = branch-around b e h; few = omega (arith, few, fewer) }
choose_placed s calls other e few h = tt

-- there are fewer than a thousand calls where nothing keeps a function from being called
depth_of : (a b : Bool) (f g : Fault) (o : Option Fault) → cond a (Some f) (cond b (Some g) o) ≡ None → b ≡ false
depth_of true b f g o e = cc
depth_of false true f g o e = cc
depth_of false false f g o e = refl

-- a body that is entered has one call, its own
entered_placed : (s : Stores) (calls : ℕ) (e : Running) (code : Code) (args : List Val) (why : Option Fault) → (why ≡ None → calls < MOST_CALLS)
    → BecomesPlaced calls e (or_fault why (entered s code args))
entered_placed s calls e code args (Some f) few = tt
entered_placed s calls e code args None few =
    let below = few refl in let none = (source code.body).insides in
    record { around = entered-around (windows.next_act s.windows) code.body; few = omega (arith, below, none) }

-- a function that is called
call_placed : (s : Stores) (calls : ℕ) (e : Running) (v : Val) (args : List Val) → BecomesPlaced calls e (call s calls v args)
call_placed s calls e (val.Code code) args =
    entered_placed s calls e code args (enter_fault s calls code args)
    (λ free. leb-false MOST_CALLS calls (depth_of (not (eqb (length code.params) (length args))) (leb MOST_CALLS calls) fault.Kind fault.Depth (windows.call_fault s.windows.acts (length code.params)) free))
call_placed s calls e other args = tt

-- what any redex becomes
reduced_placed : (s : Stores) (page : PageId) (a : ActId) (calls : ℕ) (e : Running) (r : Redex) → calls ≤ MOST_CALLS → CallsStandAround e → BecomesPlaced calls e (reduced s page a calls e r)
reduced_placed s page a calls e read.Local few h = let fewer = local_no_more e h in record { around = local-around e h; few = omega (arith, few, fewer) }
reduced_placed s page a calls e (read.Test v) few h = choose_placed s calls v e few h
reduced_placed s page a calls e (read.Apply v vs) few h = call_placed s calls e v vs
reduced_placed s page a calls e (read.Var x) few h = outcome_placed calls e (variable s (windows.lookup s.windows.acts a x)) few
reduced_placed s page a calls e (read.Let x v) few h = outcome_placed calls e (declare s a x v) few
reduced_placed s page a calls e (read.Set x v) few h = outcome_placed calls e (assign s (windows.holder s.windows.acts a x) x v) few
reduced_placed s page a calls e (read.Make params body) few h = record { around = refl; few = omega (arith, few) }
reduced_placed s page a calls e (read.Tree doc) few h = outcome_placed calls e (make_tree s a doc) few
reduced_placed s page a calls e (read.Prim op vs) few h = outcome_placed calls e (operate s page op vs) few

-- with such a part in the place of its redex the evaluation goes on
put_goes_on : (t : Evaluation) (r : Result Became Fault) → CallsStandAround t.expr → BecomesPlaced (calls_around t.expr) (redex t.expr) r → GoesOnUnlessFault t (put_back t r)
put_goes_on t (Ok b) h is =
    let here = at_most_all (rewritten (λ _. b.part) t.expr) in let all = no_more_calls b.part t.expr in let few = is.few in
    record { base = refl; around = rewritten-around (λ _. b.part) t.expr h is.around; shallow = omega (arith, here, all, few, h) }
put_goes_on t (Err f) h is = tt

-- one reduction leaves calls around the redex, a thousand at most
pub red_goes_on : (s : Stores) (page : PageId) (t : Evaluation) → CallsStandAround t.expr → calls_around t.expr ≤ MOST_CALLS → GoesOnUnlessFault t (Red s page t)
unfolding Red
red_goes_on s page t h few =
    let e = redex t.expr in let calls = calls_around t.expr in let a = innermost t.base t.expr in
    put_goes_on t (reduced s page a calls e (read_redex e)) h (reduced_placed s page a calls e (read_redex e) few (redex-around t.expr h))
