-- What becomes of a valid redex in valid stores is valid, where that holds of trees and operators.
use Rattle.std.proofs.Common.{◌≡◌, ℕ, ◌<◌, Bool, true, false, cond, not, eqb, leb, Option, Some, None, Result, Ok, Err, List, [], ◌∷◌, ◌++◌, length, All, arith, refl, length-append}
use Rattle.ff_tree.specs.Spelled.{IsWellSpelledDoc}
use Rattle.ff_tree.specs.declared.tree.Doc.{Doc}
use Rattle.ff_tree.specs.declared.op.Op.{Op}
use Rattle.ff_value.specs.declared.fault.Fault.{Fault}
use Rattle.ff_value.specs.declared.fault.Fault.TheVariants as fault
use Rattle.ff_value.specs.declared.ids.ActId.{ActId}
use Rattle.ff_value.specs.declared.ids.PageId.{PageId}
use Rattle.ff_value.specs.declared.value.Code.{Code}
use Rattle.ff_value.specs.declared.value.Val.{Val}
use Rattle.ff_value.specs.declared.value.Val.TheVariants as val
use Rattle.ff_term.specs.Running.{Running, Evaluation, redex, innermost, is_value}
use Rattle.ff_term.specs.Calls.{calls_around}
use Rattle.ff_term.specs.Redexes.{read_redex}
use Rattle.ff_term.specs.declared.TheConstants.{MOST_CALLS}
use Rattle.ff_term.specs.Redex.{Redex}
use Rattle.ff_term.specs.Redex as read
use Rattle.ff_term.proofs.Keeping.{branch-meets, redex-meets}
use Rattle.ff_term.proofs.Redexes.{redex-is-read}
use Rattle.ff_machine.specs.Windows as windows
use Rattle.ff_machine.specs.Windows.{Activation}
use Rattle.ff_machine.specs.Stores.{Stores, nothing}
use Rattle.ff_machine.specs.Operators.{Outcome, operate, unless, does}
use Rattle.ff_machine.specs.Reduction.{Became, Red, put_back, reduced, of_outcome, choose, call, entered, enter_fault, or_fault, with_acts, variable, declare, assign, make_tree}
use Rattle.ff_machine.specs.References.{made}
use Rattle.ff_machine.specs.Valid.{IsVal, IsCode, IsRunning, IsRedex, IsStores, valid}
use Rattle.ff_laws.specs.Keeps.{Keeps}
use Rattle.ff_laws.specs.Reduced.{KeepsUnlessFault, IsGood, MovesUnlessFault}
use Rattle.ff_laws.proofs.Growing.{val_grows}
use Rattle.ff_laws.proofs.Redexes.{local_valid, rewritten_valid, source_valid, redex_valid, innermost_lives}
use Rattle.ff_laws.proofs.Acts.{declared_valid, assigned_valid, looked_up_valid}
use Rattle.ff_laws.proofs.Calling.{called_valid}
use Rattle.ff_laws.proofs.Starting.{kept}

outcome_good : (s : Stores) (o : Outcome) → KeepsUnlessFault s o → IsGood s (of_outcome o)
outcome_good s (Ok did) h = record { keeps = h.keeps; part = h.value }
outcome_good s (Err f) h = tt

choose_good : (s : Stores) (v : Val) (e : Running) → IsStores s → IsRunning (made s) e → IsGood s (choose s v e)
choose_good s (val.Bool b) e valid_s is = record { keeps = kept s valid_s; part = branch-meets (valid (made s)) b e is }
choose_good s other e valid_s is = tt

variable_good : (s : Stores) (o : Option Val) → IsStores s → ((v : Val) → o ≡ Some v → IsVal (made s) v) → KeepsUnlessFault s (variable s o)
variable_good s None valid_s is = tt
variable_good s (Some v) valid_s is = record { keeps = kept s valid_s; value = is v refl }

-- a value, and activations that keep the stores
pub set_good : (s : Stores) (acts : List Activation) (v : Val) (why : Option Fault) → IsVal (made s) v → (why ≡ None → Keeps s (with_acts s acts))
    → KeepsUnlessFault s (unless why (does v (nothing (with_acts s acts))))
set_good s acts v (Some f) is keeps = tt
set_good s acts v None is keeps = let done = keeps refl in record { keeps = done; value = val_grows (made s) (made (with_acts s acts)) done.grows v is }

-- there is room where nothing keeps a function from being called
room_of : (a b : Bool) (f g : Fault) (o : Option Fault) → cond a (Some f) (cond b (Some g) o) ≡ None → o ≡ None
room_of true b f g o e = cc
room_of false true f g o e = cc
room_of false false f g o e = e

next_made : (acts : List Activation) (act : Activation) → length acts < length (acts ++ act ∷ [])
next_made acts act = omega (arith, length-append acts (act ∷ []))

entered_good : (s : Stores) (code : Code) (args : List Val) (why : Option Fault) → IsStores s → IsCode (made s) code → All (IsVal (made s)) args
    → (why ≡ None → windows.call_fault s.windows.acts (length code.params) ≡ None) → IsGood s (or_fault why (entered s code args))
entered_good s code args (Some f) valid_s is values room = tt
entered_good s code args None valid_s is values room =
    let m = made (with_acts s (windows.with_act s.windows.acts code.env code.params args)) in
    record {
      keeps = called_valid s code.env code.params args valid_s is.1 is.0.params values (room refl);
      part = (next_made s.windows.acts _, source_valid m code.body is.0.body);
    }

call_good : (s : Stores) (calls : ℕ) (v : Val) (args : List Val) → IsStores s → IsVal (made s) v → All (IsVal (made s)) args → IsGood s (call s calls v args)
call_good s calls (val.Code code) args valid_s is values =
    entered_good s code args (enter_fault s calls code args) valid_s is values
    (room_of (not (eqb (length code.params) (length args))) (leb MOST_CALLS calls) fault.Kind fault.Depth (windows.call_fault s.windows.acts (length code.params)))
call_good s calls other args valid_s is values = tt

module _ (s : Stores) (valid_s : IsStores s) (page : PageId) (a : ActId) (lives : a.0 < length s.windows.acts)
    (trees : (doc : Doc) → IsWellSpelledDoc doc → KeepsUnlessFault s (make_tree s a doc))
    (operators : (op : Op) (vs : List Val) → IsRedex (made s) (read.Prim op vs) → KeepsUnlessFault s (operate s page op vs)) where
  -- what a valid redex, which is e, becomes
  pub reduced_valid : (calls : ℕ) (e : Running) (r : Redex) → IsRunning (made s) e → IsRedex (made s) r → IsGood s (reduced s page a calls e r)
  reduced_valid calls e read.Local is h = record { keeps = kept s valid_s; part = local_valid (made s) e is }
  reduced_valid calls e (read.Test v) is h = choose_good s v e valid_s is
  reduced_valid calls e (read.Apply v vs) is h = call_good s calls v vs valid_s h.0 h.1
  reduced_valid calls e (read.Var x) is h =
      let acts = s.windows.acts in
      outcome_good s (variable s (windows.lookup acts a x))
      (variable_good s (windows.lookup acts a x) valid_s (λ v found. looked_up_valid (made s) acts x (windows.holder acts a x) v valid_s.windows.acts valid_s.refer.acts found))
  reduced_valid calls e (read.Let x v) is h =
      let acts = s.windows.acts in
      outcome_good s (declare s a x v) (set_good s (windows.set_var acts a x v) v (windows.declare_fault acts a x) h.1 (declared_valid s a x v valid_s lives h.0 h.1))
  reduced_valid calls e (read.Set x v) is h =
      let o = windows.holder s.windows.acts a x in
      outcome_good s (assign s o x v) (set_good s (windows.assigned s.windows.acts o x v) v (windows.assign_fault o) h.1 (assigned_valid s a x v valid_s h.1))
  reduced_valid calls e (read.Make params body) is h = record { keeps = kept s valid_s; part = (record { params = h.0; body = h.1 }, lives) }
  reduced_valid calls e (read.Tree doc) is h = outcome_good s (make_tree s a doc) (trees doc h)
  reduced_valid calls e (read.Prim op vs) is h = outcome_good s (operate s page op vs) (operators op vs h)

put_good : (s : Stores) (t : Evaluation) (r : Result Became Fault) → IsGood s r → t.base.0 < length s.windows.acts → IsRunning (made s) t.expr → MovesUnlessFault s (put_back t r)
put_good s t (Ok b) h lives is = record {
  keeps = h.keeps;
  base = omega (arith, lives, h.keeps.grows.acts);
  running = rewritten_valid (made s) (made b.after) h.keeps.grows b.part t.expr h.part is;
}
put_good s t (Err f) h lives is = tt

-- one reduction keeps stores and the evaluation valid, if making trees and operators do
pub red_valid : (s : Stores) (page : PageId) (t : Evaluation) → IsStores s → t.base.0 < length s.windows.acts → IsRunning (made s) t.expr → is_value t.expr ≡ false
    → ((a : ActId) (doc : Doc) → a.0 < length s.windows.acts → IsWellSpelledDoc doc → KeepsUnlessFault s (make_tree s a doc))
    → ((op : Op) (vs : List Val) → IsRedex (made s) (read.Prim op vs) → KeepsUnlessFault s (operate s page op vs))
    → MovesUnlessFault s (Red s page t)
unfolding Red
red_valid s page t valid_s lives is unfinished trees operators =
    let e = redex t.expr in
    let a = innermost t.base t.expr in
    let there : a.0 < length s.windows.acts = innermost_lives (made s) t.base t.expr lives is in
    let good = redex_valid (made s) (read_redex e) t.expr (redex-is-read t.expr unfinished) is in
    put_good s t (reduced s page a (calls_around t.expr) e (read_redex e))
    (reduced_valid s valid_s page a there (λ doc h. trees a doc there h) operators (calls_around t.expr) e (read_redex e) (redex-meets (valid (made s)) t.expr is) good)
    lives is
