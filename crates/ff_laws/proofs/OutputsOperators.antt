-- Operators and reductions from valid stores put well spelled outputs.
use Rattle.std.proofs.Common.{◌≡◌, ℕ, Bool, true, false, cond, ◌&&◌, ◌==◌, nat_abs, Option, Some, None, Result, Ok, Err, List, [], ◌∷◌, length, All, refl}
use Rattle.std.specs.Prelude.{⊤}
use Rattle.std.specs.Str.{IsUtf8}
use Rattle.std.proofs.lemmas.List.Elements.{All-head, All-tail}
use Rattle.std.proofs.lemmas.Str.{IsUtf8-nil}
use Rattle.ff_confinement.specs.Turns.{Stepped}
use Rattle.ff_name.specs.Address.{IsWellSpelled}
use Rattle.ff_name.specs.Reading.{read_url}
use Rattle.ff_name.specs.declared.urls.Url.{Url}
use Rattle.ff_name.specs.declared.urls.Url.TheVariants as url
use Rattle.ff_tree.specs.declared.op.Op.{Op}
use Rattle.ff_tree.specs.declared.op.Op.TheVariants as op
use Rattle.ff_value.specs.declared.fault.Fault.{Fault}
use Rattle.ff_value.specs.declared.fault.Fault.TheVariants as fault
use Rattle.ff_value.specs.declared.ids.ActId.{ActId}
use Rattle.ff_value.specs.declared.ids.NodeId.{NodeId}
use Rattle.ff_value.specs.declared.ids.PageId.{PageId}
use Rattle.ff_value.specs.declared.ids.WinId.{WinId}
use Rattle.ff_value.specs.declared.output.Out.{Out}
use Rattle.ff_value.specs.declared.output.Out.TheVariants as out
use Rattle.ff_value.specs.declared.value.Code.{Code}
use Rattle.ff_value.specs.declared.value.Val.{Val}
use Rattle.ff_value.specs.declared.value.Val.TheVariants as val
use Rattle.ff_term.specs.Running.{Running, Evaluation, redex, innermost, is_value}
use Rattle.ff_term.specs.Calls.{calls_around}
use Rattle.ff_term.specs.Redexes.{read_redex}
use Rattle.ff_term.specs.Redex.{Redex}
use Rattle.ff_term.specs.Redex as read
use Rattle.ff_term.proofs.Redexes.{redex-is-read}
use Rattle.ff_operators.specs.declared.answer.Applied.{Applied}
use Rattle.ff_operators.specs.Operands.{with_operands, no_operands, one_str, two_strs, one_win, win_str, one_node, node_str, node_num, node_str_num, nodes_num, node_code, strs_code}
use Rattle.ff_operators.specs.Pure.{apply}
use Rattle.ff_machine.specs.declared.records.Dst.TheVariants as dst
use Rattle.ff_machine.specs.Shapes.{text_of}
use Rattle.ff_machine.specs.Nodes as nodes
use Rattle.ff_machine.specs.Nodes.{node_at, children}
use Rattle.ff_machine.specs.Windows as windows
use Rattle.ff_machine.specs.Windows.{is_open}
use Rattle.ff_machine.specs.Net as net
use Rattle.ff_machine.specs.Stores as stores
use Rattle.ff_machine.specs.Stores.{Stores}
use Rattle.ff_machine.specs.Operators as operators
use Rattle.ff_machine.specs.Operators.{Outcome, operate, unless, does_or_limit, with_mass}
use Rattle.ff_machine.specs.Reduction.{Became, Red, put_back, reduced, of_outcome, choose, call, entered, enter_fault, or_fault, variable, declare, assign, make_tree, tree_fault}
use Rattle.ff_machine.specs.References.{made}
use Rattle.ff_machine.specs.Valid.{IsVal, IsRunning, IsRedex, IsStores}
use Rattle.ff_laws.specs.Puts.{AreOuts, OutsUnlessFault, OutsIfMoved}
use Rattle.ff_laws.proofs.Operating.{read_spelled}
use Rattle.ff_laws.proofs.Redexes.{redex_valid}
use Rattle.ff_laws.proofs.OutputsSteps.{OutsIfMade, none_spelled, first_spelled, sent_spelled, made_spelled, send_spelled, go_spelled, closed_spelled, insert_spelled}

-- Operators.

-- what follows for operands
given_spelled : {X : Type 0} (o : Option X) (f : X → Outcome) → ((x : X) → OutsUnlessFault (f x)) → OutsUnlessFault (with_operands o f)
given_spelled None f h = tt
given_spelled (Some x) f h = h x

-- one of two outcomes
one_spelled_of : (b : Bool) (x y : Outcome) → OutsUnlessFault x → OutsUnlessFault y → OutsUnlessFault (cond b x y)
one_spelled_of true x y g h = g
one_spelled_of false x y g h = h

-- what is done unless there is a fault
unless_spelled : (why : Option Fault) (done : Outcome) → OutsUnlessFault done → OutsUnlessFault (unless why done)
unless_spelled None done h = h
unless_spelled (Some f) done h = tt

-- a step where there is room
limit_spelled : (v : Val) (step : Option (Stepped Out Stores)) → OutsIfMade step → OutsUnlessFault (does_or_limit v step)
limit_spelled v None h = tt
limit_spelled v (Some step) h = h

-- what is done with an open window
open_spelled : (s : Stores) (w : WinId) (done : Outcome) → OutsUnlessFault done → OutsUnlessFault (operators.if_open s w done)
open_spelled s w done h = one_spelled_of (is_open s.windows w) done (Err fault.Dead) h tt

-- what is done at an address that is read
url_spelled : (text : List ℕ) (f : Url → Outcome) → ((u : Url) → IsWellSpelled u → OutsUnlessFault (f u)) → OutsUnlessFault (operators.at_url (read_url text) f)
url_spelled text f h = by (read_url text) refl where
  by : (o : Option Url) → read_url text ≡ o → OutsUnlessFault (operators.at_url o f)
  by None e = tt
  by (Some u) e = h u (read_spelled text u e)

-- a pure operator puts nothing
massed_spelled : (s : Stores) (applied : Result Applied Fault) → OutsUnlessFault (with_mass s applied)
massed_spelled s (Ok applied) = none_spelled
massed_spelled s (Err f) = tt

module _ (s : Stores) (page : PageId) (valid : IsStores s) where
  -- a cookie that is set puts nothing
  set_cookie_spelled : (domain : Option (List ℕ)) (key value : List ℕ) → OutsUnlessFault (operators.set_cookie s domain key value)
  set_cookie_spelled None key value = tt
  set_cookie_spelled (Some d) key value = unless_spelled (net.cookie_fault s.jar d key value) (operators.becomes (record s { jar = net.cookie_put s.jar d key value })) none_spelled

  -- nor does one that is deleted
  del_cookie_spelled : (domain : Option (List ℕ)) (key : List ℕ) → OutsUnlessFault (operators.del_cookie s domain key)
  del_cookie_spelled None key = none_spelled
  del_cookie_spelled (Some d) key = none_spelled

  -- a window that opens at an address
  open_at_spelled : (name : Option (List ℕ)) (u : Url) → IsWellSpelled u → OutsUnlessFault (operators.open_at s page name u)
  open_at_spelled name url.Blank is =
      let opener = Some (operators.self_window s page) in
      limit_spelled (val.Win (windows.next_win s.windows)) (stores.open_window s name opener)
      (made_spelled (stores.has_window_room s) (stores.opened s name opener) (λ room. first_spelled out.Opened [] (record { spelled = tt; ordered = tt }) none_spelled))
  open_at_spelled name (url.At domain uri) is =
      let t = (stores.opened s name (Some (operators.self_window s page))).after in
      let to = dst.Window (windows.next_win s.windows) in
      one_spelled_of (stores.has_window_room s && stores.has_ask_room s domain) _ (Err fault.Limit)
      (first_spelled out.Opened (stores.sent t domain uri [] to).outputs (record { spelled = tt; ordered = tt }) (sent_spelled t domain uri [] to valid.jar is.0 is.1 IsUtf8-nil)) tt

  -- a window of a name that goes to an address or opens there
  open_named_spelled : (name : List ℕ) (u : Url) (w : Option WinId) → IsWellSpelled u → OutsUnlessFault (operators.open_named s page name u w)
  open_named_spelled name u None is = open_at_spelled (Some name) u is
  open_named_spelled name u (Some w) is = limit_spelled (val.Win w) (stores.go s w u) (go_spelled s w u valid is)

  -- the text of a node
  text_spelled : (t : Option (List ℕ)) → OutsUnlessFault (operators.text s t)
  text_spelled None = tt
  text_spelled (Some t) = none_spelled

  -- the child of a node
  child_spelled : (c : Option NodeId) → OutsUnlessFault (operators.child s c)
  child_spelled None = tt
  child_spelled (Some c) = none_spelled

  -- a body that is sent to an address
  ask_at_spelled : (body : List ℕ) (code : Code) (u : Url) → IsUtf8 body → IsWellSpelled u → OutsUnlessFault (operators.ask_at s page body code u)
  ask_at_spelled body code url.Blank is_body is = tt
  ask_at_spelled body code (url.At domain uri) is_body is =
      limit_spelled val.Null (stores.send s domain uri body (dst.Call page code)) (send_spelled s domain uri body (dst.Call page code) valid.jar is.0 is.1 is_body)

  -- a body that is sent, with its operands
  ask_spelled : (args : List Val) → All (IsVal (made s)) args → OutsUnlessFault (with_operands (strs_code args) (λ o. operators.ask s page o.0 o.1 o.2))
  ask_spelled (val.Str address ∷ val.Str body ∷ val.Code code ∷ []) are =
      let is = All-head (IsVal (made s)) (val.Str body) (val.Code code ∷ []) (All-tail (IsVal (made s)) (val.Str address) (val.Str body ∷ val.Code code ∷ []) are) in
      one_spelled_of (length code.params == 1) _ (Err fault.Kind) (url_spelled address _ (λ u spelled. ask_at_spelled body code u is.0 spelled)) tt
  ask_spelled other are = tt

  -- what an operator with valid operands puts
  pub operate_spelled : (o : Op) (args : List Val) → All (IsVal (made s)) args → OutsUnlessFault (operate s page o args)
  operate_spelled op.Cookie args are = given_spelled (one_str args) _ (λ key. none_spelled)
  operate_spelled op.SetCookie args are = given_spelled (two_strs args) _ (λ o. set_cookie_spelled (operators.page_domain s page) o.0 o.1)
  operate_spelled op.DelCookie args are = given_spelled (one_str args) _ (λ key. del_cookie_spelled (operators.page_domain s page) key)
  operate_spelled op.SelfWindow args are = given_spelled (no_operands args) _ (λ o. none_spelled)
  operate_spelled op.Opener args are = given_spelled (one_win args) _ (λ w. open_spelled s w _ none_spelled)
  operate_spelled op.Live args are = given_spelled (one_win args) _ (λ w. none_spelled)
  operate_spelled op.Url args are = given_spelled (one_win args) _ (λ w. open_spelled s w _ (massed_spelled s _))
  operate_spelled op.Page args are = given_spelled (one_win args) _ (λ w. open_spelled s w _ none_spelled)
  operate_spelled op.Window args are = given_spelled (one_str args) _ (λ name. none_spelled)
  operate_spelled op.Open args are = given_spelled (one_str args) _ (λ address. url_spelled address _ (λ u is. open_at_spelled None u is))
  operate_spelled op.OpenNamed args are = given_spelled (two_strs args) _ (λ o. url_spelled o.1 _ (λ u is. open_named_spelled o.0 u (windows.named s.windows o.0) is))
  operate_spelled op.Go args are =
      given_spelled (win_str args) _ (λ o. open_spelled s o.0 _ (url_spelled o.1 _ (λ u is. limit_spelled val.Null (stores.go s o.0 u) (go_spelled s o.0 u valid is))))
  operate_spelled op.Close args are = given_spelled (one_win args) _ (λ w. open_spelled s w _ (closed_spelled s w valid))
  operate_spelled op.Kind args are = given_spelled (one_node args) _ (λ n. none_spelled)
  operate_spelled op.Text args are = given_spelled (one_node args) _ (λ n. text_spelled (text_of (node_at s.nodes n).shape))
  operate_spelled op.SetText args are = given_spelled (node_str args) _ (λ o. unless_spelled (stores.set_text_fault s o.0 o.1) _ none_spelled)
  operate_spelled op.Count args are = given_spelled (one_node args) _ (λ n. none_spelled)
  operate_spelled op.Child args are = given_spelled (node_num args) _ (λ o. child_spelled (operators.item_at (children s.nodes o.0) o.1))
  operate_spelled op.Find args are = given_spelled (node_str args) _ (λ o. none_spelled)
  operate_spelled op.Nth args are = given_spelled (node_str_num args) _ (λ o. none_spelled)
  operate_spelled op.Insert args are = given_spelled (nodes_num args) _ (λ o. unless_spelled (nodes.insert_fault s.nodes o.0 o.1 o.2) _ (insert_spelled s o.0 o.1 (nat_abs o.2) valid))
  operate_spelled op.Listen args are = given_spelled (node_code args) _ (λ o. unless_spelled (nodes.handler_fault s.nodes o.0 o.1) _ none_spelled)
  operate_spelled op.Ask args are = ask_spelled args are
  operate_spelled pure args are = massed_spelled s (apply pure args s.mass)

-- One reduction.

-- each output of a redex that doesn't fail is well spelled
abbrev OutsIfBecame : Result Became Fault → Type 0
OutsIfBecame (Ok became) = AreOuts became.outputs
OutsIfBecame (Err f) = ⊤

-- what a redex that becomes a value puts
outcome_spelled : (o : Outcome) → OutsUnlessFault o → OutsIfBecame (of_outcome o)
outcome_spelled (Ok did) h = h
outcome_spelled (Err f) h = tt

-- the value of a variable
variable_spelled : (s : Stores) (v : Option Val) → OutsUnlessFault (variable s v)
variable_spelled s None = tt
variable_spelled s (Some v) = none_spelled

-- the branch of a test
choose_spelled : (s : Stores) (v : Val) (e : Running) → OutsIfBecame (choose s v e)
choose_spelled s (val.Bool b) e = none_spelled
choose_spelled s other e = tt

-- a function that is entered
entered_spelled : (s : Stores) (why : Option Fault) (code : Code) (args : List Val) → OutsIfBecame (or_fault why (entered s code args))
entered_spelled s None code args = none_spelled
entered_spelled s (Some f) code args = tt

-- a function that is called
call_spelled : (s : Stores) (calls : ℕ) (v : Val) (args : List Val) → OutsIfBecame (call s calls v args)
call_spelled s calls (val.Code code) args = entered_spelled s (enter_fault s calls code args) code args
call_spelled s calls other args = tt

-- what becomes of a valid redex
reduced_spelled : (s : Stores) (page : PageId) (a : ActId) (calls : ℕ) (e : Running) (r : Redex) → IsStores s → IsRedex (made s) r → OutsIfBecame (reduced s page a calls e r)
reduced_spelled s page a calls e read.Local valid is = none_spelled
reduced_spelled s page a calls e (read.Test v) valid is = choose_spelled s v e
reduced_spelled s page a calls e (read.Apply v vs) valid is = call_spelled s calls v vs
reduced_spelled s page a calls e (read.Var x) valid is = outcome_spelled _ (variable_spelled s (windows.lookup s.windows.acts a x))
reduced_spelled s page a calls e (read.Let x v) valid is = outcome_spelled (declare s a x v) (unless_spelled (windows.declare_fault s.windows.acts a x) _ none_spelled)
reduced_spelled s page a calls e (read.Set x v) valid is =
    let o = windows.holder s.windows.acts a x in
    outcome_spelled (assign s o x v) (unless_spelled (windows.assign_fault o) _ none_spelled)
reduced_spelled s page a calls e (read.Make params body) valid is = none_spelled
reduced_spelled s page a calls e (read.Tree doc) valid is = outcome_spelled (make_tree s a doc) (unless_spelled (tree_fault s a doc) _ none_spelled)
reduced_spelled s page a calls e (read.Prim o vs) valid is = outcome_spelled (operate s page o vs) (operate_spelled s page valid o vs is.1)

-- what a redex becomes, put in its place
back_spelled : (t : Evaluation) (became : Result Became Fault) → OutsIfBecame became → OutsIfMoved (put_back t became)
back_spelled t (Ok became) h = h
back_spelled t (Err f) h = tt

-- what one reduction of a valid evaluation puts
pub red_spelled : (s : Stores) (page : PageId) (t : Evaluation) → IsStores s → IsRunning (made s) t.expr → is_value t.expr ≡ false → OutsIfMoved (Red s page t)
unfolding Red
red_spelled s page t valid is unfinished =
    let e = redex t.expr in
    back_spelled t _ (reduced_spelled s page (innermost t.base t.expr) (calls_around t.expr) e (read_redex e) valid
    (redex_valid (made s) (read_redex e) t.expr (redex-is-read t.expr unfinished) is))
