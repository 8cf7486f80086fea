-- Turns and inputs from valid stores put well spelled outputs.
use Rattle.std.proofs.Common.{◌≡◌, ℕ, zero, suc, Bool, true, false, cond, Option, Some, None, Result, Ok, Err, List, [], ◌∷◌, slice_get, All, refl, sym, subst, arith}
use Rattle.std.specs.Prelude.{⊤}
use Rattle.std.specs.FinMap as finmap
use Rattle.std.proofs.lemmas.List.Elements.{All-head}
use Rattle.ff_confinement.specs.Turns.{Stepped}
use Rattle.ff_name.specs.Spelling.{IsDomain}
use Rattle.ff_name.specs.Address.{IsWellSpelled}
use Rattle.ff_name.specs.declared.urls.Url.{Url}
use Rattle.ff_name.specs.declared.urls.Url.TheVariants as url
use Rattle.ff_tree.specs.declared.tree.Expr.{Expr}
use Rattle.ff_value.specs.Spelled.{IsWellSpelledResp, IsWellSpelledAct, IsWellSpelledInput}
use Rattle.ff_value.specs.Weight.{resp_weight}
use Rattle.ff_value.specs.declared.ids.PageId.{PageId}
use Rattle.ff_value.specs.declared.ids.WinId.{WinId}
use Rattle.ff_value.specs.declared.input.Act.{Act}
use Rattle.ff_value.specs.declared.input.Act.TheVariants as act
use Rattle.ff_value.specs.declared.input.Input.{Input}
use Rattle.ff_value.specs.declared.fault.Fault.{Fault}
use Rattle.ff_value.specs.declared.output.Out.{Out}
use Rattle.ff_value.specs.declared.output.Out.TheVariants as out
use Rattle.ff_value.specs.declared.reply.Resp.{Resp}
use Rattle.ff_value.specs.declared.reply.Resp.TheVariants as resp
use Rattle.ff_value.specs.declared.value.Val.{Val}
use Rattle.ff_term.specs.Running.{value_of}
use Rattle.ff_machine.specs.declared.kinds.Kind.TheVariants as kind
use Rattle.ff_machine.specs.declared.records.Dst.{Dst}
use Rattle.ff_machine.specs.declared.records.Dst.TheVariants as dst
use Rattle.ff_machine.specs.declared.records.Pending.{Pending}
use Rattle.ff_machine.specs.Shapes.{url_of}
use Rattle.ff_machine.specs.Nodes.{node_at}
use Rattle.ff_machine.specs.Windows.{page_at, is_open, is_live}
use Rattle.ff_machine.specs.Net.{asked, answered}
use Rattle.ff_machine.specs.Stores as stores
use Rattle.ff_machine.specs.Stores.{Stores, may_weigh}
use Rattle.ff_machine.specs.Reduction.{Moved, Red, reduction, as_reduction}
use Rattle.ff_machine.specs.State.{State, Step, Task, nothing, with_stores, if_room, given}
use Rattle.ff_machine.specs.Inputs.{user_window, user_node, goes, links, closes, types, clicks, call_handlers, load_reply, deliver_to, deliver, entries_of, receive, perform, begin}
use Rattle.ff_machine.specs.Turns.{Worked, work, go_on, gone, script_work, work_of, next_work, spend, turn_of, turn}
use Rattle.ff_machine.specs.Alone.{IsPending}
use Rattle.ff_machine.specs.Valid.{IsStores, IsTask}
use Rattle.ff_laws.specs.Puts.{AreOuts, OutsIfMoved}
use Rattle.ff_laws.proofs.Answering.{answered_valid}
use Rattle.ff_laws.proofs.Asking.{asked_each}
use Rattle.ff_laws.proofs.Cookies.{put_cookies_valid}
use Rattle.ff_laws.proofs.Inputs.{IsReply, got_item, docs_spelled, cookies_spelled}
use Rattle.ff_laws.proofs.Simple.{weighed_valid}
use Rattle.ff_laws.proofs.Working.{unfinished}
use Rattle.ff_laws.proofs.OutputsRead.{place_fits}
use Rattle.ff_laws.proofs.OutputsSteps.{OutsIfMade, none_spelled, one_spelled, first_spelled, load_spelled, go_spelled, opens_spelled, closed_spelled, settle_spelled, addresses_spelled}
use Rattle.ff_laws.proofs.OutputsOperators.{red_spelled}

-- Turns.

-- a task that goes on as its reduction answers
worked_spelled : (s : Stores) (task : Task) (o : Option Val) (red : Result Moved Fault) → IsStores s → (o ≡ None → OutsIfMoved red)
    → AreOuts (go_on s task (as_reduction s task.running o red) (as_reduction s task.running o red).answer).outputs
worked_spelled s task (Some v) red valid h = none_spelled
worked_spelled s task None (Ok moved) valid h = h refl
worked_spelled s task None (Err f) valid h = let w = (page_at s.windows task.page).win in one_spelled (out.Error (stores.place s w) f) (record { spelled = place_fits s w valid; ordered = tt })

-- one of two works
one_worked : (b : Bool) (x y : Worked) → AreOuts x.outputs → AreOuts y.outputs → AreOuts (cond b x y).outputs
one_worked true x y g h = g
one_worked false x y g h = h

-- what work on a valid task puts
work_spelled : (s : Stores) (task : Task) → IsStores s → IsTask s task → AreOuts (work s task).outputs
unfolding reduction
work_spelled s task valid is =
    let r = reduction s task.page task.running in
    one_worked (is_live s.windows task.page) (go_on s task r r.answer) (gone s [])
    (worked_spelled s task (value_of task.running.expr) (Red s task.page task.running) valid
    (λ e. red_spelled s task.page task.running valid is.running (unfinished task.running.expr e)))
    none_spelled

-- what is done next, if anything is, in a state with these stores
abbrev WorkSpelled : Stores → Option (State → Step) → Type 0
WorkSpelled s None = ⊤
WorkSpelled s (Some f) = (t : State) → t.stores ≡ s → AreOuts (f t).outputs

-- a script that is taken out puts nothing
script_spelled : (s : Stores) (script : Option ((PageId × Expr) × Stores)) → WorkSpelled s (script_work script)
script_spelled s None = tt
script_spelled s (Some taken) = λ t e. none_spelled

-- the first task, or a script
work_of_spelled : (s : Stores) (tasks : List Task) (script : Option ((PageId × Expr) × Stores)) → IsStores s → All (IsTask s) tasks → WorkSpelled s (work_of tasks script)
work_of_spelled s [] script valid are = script_spelled s script
work_of_spelled s (task ∷ tasks) script valid are = λ t e. subst (λ (x : Stores). AreOuts (work x task).outputs) (sym e) (work_spelled s task valid (All-head (IsTask s) task tasks are))

-- one fuel that is spent, or the stop without any
spend_spelled : (s : State) (fuel : ℕ) (f : State → Step) → IsStores s.stores → ((t : State) → t.stores ≡ s.stores → AreOuts (f t).outputs) → AreOuts (spend s fuel f).outputs
spend_spelled s zero f valid h = first_spelled out.Stopped (stores.settle s.stores).outputs (record { spelled = tt; ordered = tt }) (settle_spelled s.stores valid)
spend_spelled s (suc fuel) f valid h = h (record s { fuel = fuel }) refl

-- what is done, or the settling
turn_of_spelled : (s : State) (f : Option (State → Step)) → IsStores s.stores → WorkSpelled s.stores f → AreOuts (turn_of s f).outputs
turn_of_spelled s None valid h = settle_spelled s.stores valid
turn_of_spelled s (Some f) valid h = spend_spelled s s.fuel f valid h

-- what a turn puts, where its tasks are valid
pub turn_spelled : (s : State) → IsStores s.stores → All (IsTask s.stores) s.tasks → AreOuts (turn s).outputs
unfolding turn
turn_spelled s valid are = turn_of_spelled s (next_work s) valid (work_of_spelled s.stores s.tasks (stores.take_ready s.stores) valid are)

-- Inputs.

-- a step that is made where there is room
room_spelled : (s : State) (step : Option (Stepped Out Stores)) → OutsIfMade step → AreOuts (if_room s step).outputs
room_spelled s None h = none_spelled
room_spelled s (Some step) h = h

-- what follows where there is something
given_spelled : {X : Type 0} (s : State) (x : Option X) (f : X → Step) → ((y : X) → x ≡ Some y → AreOuts (f y).outputs) → AreOuts (given s x f).outputs
given_spelled s None f h = none_spelled
given_spelled s (Some x) f h = h x refl

-- one of two steps
one_step : (b : Bool) (x y : Step) → (b ≡ true → AreOuts x.outputs) → AreOuts y.outputs → AreOuts (cond b x y).outputs
one_step true x y g h = g refl
one_step false x y g h = h

-- a reply that loads a page
loads : (s : State) (w : WinId) (u : Url) (reply : Option Resp) → IsStores s.stores → IsWellSpelled u → IsReply reply → AreOuts (load_reply s w u reply).outputs
loads s w u (Some (resp.Page cookies docs)) valid spelled is =
    let deep = is.shallow in
    one_step (is_open s.stores.windows w) (if_room s (stores.load s.stores w u docs)) (nothing s)
    (λ shown. room_spelled s (stores.load s.stores w u docs) (load_spelled s.stores w u docs valid spelled (docs_spelled docs is.spelled.1 (omega (arith, deep))))) none_spelled
loads s w u other valid spelled is = none_spelled

-- a reply that comes to its destination
delivers : (s : State) (u : Url) (reply : Option Resp) (d : Dst) → IsStores s.stores → IsWellSpelled u → IsReply reply → AreOuts (deliver_to s u reply d).outputs
delivers s u reply (dst.Window w) valid spelled is = loads s w u reply valid spelled is
delivers s u reply (dst.Slot page slot) valid spelled is = one_step (is_live s.stores.windows page) _ (nothing s) (λ live. none_spelled) none_spelled
delivers s u reply (dst.Call page code) valid spelled is = one_step (is_live s.stores.windows page) _ (nothing s) (λ live. none_spelled) none_spelled

-- a reply that is received
receives : (s : State) (domain : List ℕ) (r : Resp) (pending : Pending) → IsStores s.stores → IsDomain domain → IsWellSpelledResp r → IsPending pending → AreOuts (receive s domain r pending).outputs
receives s domain r pending valid is_domain is asked_is =
    let from = url.At domain pending.uri in
    let heavier = stores.weighed s.stores (resp_weight r) in
    let t = with_stores s (stores.put_cookies heavier domain (entries_of r)) in
    one_step (may_weigh s.stores (resp_weight r)) (deliver t domain pending (Some r)) (deliver s domain pending None)
    (λ may.
    let first = weighed_valid s.stores (resp_weight r) valid may in
    let second = put_cookies_valid heavier domain (entries_of r) first.stores is_domain (cookies_spelled r is.spelled) in
    delivers t from (Some r) pending.dst second.stores (is_domain, asked_is.uri) is)
    (delivers s from None pending.dst valid (is_domain, asked_is.uri) tt)

-- a reply to a pending request
replied : (s : State) (domain : List ℕ) (k : ℕ) (r : Resp) (o : Option Pending) → slice_get (asked s.stores.requests domain) k ≡ o → IsStores s.stores → IsDomain domain → IsWellSpelledResp r
    → AreOuts (given s (stores.taken_out s.stores domain k o) (λ t. receive (with_stores s t.1) domain r t.0)).outputs
replied s domain k r None e valid is_domain is = none_spelled
replied s domain k r (Some pending) e valid is_domain is =
    let t : Stores = record s.stores { requests = answered s.stores.requests domain k } in
    receives (with_stores s t) domain r pending (answered_valid s.stores domain k valid).stores is_domain is
    (got_item IsPending (asked s.stores.requests domain) k pending e (asked_each s.stores.requests domain (finmap.get s.stores.requests domain) refl valid.requests))

-- what a well spelled act puts
perform_spelled : (s : State) (a : Act) → IsStores s.stores → IsWellSpelledAct a → AreOuts (perform s a).outputs
perform_spelled s (act.Opens u) valid is = opens_spelled s.stores u valid.jar is
perform_spelled s (act.Goes at u) valid is = given_spelled s (user_window s at) (goes s u) (λ w e. room_spelled s (stores.go s.stores w u) (go_spelled s.stores w u valid is.1))
perform_spelled s (act.Links at n) valid is =
    given_spelled s (user_window s at) (links s n) (λ w e.
    given_spelled s (user_node s w kind.Link n) _ (λ m f.
    given_spelled s (url_of (node_at s.stores.nodes m).shape) (λ u. goes s u w) (λ u g.
    room_spelled s (stores.go s.stores w u) (go_spelled s.stores w u valid (addresses_spelled s.stores.nodes valid.nodes.each m u g)))))
perform_spelled s (act.Closes at) valid is = given_spelled s (user_window s at) (closes s) (λ w e. closed_spelled s.stores w valid)
perform_spelled s (act.Types at n text) valid is =
    given_spelled s (user_window s at) (types s n text) (λ w e.
    given_spelled s (user_node s w kind.TextBox n) _ (λ m f.
    given_spelled s (stores.type_text s.stores m text) (λ t. nothing (call_handlers (with_stores s t) w m)) (λ t g. none_spelled)))
perform_spelled s (act.Clicks at n) valid is =
    given_spelled s (user_window s at) (clicks s n) (λ w e. given_spelled s (user_node s w kind.Button n) _ (λ m f. none_spelled))
perform_spelled s (act.Replies domain k r) valid is = replied s domain k r (slice_get (asked s.stores.requests domain) k) refl valid is.0 is.2

-- what taking a well spelled input puts
pub begin_spelled : (s : State) (i : Input) → IsStores s.stores → IsWellSpelledInput i → AreOuts (begin s i).outputs
unfolding begin
begin_spelled s i valid is = perform_spelled (record s { fuel = s.budget; quiet = false }) i.act valid is
