-- The tasks after an input are valid.
use Rattle.std.proofs.Common.{◌≡◌, ℕ, ◌<◌, Bool, true, false, cond, Option, Some, None, List, [], ◌∷◌, map, length, slice_get, All, refl, arith}
use Rattle.std.specs.Str.{IsUtf8}
use Rattle.std.specs.FinMap as finmap
use Rattle.std.proofs.lemmas.List.Elements.{All-nil, All-cons, All-append, All-map, All-weaker}
use Rattle.ff_confinement.specs.Turns.{Stepped}
use Rattle.ff_name.specs.Spelling.{IsDomain}
use Rattle.ff_name.specs.declared.urls.Url.{Url}
use Rattle.ff_name.specs.declared.urls.Url.TheVariants as url
use Rattle.ff_value.specs.Spelled.{IsWellSpelledResp, IsWellSpelledAct, IsWellSpelledInput}
use Rattle.ff_value.specs.Weight.{resp_weight}
use Rattle.ff_value.specs.declared.ids.PageId.{PageId}
use Rattle.ff_value.specs.declared.ids.WinId.{WinId}
use Rattle.ff_value.specs.declared.ids.NodeId.{NodeId}
use Rattle.ff_value.specs.declared.input.Act.{Act}
use Rattle.ff_value.specs.declared.input.Act.TheVariants as act
use Rattle.ff_value.specs.declared.input.Input.{Input}
use Rattle.ff_value.specs.declared.output.Out.{Out}
use Rattle.ff_value.specs.declared.reply.Resp.{Resp}
use Rattle.ff_value.specs.declared.reply.Resp.TheVariants as resp
use Rattle.ff_value.specs.declared.value.Code.{Code}
use Rattle.ff_value.specs.declared.value.Val.{Val}
use Rattle.ff_value.specs.declared.value.Val.TheVariants as val
use Rattle.ff_term.specs.Running.{call_of}
use Rattle.ff_term.proofs.Calls.{call-around}
use Rattle.ff_machine.specs.declared.kinds.Kind.TheVariants as kind
use Rattle.ff_machine.specs.declared.records.Dst.{Dst}
use Rattle.ff_machine.specs.declared.records.Dst.TheVariants as dst
use Rattle.ff_machine.specs.declared.records.Pending.{Pending}
use Rattle.ff_machine.specs.Shapes.{url_of}
use Rattle.ff_machine.specs.Nodes.{no_node, node_at}
use Rattle.ff_machine.specs.Windows.{no_window, window_at, is_open, is_live}
use Rattle.ff_machine.specs.Net.{asked, answered}
use Rattle.ff_machine.specs.Stores as stores
use Rattle.ff_machine.specs.Stores.{Stores, may_weigh}
use Rattle.ff_machine.specs.State.{State, Step, nothing, with_stores, if_room, given, task_for, with_calls}
use Rattle.ff_machine.specs.Inputs.{user_window, user_node, page_in, goes, links, closes, types, clicks, call_handlers, load_reply, slot_body, call_value, deliver_to, deliver, entries_of, receive, perform, begin}
use Rattle.ff_machine.specs.Alone.{IsDst, IsNode, IsWindow, IsPending}
use Rattle.ff_machine.specs.References.{Made, made, NodeRefers, DstRefers}
use Rattle.ff_machine.specs.Valid.{IsCode, IsVal, IsStores, IsTask}
use Rattle.ff_laws.proofs.Answering.{answered_valid}
use Rattle.ff_laws.proofs.Asking.{PendingRefers, asked_each}
use Rattle.ff_laws.proofs.Cookies.{put_cookies_valid}
use Rattle.ff_laws.proofs.Growing.{dst_refers_grows}
use Rattle.ff_laws.proofs.Inputs.{IsReply, got_item, cookies_spelled, window_there, node_there}
use Rattle.ff_laws.proofs.Later.{both, MaybeLater, load, go}
use Rattle.ff_laws.proofs.LaterSteps.{close_window, opens, with_text, taken_out, put_cookies, weighed, fill_slot}
use Rattle.ff_laws.proofs.Simple.{weighed_valid}
use Rattle.ff_laws.proofs.Starting.{kept_twice}
use Rattle.ff_laws.proofs.TasksWorking.{AreTasks, tasks_stay, task_of}
use Rattle.ff_laws.proofs.Texts.{with_text_valid}

-- Tasks that call functions.

-- a call of a valid function with a valid value
call_task : (s : Stores) (page : PageId) (code : Code) (arg : Val) → page.0 < length s.windows.pages → IsCode (made s) code → IsVal (made s) arg → IsTask s (task_of s page (call_of code arg))
call_task s page code arg there is value = record { page = there; act = refl; running = (is, (value, tt)); around = call-around code arg; shallow = omega arith }

-- calls of valid functions of a page that was made
with_calls_tasks : (s : State) (page : PageId) (codes : List Code) (arg : Val) → page.0 < length s.stores.windows.pages → All (IsCode (made s.stores)) codes → IsVal (made s.stores) arg → AreTasks s
    → AreTasks (with_calls s page codes arg)
with_calls_tasks s page codes arg there valid value are =
    All-append (IsTask s.stores) s.tasks (map (λ code. task_for s page (call_of code arg)) codes) are
    (All-map (IsTask s.stores) (λ code. task_for s page (call_of code arg)) codes
    (All-weaker (IsCode (made s.stores)) (λ code. IsTask s.stores (task_for s page (call_of code arg))) (λ code is. call_task s.stores page code arg there is value) codes valid))

-- the handlers of a node are valid functions
handlers_valid : (s : Stores) (n : NodeId) → IsStores s → n.0 < length s.nodes → All (IsCode (made s)) (node_at s.nodes n).handlers
handlers_valid s n valid there =
    let node : IsNode (node_at s.nodes n) = valid.nodes.each n.0 no_node there in
    let refers : NodeRefers (made s) (node_at s.nodes n) = valid.refer.nodes n.0 no_node there in
    λ k d h. ((node.handlers k d h).spelled, refers.handlers k d h)

-- calls of the handlers of a node for a window's page
handlers_tasks : (s : State) (w : WinId) (n : NodeId) → IsStores s.stores → w.0 < length s.stores.windows.windows → n.0 < length s.stores.nodes → AreTasks s → AreTasks (call_handlers s w n)
handlers_tasks s w n valid shown there are =
    let window : IsWindow (length s.stores.windows.windows) (length s.stores.windows.pages) (window_at s.stores.windows w) = valid.windows.windows w.0 no_window shown in
    with_calls_tasks s (page_in s w) (node_at s.stores.nodes n).handlers (val.Node n) window.page (handlers_valid s.stores n valid there) (tt, there) are

-- Steps.

-- a step that is made where there is room leaves valid tasks
room_tasks : (s : State) (step : Option (Stepped Out Stores)) → MaybeLater s.stores step → AreTasks s → AreTasks (if_room s step).after
room_tasks s None later are = are
room_tasks s (Some step) later are = tasks_stay s.stores step.after later s.tasks are

-- what follows where there is something does
given_tasks : {X : Type 0} (s : State) (x : Option X) (f : X → Step) → AreTasks s → ((y : X) → x ≡ Some y → AreTasks (f y).after) → AreTasks (given s x f).after
given_tasks s None f are h = are
given_tasks s (Some x) f are h = h x refl

-- one of two steps does
one_step_tasks : (b : Bool) (x y : Step) → (b ≡ true → AreTasks x.after) → AreTasks y.after → AreTasks (cond b x y).after
one_step_tasks true x y g h = g refl
one_step_tasks false x y g h = h

-- Replies.

-- the value for a callback is valid
value_valid : (m : Made) (reply : Option Resp) → IsReply reply → IsVal m (call_value reply)
value_valid m (Some (resp.Data cookies text)) is = (is.spelled.1, tt)
value_valid m other is = (tt, tt)

-- a reply to a window leaves valid tasks
load_tasks : (s : State) (w : WinId) (u : Url) (reply : Option Resp) → AreTasks s → AreTasks (load_reply s w u reply).after
load_tasks s w u (Some (resp.Page cookies docs)) are =
    one_step_tasks (is_open s.stores.windows w) (if_room s (stores.load s.stores w u docs)) (nothing s) (λ shown. room_tasks s (stores.load s.stores w u docs) (load s.stores w u docs) are) are
load_tasks s w u other are = are

-- a reply to any destination does
deliver_tasks : (s : State) (u : Url) (reply : Option Resp) (d : Dst) → IsReply reply → IsDst d → DstRefers (made s.stores) d → AreTasks s → AreTasks (deliver_to s u reply d).after
deliver_tasks s u reply (dst.Window w) is spelled there are = load_tasks s w u reply are
deliver_tasks s u reply (dst.Slot page slot) is spelled there are =
    let filled = stores.fill_slot s.stores page slot (slot_body reply) in
    one_step_tasks (is_live s.stores.windows page) _ (nothing s) (λ live. tasks_stay s.stores filled (fill_slot s.stores page slot (slot_body reply)) s.tasks are) are
deliver_tasks s u reply (dst.Call page code) is spelled there are =
    let m = made s.stores in
    one_step_tasks (is_live s.stores.windows page) _ (nothing s)
    (λ live. with_calls_tasks s page (code ∷ []) (call_value reply) there.0 (All-cons (IsCode m) code [] (spelled.spelled, there.1) (All-nil (IsCode m))) (value_valid m reply is) are) are

-- a reply that may count does
receive_tasks : (s : State) (domain : List ℕ) (r : Resp) (pending : Pending) → IsStores s.stores → IsDomain domain → IsWellSpelledResp r → IsPending pending → DstRefers (made s.stores) pending.dst → AreTasks s
    → AreTasks (receive s domain r pending).after
receive_tasks s domain r pending valid is_domain is asked_is refers are =
    let heavier = stores.weighed s.stores (resp_weight r) in
    let counted = stores.put_cookies heavier domain (entries_of r) in
    let t = with_stores s counted in
    let from = url.At domain pending.uri in
    one_step_tasks (may_weigh s.stores (resp_weight r)) (deliver t domain pending (Some r)) (deliver s domain pending None)
    (λ may.
    let first = weighed_valid s.stores (resp_weight r) valid may in
    let second = put_cookies_valid heavier domain (entries_of r) first.stores is_domain (cookies_spelled r is.spelled) in
    let grows = (kept_twice s.stores heavier counted first second).grows in
    let later = both s.stores heavier counted (weighed s.stores (resp_weight r)) (put_cookies heavier domain (entries_of r)) in
    deliver_tasks t from (Some r) pending.dst is asked_is.dst (dst_refers_grows (made s.stores) (made counted) grows pending.dst refers) (tasks_stay s.stores counted later s.tasks are))
    (deliver_tasks s from None pending.dst tt asked_is.dst refers are)

-- a reply to a pending request, if there is one, does
reply_tasks : (s : State) (domain : List ℕ) (k : ℕ) (r : Resp) (o : Option Pending) → slice_get (asked s.stores.requests domain) k ≡ o → IsStores s.stores → IsDomain domain → IsWellSpelledResp r → AreTasks s
    → AreTasks (given s (stores.taken_out s.stores domain k o) (λ t. receive (with_stores s t.1) domain r t.0)).after
reply_tasks s domain k r None e valid is_domain is are = are
reply_tasks s domain k r (Some pending) e valid is_domain is are =
    let t : Stores = record s.stores { requests = answered s.stores.requests domain k } in
    let asks = asked s.stores.requests domain in
    receive_tasks (with_stores s t) domain r pending (answered_valid s.stores domain k valid).stores is_domain is
    (got_item IsPending asks k pending e (asked_each s.stores.requests domain (finmap.get s.stores.requests domain) refl valid.requests))
    (got_item (PendingRefers (made s.stores)) asks k pending e (valid.refer.requests domain))
    (tasks_stay s.stores t (taken_out s.stores domain k (Some pending)) s.tasks are)

-- Acts.

-- text that the user types leaves valid tasks
typed_tasks : (s : State) (w : WinId) (m : NodeId) (text : List ℕ) → IsStores s.stores → w.0 < length s.stores.windows.windows → m.0 < length s.stores.nodes → IsUtf8 text → AreTasks s
    → AreTasks (given s (stores.type_text s.stores m text) (λ t. nothing (call_handlers (with_stores s t) w m))).after
typed_tasks s w m text valid shown there is are = by (may_weigh s.stores (length text)) refl where
  by : (b : Bool) → may_weigh s.stores (length text) ≡ b → AreTasks (given s (cond b (Some (stores.with_text s.stores m text)) None) (λ t. nothing (call_handlers (with_stores s t) w m))).after
  by true may =
      let t = stores.with_text s.stores m text in
      let keeps = with_text_valid s.stores m text valid there is may in
      handlers_tasks (with_stores s t) w m keeps.stores (omega (arith, shown, keeps.grows.wins)) (omega (arith, there, keeps.grows.nodes))
      (tasks_stay s.stores t (with_text s.stores m text) s.tasks are)
  by false may = are

-- a well spelled act leaves valid tasks
perform_tasks : (s : State) (a : Act) → IsStores s.stores → IsWellSpelledAct a → AreTasks s → AreTasks (perform s a).after
perform_tasks s (act.Opens u) valid is are = tasks_stay s.stores (stores.opens s.stores u).after (opens s.stores u) s.tasks are
perform_tasks s (act.Goes at u) valid is are = given_tasks s (user_window s at) (goes s u) are (λ w e. room_tasks s (stores.go s.stores w u) (go s.stores w u) are)
perform_tasks s (act.Links at n) valid is are =
    given_tasks s (user_window s at) (links s n) are (λ w e.
    given_tasks s (user_node s w kind.Link n) _ are (λ m f.
    given_tasks s (url_of (node_at s.stores.nodes m).shape) (λ u. goes s u w) are (λ u g. room_tasks s (stores.go s.stores w u) (go s.stores w u) are)))
perform_tasks s (act.Closes at) valid is are =
    given_tasks s (user_window s at) (closes s) are (λ w e. tasks_stay s.stores (stores.close_window s.stores w).after (close_window s.stores w) s.tasks are)
perform_tasks s (act.Types at n text) valid is are =
    given_tasks s (user_window s at) (types s n text) are (λ w e.
    let shown = window_there s valid at w e in
    given_tasks s (user_node s w kind.TextBox n) _ are (λ m f. typed_tasks s w m text valid shown (node_there s valid w kind.TextBox n m shown f) is.2 are))
perform_tasks s (act.Clicks at n) valid is are =
    given_tasks s (user_window s at) (clicks s n) are (λ w e.
    let shown = window_there s valid at w e in
    given_tasks s (user_node s w kind.Button n) _ are (λ m f. handlers_tasks s w m valid shown (node_there s valid w kind.Button n m shown f) are))
perform_tasks s (act.Replies domain k r) valid is are = reply_tasks s domain k r (slice_get (asked s.stores.requests domain) k) refl valid is.0 is.2 are

-- taking a well spelled input leaves valid tasks
pub begin_tasks : (s : State) (i : Input) → IsStores s.stores → IsWellSpelledInput i → AreTasks s → AreTasks (begin s i).after
unfolding begin
begin_tasks s i valid is are = perform_tasks (record s { fuel = s.budget; quiet = false }) i.act valid is are
