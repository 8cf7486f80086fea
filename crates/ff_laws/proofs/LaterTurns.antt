-- A turn leaves later stores, and so does all that an input brings about.
use Rattle.std.proofs.Common.{◌≡◌, ℕ, zero, suc, Bool, true, false, cond, Option, Some, None, List, [], ◌∷◌, refl, sym, subst}
use Rattle.std.specs.Prelude.{⊤}
use Rattle.ff_confinement.specs.Runs.{Handled}
use Rattle.ff_confinement.specs.Turns.{Stepped, settle, machine_of}
use Rattle.ff_tree.specs.declared.tree.Expr.{Expr}
use Rattle.ff_name.specs.declared.urls.Url.{Url}
use Rattle.ff_name.specs.declared.urls.Url.TheVariants as url
use Rattle.ff_value.specs.Weight.{resp_weight}
use Rattle.ff_value.specs.declared.ids.PageId.{PageId}
use Rattle.ff_value.specs.declared.ids.WinId.{WinId}
use Rattle.ff_value.specs.declared.ids.NodeId.{NodeId}
use Rattle.ff_value.specs.declared.input.Act.{Act}
use Rattle.ff_value.specs.declared.input.Act.TheVariants as act
use Rattle.ff_value.specs.declared.input.Input.{Input}
use Rattle.ff_value.specs.declared.output.Out.{Out}
use Rattle.ff_value.specs.declared.reply.Resp.{Resp}
use Rattle.ff_value.specs.declared.reply.Resp.TheVariants as resp
use Rattle.ff_machine.specs.declared.reduced.Reduced.{Reduced}
use Rattle.ff_machine.specs.declared.reduced.Reduced.TheVariants as answer
use Rattle.ff_machine.specs.declared.records.Dst.{Dst}
use Rattle.ff_machine.specs.declared.records.Dst.TheVariants as dst
use Rattle.ff_machine.specs.declared.records.Pending.{Pending}
use Rattle.ff_machine.specs.declared.kinds.Kind.TheVariants as kind
use Rattle.ff_machine.specs.Shapes.{url_of}
use Rattle.ff_machine.specs.Nodes.{node_at}
use Rattle.ff_machine.specs.Windows.{is_live, is_open}
use Rattle.ff_machine.specs.Stores as stores
use Rattle.ff_machine.specs.Stores.{Stores, may_weigh, weighed}
use Rattle.ff_machine.specs.Reduction.{Reduction, reduction}
use Rattle.ff_machine.specs.State.{State, Step, Task, nothing, with_stores, if_room, given}
use Rattle.ff_machine.specs.Inputs.{user_window, user_node, goes, links, closes, types, clicks, call_handlers, load_reply, slot_body, deliver_to, deliver, entries_of, receive, perform, begin}
use Rattle.ff_machine.specs.Turns.{Worked, work, go_on, gone, script_work, work_of, next_work, spend, turn_of, turn}
use Rattle.ff_machine.specs.Machine.{reactor}
use Rattle.ff_machine.specs.References.{Grows, made}
use Rattle.ff_laws.specs.Later.{AreLater}
use Rattle.ff_laws.proofs.Later.{unchanged, both, MaybeLater, load, go, later_grows}
use Rattle.ff_laws.proofs.LaterSteps.{close_window, opens, SomeLater, type_text, TakenLater, take_answer, take_ready, put_cookies, weighed as weighed_later, fill_slot, settle as settle_stores}
use Rattle.ff_laws.proofs.LaterReduction.{reduction_later}

-- Tasks.

go_on_later : (s : Stores) (task : Task) (r : Reduction) (a : Reduced) → AreLater s r.after → AreLater s (go_on s task r a).after
go_on_later s task r answer.Moved h = h
go_on_later s task r (answer.Done v) h = unchanged s
go_on_later s task r (answer.Failed f) h = unchanged s

one_worked : (s : Stores) (b : Bool) (x y : Worked) → AreLater s x.after → AreLater s y.after → AreLater s (cond b x y).after
one_worked s true x y g h = g
one_worked s false x y g h = h

-- work on a task leaves later stores
pub work_later : (s : Stores) (task : Task) → AreLater s (work s task).after
work_later s task =
    let r = reduction s task.page task.running in
    one_worked s (is_live s.windows task.page) (go_on s task r r.answer) (gone s []) (go_on_later s task r r.answer (reduction_later s task.page task.running)) (unchanged s)

-- Turns.

-- what is done next, if anything is, in a state with these stores
abbrev WorkLater : Stores → Option (State → Step) → Type 0
WorkLater s None = ⊤
WorkLater s (Some f) = (t : State) → t.stores ≡ s → AreLater s (f t).after.stores

script_later : (s : Stores) (script : Option ((PageId × Expr) × Stores)) → TakenLater s script → WorkLater s (script_work script)
script_later s None h = tt
script_later s (Some taken) h = λ t e. h

work_of_later : (s : Stores) (tasks : List Task) (script : Option ((PageId × Expr) × Stores)) → TakenLater s script → WorkLater s (work_of tasks script)
work_of_later s [] script h = script_later s script h
work_of_later s (task ∷ tasks) script h = λ t e. subst (λ (x : Stores). AreLater s (work x task).after) (sym e) (work_later s task)

spend_later : (s : State) (fuel : ℕ) (f : State → Step) → ((t : State) → t.stores ≡ s.stores → AreLater s.stores (f t).after.stores) → AreLater s.stores (spend s fuel f).after.stores
spend_later s zero f h = settle_stores s.stores
spend_later s (suc fuel) f h = h (record s { fuel = fuel }) refl

turn_of_later : (s : State) (f : Option (State → Step)) → WorkLater s.stores f → AreLater s.stores (turn_of s f).after.stores
turn_of_later s None h = settle_stores s.stores
turn_of_later s (Some f) h = spend_later s s.fuel f h

-- a turn leaves later stores
pub turn_later : (s : State) → AreLater s.stores (turn s).after.stores
unfolding turn
turn_later s = turn_of_later s (next_work s) (work_of_later s.stores s.tasks (stores.take_ready s.stores) (take_ready s.stores))

-- Inputs.

-- what follows in a state: its stores are later, and only its tasks are others
record IsChanged (s t : State) : Type 0 where
  pub later : AreLater s.stores t.stores
  pub budget : t.budget ≡ s.budget
  pub quiet : t.quiet ≡ s.quiet

changed : (s : State) (t : Stores) (tasks : List Task) → AreLater s.stores t → IsChanged s (record s { stores = t; tasks = tasks })
changed s t tasks h = record { later = h; budget = refl; quiet = refl }

alike : (s : State) → IsChanged s s
alike s = record { later = unchanged s.stores; budget = refl; quiet = refl }

over : (s : State) (t : Stores) (u : State) → AreLater s.stores t → IsChanged (with_stores s t) u → IsChanged s u
over s t u g h = record { later = both s.stores t u.stores g h.later; budget = h.budget; quiet = h.quiet }

room_later : (s : State) (step : Option (Stepped Out Stores)) → MaybeLater s.stores step → IsChanged s (if_room s step).after
room_later s None h = alike s
room_later s (Some step) h = changed s step.after s.tasks h

given_later : {X : Type 0} (s : State) (x : Option X) (f : X → Step) → ((x : X) → IsChanged s (f x).after) → IsChanged s (given s x f).after
given_later s None f h = alike s
given_later s (Some x) f h = h x

one_step : (s : State) (b : Bool) (x y : Step) → IsChanged s x.after → IsChanged s y.after → IsChanged s (cond b x y).after
one_step s true x y g h = g
one_step s false x y g h = h

load_later : (s : State) (w : WinId) (u : Url) (reply : Option Resp) → IsChanged s (load_reply s w u reply).after
load_later s w u (Some (resp.Page cookies docs)) =
    one_step s (is_open s.stores.windows w) (if_room s (stores.load s.stores w u docs)) (nothing s) (room_later s (stores.load s.stores w u docs) (load s.stores w u docs)) (alike s)
load_later s w u other = alike s

deliver_later : (s : State) (u : Url) (reply : Option Resp) (d : Dst) → IsChanged s (deliver_to s u reply d).after
deliver_later s u reply (dst.Window w) = load_later s w u reply
deliver_later s u reply (dst.Slot page slot) = one_step s (is_live s.stores.windows page) _ (nothing s) (changed s _ s.tasks (fill_slot s.stores page slot (slot_body reply))) (alike s)
deliver_later s u reply (dst.Call page code) = one_step s (is_live s.stores.windows page) _ (nothing s) (changed s s.stores _ (unchanged s.stores)) (alike s)

receive_later : (s : State) (domain : List ℕ) (r : Resp) (pending : Pending) → IsChanged s (receive s domain r pending).after
receive_later s domain r pending =
    let heavier = weighed s.stores (resp_weight r) in
    let counted = stores.put_cookies heavier domain (entries_of r) in
    let t = with_stores s counted in
    one_step s (may_weigh s.stores (resp_weight r)) (deliver t domain pending (Some r)) (deliver s domain pending None)
    (over s counted (deliver t domain pending (Some r)).after
    (both s.stores heavier counted (weighed_later s.stores (resp_weight r)) (put_cookies heavier domain (entries_of r)))
    (deliver_later t (url.At domain pending.uri) (Some r) pending.dst))
    (deliver_later s (url.At domain pending.uri) None pending.dst)

reply_later : (s : State) (domain : List ℕ) (r : Resp) (taken : Option (Pending × Stores)) → TakenLater s.stores taken
    → IsChanged s (given s taken (λ t. receive (with_stores s t.1) domain r t.0)).after
reply_later s domain r None h = alike s
reply_later s domain r (Some taken) h = over s taken.1 (receive (with_stores s taken.1) domain r taken.0).after h (receive_later (with_stores s taken.1) domain r taken.0)

typed_later : (s : State) (w : WinId) (m : NodeId) (t : Option Stores) → SomeLater s.stores t → IsChanged s (given s t (λ t. nothing (call_handlers (with_stores s t) w m))).after
typed_later s w m None h = alike s
typed_later s w m (Some t) h = changed s t _ h

perform_later : (s : State) (a : Act) → IsChanged s (perform s a).after
perform_later s (act.Opens u) = changed s _ s.tasks (opens s.stores u)
perform_later s (act.Goes at u) = given_later s (user_window s at) (goes s u) (λ w. room_later s (stores.go s.stores w u) (go s.stores w u))
perform_later s (act.Links at n) =
    given_later s (user_window s at) (links s n) (λ w.
    given_later s (user_node s w kind.Link n) _ (λ m.
    given_later s (url_of (node_at s.stores.nodes m).shape) (λ u. goes s u w) (λ u. room_later s (stores.go s.stores w u) (go s.stores w u))))
perform_later s (act.Closes at) = given_later s (user_window s at) (closes s) (λ w. changed s _ s.tasks (close_window s.stores w))
perform_later s (act.Types at n text) =
    given_later s (user_window s at) (types s n text) (λ w.
    given_later s (user_node s w kind.TextBox n) _ (λ m. typed_later s w m (stores.type_text s.stores m text) (type_text s.stores m text)))
perform_later s (act.Clicks at n) =
    given_later s (user_window s at) (clicks s n) (λ w.
    given_later s (user_node s w kind.Button n) _ (λ m. changed s s.stores _ (unchanged s.stores)))
perform_later s (act.Replies domain k r) = reply_later s domain r (stores.take_answer s.stores domain k) (take_answer s.stores domain k)

-- taking an input leaves later stores
pub begin_later : (s : State) (i : Input) → AreLater s.stores (begin s i).after.stores
unfolding begin
begin_later s i = (perform_later (record s { fuel = s.budget; quiet = false }) i.act).later

-- an input that was taken is not handled yet
pub begin_busy : (s : State) (i : Input) → (begin s i).after.quiet ≡ false
unfolding begin
begin_busy s i = (perform_later (record s { fuel = s.budget; quiet = false }) i.act).quiet

-- what an input brings stays as it is
pub begin_budget : (s : State) (i : Input) → (begin s i).after.budget ≡ s.budget
unfolding begin
begin_budget s i = (perform_later (record s { fuel = s.budget; quiet = false }) i.act).budget

-- Whole inputs.

one_handled : (s : Stores) (b : Bool) (x y : Handled Out State) → AreLater s x.after.stores → AreLater s y.after.stores → AreLater s (cond b x y).after.stores
one_handled s true x y g h = g
one_handled s false x y g h = h

settled : (budget most : ℕ) (s : State) → AreLater s.stores (settle (reactor budget) most s).after.stores
settled budget zero s = unchanged s.stores
settled budget (suc most) s =
    let t = (turn s).after in
    one_handled s.stores s.quiet (record { outputs = []; after = s; turns = 0 }) _ (unchanged s.stores)
    (both s.stores t.stores (settle (reactor budget) most t).after.stores (turn_later s) (settled budget most t))

-- handling an input leaves later stores
pub handled_later : (budget most : ℕ) (s : State) (i : Input) → AreLater s.stores ((machine_of (reactor budget) most).handle s i).after.stores
handled_later budget most s i =
    let t = (begin s i).after in
    both s.stores t.stores (settle (reactor budget) most t).after.stores (begin_later s i) (settled budget most t)

-- handling an input makes things, and unmakes none
pub counts_grow : (budget most : ℕ) (s : State) (i : Input) → Grows (made s.stores) (made ((machine_of (reactor budget) most).handle s i).after.stores)
counts_grow budget most s i = later_grows s.stores ((machine_of (reactor budget) most).handle s i).after.stores (handled_later budget most s i)
