-- Fuel: an input brings the browser's, and each turn spends some of it or is the last.
use Rattle.std.proofs.Common.{◌≡◌, ℕ, zero, suc, ◌+◌, ◌<◌, ◌⊎◌, inl, inr, Bool, true, false, cond, Option, Some, None, List, [], ◌∷◌, arith, refl, ◌∙◌}
use Rattle.std.specs.Prelude.{⊤}
use Rattle.ff_confinement.specs.Turns.{Stepped, machine_of, KeepsOk, IsFuelled}
use Rattle.ff_confinement.proofs.Turns.{handle_quiet, machine_handle_ok}
use Rattle.ff_tree.specs.declared.tree.Expr.{Expr}
use Rattle.ff_name.specs.declared.urls.Url.{Url}
use Rattle.ff_name.specs.declared.urls.Url.TheVariants as url
use Rattle.ff_value.specs.Weight.{resp_weight}
use Rattle.ff_value.specs.declared.ids.PageId.{PageId}
use Rattle.ff_value.specs.declared.ids.WinId.{WinId}
use Rattle.ff_value.specs.declared.input.Act.{Act}
use Rattle.ff_value.specs.declared.input.Act.TheVariants as act
use Rattle.ff_value.specs.declared.input.Input.{Input}
use Rattle.ff_value.specs.declared.output.Out.{Out}
use Rattle.ff_value.specs.declared.reply.Resp.{Resp}
use Rattle.ff_value.specs.declared.reply.Resp.TheVariants as resp
use Rattle.ff_machine.specs.declared.records.Dst.{Dst}
use Rattle.ff_machine.specs.declared.records.Dst.TheVariants as dst
use Rattle.ff_machine.specs.declared.records.Pending.{Pending}
use Rattle.ff_machine.specs.declared.kinds.Kind.TheVariants as kind
use Rattle.ff_machine.specs.Shapes.{url_of}
use Rattle.ff_machine.specs.Nodes.{node_at}
use Rattle.ff_machine.specs.Windows.{is_live, is_open}
use Rattle.ff_machine.specs.Stores as stores
use Rattle.ff_machine.specs.Stores.{Stores, may_weigh, weighed}
use Rattle.ff_machine.specs.State.{State, Step, Task, nothing, with_stores, if_room, given}
use Rattle.ff_machine.specs.Inputs.{user_window, user_node, goes, links, closes, types, clicks, call_handlers, load_reply, deliver_to, deliver, entries_of, receive, perform, begin}
use Rattle.ff_machine.specs.Turns.{script_work, work_of, next_work, spend, turn_of, turn}
use Rattle.ff_machine.specs.Machine.{reactor}

-- what the second state has of the first: the fuel that is left, what an input brings, and whether
-- it is quiet
record Like (s t : State) : Type 0 where
  pub fuel : t.fuel ≡ s.fuel
  pub budget : t.budget ≡ s.budget
  pub quiet : t.quiet ≡ s.quiet

alike : (s : State) → Like s s
alike s = record { fuel = refl; budget = refl; quiet = refl }

-- other stores and other tasks
changed : (s : State) (t : Stores) (tasks : List Task) → Like s (record s { stores = t; tasks = tasks })
changed s t tasks = record { fuel = refl; budget = refl; quiet = refl }

over : (s : State) (t : Stores) (u : State) → Like (with_stores s t) u → Like s u
over s t u like = record { fuel = like.fuel; budget = like.budget; quiet = like.quiet }

room_like : (s : State) (step : Option (Stepped Out Stores)) → Like s (if_room s step).after
room_like s None = alike s
room_like s (Some step) = changed s step.after s.tasks

given_like : {X : Type 0} (s : State) (x : Option X) (f : X → Step) → ((x : X) → Like s (f x).after) → Like s (given s x f).after
given_like s None f like = alike s
given_like s (Some x) f like = like x

either : (s : State) (b : Bool) (x y : Step) → Like s x.after → Like s y.after → Like s (cond b x y).after
either s true x y p q = p
either s false x y p q = q

-- Replies.

load_like : (s : State) (w : WinId) (u : Url) (reply : Option Resp) → Like s (load_reply s w u reply).after
load_like s w u (Some (resp.Page cookies docs)) =
    either s (is_open s.stores.windows w) (if_room s (stores.load s.stores w u docs)) (nothing s) (room_like s (stores.load s.stores w u docs)) (alike s)
load_like s w u (Some (resp.Script cookies body)) = alike s
load_like s w u (Some (resp.Data cookies text)) = alike s
load_like s w u None = alike s

deliver_like : (s : State) (u : Url) (reply : Option Resp) (d : Dst) → Like s (deliver_to s u reply d).after
deliver_like s u reply (dst.Window w) = load_like s w u reply
deliver_like s u reply (dst.Slot page slot) = either s (is_live s.stores.windows page) _ (nothing s) (changed s _ s.tasks) (alike s)
deliver_like s u reply (dst.Call page code) = either s (is_live s.stores.windows page) _ (nothing s) (changed s s.stores _) (alike s)

receive_like : (s : State) (domain : List ℕ) (r : Resp) (pending : Pending) → Like s (receive s domain r pending).after
receive_like s domain r pending =
    let counted = stores.put_cookies (weighed s.stores (resp_weight r)) domain (entries_of r) in
    either s (may_weigh s.stores (resp_weight r))
    (deliver (with_stores s counted) domain pending (Some r))
    (deliver s domain pending None)
    (over s counted _ (deliver_like (with_stores s counted) (url.At domain pending.uri) (Some r) pending.dst))
    (deliver_like s (url.At domain pending.uri) None pending.dst)

-- Inputs.

perform_like : (s : State) (a : Act) → Like s (perform s a).after
perform_like s (act.Opens u) = changed s _ s.tasks
perform_like s (act.Goes at u) = given_like s (user_window s at) (goes s u) (λ w. room_like s (stores.go s.stores w u))
perform_like s (act.Links at n) =
    given_like s (user_window s at) (links s n) (λ w.
    given_like s (user_node s w kind.Link n) (λ m. given s (url_of (node_at s.stores.nodes m).shape) (λ u. goes s u w)) (λ m.
    given_like s (url_of (node_at s.stores.nodes m).shape) (λ u. goes s u w) (λ u. room_like s (stores.go s.stores w u))))
perform_like s (act.Closes at) = given_like s (user_window s at) (closes s) (λ w. changed s _ s.tasks)
perform_like s (act.Types at n text) =
    given_like s (user_window s at) (types s n text) (λ w.
    given_like s (user_node s w kind.TextBox n) (λ m. given s (stores.type_text s.stores m text) (λ t. nothing (call_handlers (with_stores s t) w m))) (λ m.
    given_like s (stores.type_text s.stores m text) (λ t. nothing (call_handlers (with_stores s t) w m)) (λ t. changed s t _)))
perform_like s (act.Clicks at n) =
    given_like s (user_window s at) (clicks s n) (λ w.
    given_like s (user_node s w kind.Button n) (λ m. nothing (call_handlers s w m)) (λ m. changed s s.stores _))
perform_like s (act.Replies domain k r) =
    given_like s (stores.take_answer s.stores domain k) (λ taken. receive (with_stores s taken.1) domain r taken.0) (λ taken. over s taken.1 _ (receive_like (with_stores s taken.1) domain r taken.0))

begin_fuel : (s : State) (i : Input) → (begin s i).after.fuel ≡ s.budget
unfolding begin
begin_fuel s i = (perform_like (record s { fuel = s.budget; quiet = false }) i.act).fuel

begin_budget : (s : State) (i : Input) → (begin s i).after.budget ≡ s.budget
unfolding begin
begin_budget s i = (perform_like (record s { fuel = s.budget; quiet = false }) i.act).budget

-- Turns.

-- what is done next, if anything is, leaves the fuel as it is
abbrev AreLike : Option (State → Step) → Type 0
AreLike None = ⊤
AreLike (Some f) = (t : State) → Like t (f t).after

script_like : (script : Option ((PageId × Expr) × Stores)) → AreLike (script_work script)
script_like None = tt
script_like (Some taken) = λ t. changed t _ _

work_like : (tasks : List Task) (script : Option ((PageId × Expr) × Stores)) → AreLike (work_of tasks script)
work_like [] script = script_like script
work_like (task ∷ tasks) script = λ t. changed t _ _

-- the state after a turn: it has less fuel or is quiet, and an input brings it what it did
record IsNext (s t : State) : Type 0 where
  pub spends : (t.fuel < s.fuel) ⊎ (t.quiet ≡ true)
  pub budget : t.budget ≡ s.budget

spend_next : (s : State) (n : ℕ) (f : State → Step) → s.fuel ≡ n → ((t : State) → Like t (f t).after) → IsNext s (spend s n f).after
spend_next s zero f h like = record { spends = inr refl; budget = refl }
spend_next s (suc n) f h like =
    let done = like (record s { fuel = n }) in
    record { spends = inl (let e : (f (record s { fuel = n })).after.fuel ≡ n = done.fuel in omega (arith, h, e)); budget = done.budget }

turn_next_of : (s : State) (work : Option (State → Step)) → AreLike work → IsNext s (turn_of s work).after
turn_next_of s None like = record { spends = inr refl; budget = refl }
turn_next_of s (Some f) like = spend_next s s.fuel f refl like

turn_next : (s : State) → IsNext s (turn s).after
unfolding turn
turn_next s = turn_next_of s (next_work s) (work_like s.tasks (stores.take_ready s.stores))

-- The browser.

-- turns spend the fuel that an input brings
pub fuelled : (budget : ℕ) → IsFuelled (reactor budget) (λ s. s.fuel) budget (λ i. ⊤) (λ s. s.budget ≡ budget)
fuelled budget = record {
  brings = λ s i same good. let e = begin_fuel s i in omega (arith, e, same);
  spends = λ s same busy. (turn_next s).spends;
}

keeps_budget : (budget : ℕ) → KeepsOk (reactor budget) (λ i. ⊤) (λ s. s.budget ≡ budget) (λ o. ⊤)
keeps_budget budget = record {
  start_ok = refl;
  begin_ok = λ s i same good. begin_budget s i ∙ same;
  begin_outputs = λ s i same good. λ k d h. tt;
  turn_ok = λ s same busy. (turn_next s).budget ∙ same;
  turn_outputs = λ s same busy. λ k d h. tt;
}

-- one turn more than there is fuel is enough to be quiet
pub ends_quiet : (budget : ℕ) (s : State) (i : Input) → s.budget ≡ budget → ((machine_of (reactor budget) (budget + 1)).handle s i).after.quiet ≡ true
ends_quiet budget s i same = handle_quiet (keeps_budget budget) (fuelled budget) s i same tt

-- what an input brings stays
pub budget_stays : (budget : ℕ) (s : State) (i : Input) → s.budget ≡ budget → ((machine_of (reactor budget) (budget + 1)).handle s i).after.budget ≡ budget
budget_stays budget s i same = machine_handle_ok (keeps_budget budget) (budget + 1) s i same tt
