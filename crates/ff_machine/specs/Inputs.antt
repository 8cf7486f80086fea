-- What a state makes of an input: the acts of the user, and replies.
use Rattle.std.specs.Prelude.{ℕ, false, cond, Option, Some, None, List, [], ◌∷◌, slice_get}
use Rattle.ff_name.specs.declared.urls.Url.{Url}
use Rattle.ff_name.specs.declared.urls.Url.TheVariants as url
use Rattle.ff_tree.specs.declared.tree.Expr.{Expr}
use Rattle.ff_tree.specs.declared.tree.Expr.TheVariants as expr
use Rattle.ff_tree.specs.declared.tree.Lit.TheVariants as lit
use Rattle.ff_value.specs.Weight.{resp_weight}
use Rattle.ff_value.specs.declared.ids.WinId.{WinId}
use Rattle.ff_value.specs.declared.ids.PageId.{PageId}
use Rattle.ff_value.specs.declared.ids.NodeId.{NodeId}
use Rattle.ff_value.specs.declared.input.Act.{Act}
use Rattle.ff_value.specs.declared.input.Act.TheVariants as act
use Rattle.ff_value.specs.declared.input.Input.{Input}
use Rattle.ff_value.specs.declared.reply.CookieOp.{CookieOp}
use Rattle.ff_value.specs.declared.reply.Resp.{Resp}
use Rattle.ff_value.specs.declared.reply.Resp.TheVariants as resp
use Rattle.ff_value.specs.declared.value.Code.{Code}
use Rattle.ff_value.specs.declared.value.Val.{Val}
use Rattle.ff_value.specs.declared.value.Val.TheVariants as val
use Rattle.ff_machine.specs.declared.kinds.Kind.{Kind}
use Rattle.ff_machine.specs.declared.kinds.Kind.TheVariants as kind
use Rattle.ff_machine.specs.declared.records.Dst.{Dst}
use Rattle.ff_machine.specs.declared.records.Dst.TheVariants as dst
use Rattle.ff_machine.specs.declared.records.Pending.{Pending}
use Rattle.ff_machine.specs.Shapes.{url_of}
use Rattle.ff_machine.specs.Nodes as nodes
use Rattle.ff_machine.specs.Nodes.{node_at}
use Rattle.ff_machine.specs.Windows.{is_live, is_open, page_at, window_at}
use Rattle.ff_machine.specs.Stores as stores
use Rattle.ff_machine.specs.Stores.{may_weigh, weighed}
use Rattle.ff_machine.specs.State.{State, Step, nothing, with_stores, lifted, if_room, given, with_calls}

-- What the user points at.

-- the open window at a place
abbrev pub user_window : State → ℕ → Option WinId
user_window s at = slice_get s.stores.windows.opened at

-- the page of a window
abbrev pub page_in : State → WinId → PageId
page_in s w = (window_at s.stores.windows w).page

-- the node of a kind and number in the page of a window
abbrev pub user_node : State → WinId → Kind → ℕ → Option NodeId
user_node s w kind n = nodes.nth s.stores.nodes (page_at s.stores.windows (page_in s w)).root kind n

-- What the user does.

-- a window goes to an address, where there is room
abbrev pub goes : State → Url → WinId → Step
goes s u w = if_room s (stores.go s.stores w u)

-- the user follows a link of a window
abbrev pub links : State → ℕ → WinId → Step
links s n w = given s (user_node s w kind.Link n) (λ m. given s (url_of (node_at s.stores.nodes m).shape) (λ u. goes s u w))

-- the user closes a window
abbrev pub closes : State → WinId → Step
closes s w = lifted s (stores.close_window s.stores w)

-- the handlers of a node of a window's page are to be called with the node
abbrev pub call_handlers : State → WinId → NodeId → State
call_handlers s w n = with_calls s (page_in s w) (node_at s.stores.nodes n).handlers (val.Node n)

-- the user types into a box of a window
abbrev pub types : State → ℕ → List ℕ → WinId → Step
types s n text w = given s (user_node s w kind.TextBox n) (λ m. given s (stores.type_text s.stores m text) (λ t. nothing (call_handlers (with_stores s t) w m)))

-- the user clicks a button of a window
abbrev pub clicks : State → ℕ → WinId → Step
clicks s n w = given s (user_node s w kind.Button n) (λ m. nothing (call_handlers s w m))

-- What a reply brings.

-- the cookie entries of a reply
abbrev pub entries_of : Resp → List CookieOp
entries_of (resp.Page cookies docs) = cookies
entries_of (resp.Script cookies body) = cookies
entries_of (resp.Data cookies text) = cookies

-- the script for a slot: that of a script that counts, else `null`
abbrev pub slot_body : Option Resp → Expr
slot_body (Some (resp.Script cookies body)) = body
slot_body other = expr.Lit lit.Null

-- the value for a callback: the text of data that count, else null
abbrev pub call_value : Option Resp → Val
call_value (Some (resp.Data cookies text)) = val.Str text
call_value other = val.Null

-- a window, where it is open, loads a page that counts, where there is room
abbrev pub load_reply : State → WinId → Url → Option Resp → Step
load_reply s w u (Some (resp.Page cookies docs)) = cond (is_open s.stores.windows w) (if_room s (stores.load s.stores w u docs)) (nothing s)
load_reply s w u other = nothing s

-- a slot of a page, where the page is live and the slot waits, is filled
abbrev pub fill_reply : State → PageId → ℕ → Option Resp → Step
fill_reply s page slot reply = cond (is_live s.stores.windows page) (nothing (with_stores s (stores.fill_slot s.stores page slot (slot_body reply)))) (nothing s)

-- a callback of a page, where the page is live, is to be called
abbrev pub call_reply : State → PageId → Code → Option Resp → Step
call_reply s page code reply = cond (is_live s.stores.windows page) (nothing (with_calls s page (code ∷ []) (call_value reply))) (nothing s)

-- what a destination makes of a reply from an address, which counts or doesn't
abbrev pub deliver_to : State → Url → Option Resp → Dst → Step
deliver_to s from reply (dst.Window w) = load_reply s w from reply
deliver_to s from reply (dst.Slot page slot) = fill_reply s page slot reply
deliver_to s from reply (dst.Call page code) = call_reply s page code reply

-- the same of the destination of a request to a domain
abbrev pub deliver : State → List ℕ → Pending → Option Resp → Step
deliver s domain pending reply = deliver_to s (url.At domain pending.uri) reply pending.dst

-- a reply counts where its weight is within the limit: the mass grows by it, and its cookies are
-- put; the destination gets it
abbrev pub receive : State → List ℕ → Resp → Pending → Step
receive s domain r pending =
    cond (may_weigh s.stores (resp_weight r))
    (deliver (with_stores s (stores.put_cookies (weighed s.stores (resp_weight r)) domain (entries_of r))) domain pending (Some r))
    (deliver s domain pending None)

-- a reply to the k-th pending request of a domain, if there is one
abbrev pub replies : State → List ℕ → ℕ → Resp → Step
replies s domain k r = given s (stores.take_answer s.stores domain k) (λ taken. receive (with_stores s taken.1) domain r taken.0)

-- All inputs.

-- what a state makes of an act
abbrev pub perform : State → Act → Step
perform s (act.Opens u) = lifted s (stores.opens s.stores u)
perform s (act.Goes at u) = given s (user_window s at) (goes s u)
perform s (act.Links at n) = given s (user_window s at) (links s n)
perform s (act.Closes at) = given s (user_window s at) (closes s)
perform s (act.Types at n text) = given s (user_window s at) (types s n text)
perform s (act.Clicks at n) = given s (user_window s at) (clicks s n)
perform s (act.Replies domain k r) = replies s domain k r

-- an input brings fuel and its act is performed: the browser is then not quiet
unfoldable pub begin : State → Input → Step
begin s i = perform (record s { fuel = s.budget; quiet = false }) i.act
