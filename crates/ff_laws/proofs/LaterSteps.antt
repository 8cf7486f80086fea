-- Windows, nodes, cookies and replies: each step leaves later stores.
use Rattle.std.proofs.Common.{ℕ, ◌≤◌, Bool, true, false, cond, Option, Some, None, List, [], length, slice_get, arith, refl, length-set}
use Rattle.std.specs.Prelude.{⊤}
use Rattle.ff_confinement.specs.Turns.{Stepped}
use Rattle.ff_name.specs.declared.urls.Url.{Url}
use Rattle.ff_name.specs.declared.urls.Url.TheVariants as url
use Rattle.ff_tree.specs.declared.tree.Expr.{Expr}
use Rattle.ff_value.specs.declared.ids.WinId.{WinId}
use Rattle.ff_value.specs.declared.ids.PageId.{PageId}
use Rattle.ff_value.specs.declared.ids.NodeId.{NodeId}
use Rattle.ff_value.specs.declared.output.Out.{Out}
use Rattle.ff_value.specs.declared.reply.CookieOp.{CookieOp}
use Rattle.ff_machine.specs.declared.records.Dst.TheVariants as dst
use Rattle.ff_machine.specs.declared.records.Pending.{Pending}
use Rattle.ff_machine.specs.Nodes as nodes
use Rattle.ff_machine.specs.Nodes.{Node, set_node, joined}
use Rattle.ff_machine.specs.Windows as windows
use Rattle.ff_machine.specs.Windows.{page_at, is_live, first_ready, ready}
use Rattle.ff_machine.specs.Net.{asked}
use Rattle.ff_machine.specs.Stores as stores
use Rattle.ff_machine.specs.Stores.{Stores}
use Rattle.ff_laws.specs.Later.{AreLater}
use Rattle.ff_laws.proofs.LaterWindows as windows_later
use Rattle.ff_laws.proofs.Later.{unchanged, both, other_windows, queue_changed, MaybeLater, if_room, or_nothing, one_of, page_more, send, start}

set_size : (all : List Node) (n : NodeId) (node : Node) → length all ≤ length (set_node all n node)
set_size all n node = omega (arith, length-set all n.0 node)

-- a window more
pub window_more : (s : Stores) (name : Option (List ℕ)) (opener : Option WinId) → AreLater s (stores.opened s name opener).after
window_more s name opener =
    let t = stores.with_page s (windows.next_win s.windows) url.Blank [] in
    let h = page_more s (windows.next_win s.windows) url.Blank [] in
    record { nodes = h.nodes; windows = windows_later.window_more s.windows t.windows h.windows (windows.next_page s.windows) (omega arith) name opener; mass = h.mass }

-- a window opens where there is room
pub open_window : (s : Stores) (name : Option (List ℕ)) (opener : Option WinId) → MaybeLater s (stores.open_window s name opener)
open_window s name opener = if_room s (stores.has_window_room s) (stores.opened s name opener) (window_more s name opener)

-- a window closes
pub close_window : (s : Stores) (w : WinId) → AreLater s (stores.close_window s w).after
close_window s w = other_windows s (windows.closed s.windows w) (windows_later.one_closed s.windows w)

send_first : (u : Url) (w : WinId) (s : Stores) → AreLater s (stores.send_first u w s).after
send_first url.Blank w s = unchanged s
send_first (url.At domain uri) w s = or_nothing s (stores.send s domain uri [] (dst.Window w)) (send s domain uri [] (dst.Window w))

and_then : (s : Stores) (step : Option (Stepped Out Stores)) (next : Stores → Stepped Out Stores) → MaybeLater s step → ((t : Stores) → AreLater t (next t).after)
    → AreLater s (stores.and_then s step next).after
and_then s None next h later = unchanged s
and_then s (Some step) next h later = both s step.after (next step.after).after h (later step.after)

-- the user opens a window
pub opens : (s : Stores) (u : Url) → AreLater s (stores.opens s u).after
opens s u =
    let w = windows.next_win s.windows in
    and_then s (stores.open_window s None None) (stores.send_first u w) (open_window s None None) (λ t. send_first u w t)

-- a node gets a text
pub with_text : (s : Stores) (n : NodeId) (text : List ℕ) → AreLater s (stores.with_text s n text)
with_text s n text = record { nodes = set_size s.nodes n _; windows = windows_later.unchanged s.windows; mass = omega arith }

-- a text is typed, where it is
abbrev pub SomeLater : Stores → Option Stores → Type 0
SomeLater s None = ⊤
SomeLater s (Some t) = AreLater s t

-- the user types into a box
pub type_text : (s : Stores) (n : NodeId) (text : List ℕ) → SomeLater s (stores.type_text s n text)
type_text s n text = typed (stores.may_weigh s (length text)) where
  typed : (b : Bool) → SomeLater s (cond b (Some (stores.with_text s n text)) None)
  typed true = with_text s n text
  typed false = tt

start_in : (page : Option PageId) (n : NodeId) (s : Stores) → AreLater s (stores.start_in page n s).after
start_in None n s = unchanged s
start_in (Some page) n s = one_of s (is_live s.windows page) (stores.start page n s) (stores.nothing s) (start page n s) (unchanged s)

set_twice : (all : List Node) (n m : NodeId) (x y : Node) → length all ≤ length (set_node (set_node all n x) m y)
set_twice all n m x y = omega (arith, length-set all n.0 x, length-set (set_node all n x) m.0 y)

joined_size : (all : List Node) (p c : NodeId) (at : ℕ) → length all ≤ length (joined all p c at)
unfolding joined
joined_size all p c at = set_twice all c p _ _

-- a child stands under a parent
pub insert : (s : Stores) (p c : NodeId) (at : ℕ) → AreLater s (stores.insert s p c at).after
insert s p c at =
    let t : Stores = record s { nodes = nodes.joined s.nodes p c at; touched = stores.touched_at s p } in
    both s t (stores.insert s p c at).after
    (record { nodes = joined_size s.nodes p c at; windows = windows_later.unchanged s.windows; mass = omega arith })
    (start_in (nodes.page_root_of s.nodes p) c t)

-- something that was taken out of the stores, where there was any
abbrev pub TakenLater : {X : Type 0} → Stores → Option (X × Stores) → Type 0
TakenLater s None = ⊤
TakenLater s (Some taken) = AreLater s taken.1

-- a pending request, if there is one, is taken out
pub taken_out : (s : Stores) (domain : List ℕ) (k : ℕ) (pending : Option Pending) → TakenLater s (stores.taken_out s domain k pending)
taken_out s domain k None = tt
taken_out s domain k (Some pending) = record { nodes = omega arith; windows = windows_later.unchanged s.windows; mass = omega arith }

-- a request is taken out
pub take_answer : (s : Stores) (domain : List ℕ) (k : ℕ) → TakenLater s (stores.take_answer s domain k)
take_answer s domain k = taken_out s domain k (slice_get (asked s.requests domain) k)

popped_script : (s : Stores) (page : PageId) (body : Option Expr) → TakenLater s (stores.popped_script s page body)
popped_script s page None = tt
popped_script s page (Some body) = queue_changed s page _ (record { url = refl; win = refl; root = refl; act = refl })

popped_of : (s : Stores) (page : Option PageId) → TakenLater s (stores.popped_of s page)
popped_of s None = tt
popped_of s (Some page) = popped_script s page (first_ready (page_at s.windows page).queue)

-- a script is taken out of its queue
pub take_ready : (s : Stores) → TakenLater s (stores.take_ready s)
take_ready s = popped_of s (ready s.windows)

-- cookies are put
pub put_cookies : (s : Stores) (domain : List ℕ) (entries : List CookieOp) → AreLater s (stores.put_cookies s domain entries)
put_cookies s domain entries = record { nodes = omega arith; windows = windows_later.unchanged s.windows; mass = omega arith }

-- the mass grows
pub weighed : (s : Stores) (weight : ℕ) → AreLater s (stores.weighed s weight)
weighed s weight = record { nodes = omega arith; windows = windows_later.unchanged s.windows; mass = omega arith }

-- a slot is filled
pub fill_slot : (s : Stores) (page : PageId) (slot : ℕ) (body : Expr) → AreLater s (stores.fill_slot s page slot body)
fill_slot s page slot body = queue_changed s page _ (record { url = refl; win = refl; root = refl; act = refl })

-- the touched pages are shown
pub settle : (s : Stores) → AreLater s (stores.settle s).after
settle s = record { nodes = omega arith; windows = windows_later.unchanged s.windows; mass = omega arith }
