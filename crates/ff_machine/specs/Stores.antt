-- The stores of one copy of the browser, and what loading, sending, opening a window and the like
-- make of them.
use Rattle.std.specs.Prelude.{ℕ, ◌+◌, Bool, cond, ◌&&◌, nat_le, Option, Some, None, List, [], ◌∷◌, ◌++◌, length, slice_get, is_some, unwrap_or}
use Rattle.std.specs.Ordering.{nat_cmp}
use Rattle.std.specs.FinMap as finmap
use Rattle.std.specs.FinSet as finset
use Rattle.ff_confinement.specs.Turns.{Stepped}
use Rattle.ff_name.specs.declared.urls.Url.{Url}
use Rattle.ff_name.specs.declared.urls.Url.TheVariants as url
use Rattle.ff_tree.specs.declared.tree.Doc.{Doc}
use Rattle.ff_tree.specs.declared.tree.Expr.{Expr}
use Rattle.ff_tree.specs.declared.tree.Expr.TheVariants as expr
use Rattle.ff_tree.specs.declared.tree.Lit.TheVariants as lit
use Rattle.ff_value.specs.declared.fault.Fault.{Fault}
use Rattle.ff_value.specs.declared.ids.WinId.{WinId}
use Rattle.ff_value.specs.declared.ids.PageId.{PageId}
use Rattle.ff_value.specs.declared.ids.NodeId.{NodeId}
use Rattle.ff_value.specs.declared.output.Out.{Out}
use Rattle.ff_value.specs.declared.output.Out.TheVariants as out
use Rattle.ff_value.specs.declared.reply.CookieOp.{CookieOp}
use Rattle.ff_value.specs.declared.reply.CookieOp.TheVariants as cookie
use Rattle.ff_machine.specs.declared.records.Dst.{Dst}
use Rattle.ff_machine.specs.declared.records.Dst.TheVariants as dst
use Rattle.ff_machine.specs.declared.records.Entry.TheVariants.{Ready}
use Rattle.ff_machine.specs.declared.records.Pending.{Pending}
use Rattle.ff_machine.specs.declared.records.Shape.{Shape}
use Rattle.ff_machine.specs.declared.records.Shape.TheVariants as shape
use Rattle.ff_operators.specs.Limits.{most_mass}
use Rattle.ff_machine.specs.Faults.{first_fault, limit_unless}
use Rattle.ff_machine.specs.Nodes as nodes
use Rattle.ff_machine.specs.Nodes.{Node, node_at, page_root_of}
use Rattle.ff_machine.specs.Documents as documents
use Rattle.ff_machine.specs.Windows as windows
use Rattle.ff_machine.specs.Windows.{Windows, is_live, page_at, window_at}
use Rattle.ff_machine.specs.Net as net
use Rattle.ff_machine.specs.Net.{Jar, Requests}

-- a set of pages, by their numbers
abbrev pub Pages : Type 0
Pages = finset.FinSet nat_cmp

-- nodes, windows, cookies, pending requests, the mass, and the pages that were changed since the
-- last time that all was quiet
pub record Stores : Type 0 where
  pub nodes : List Node
  pub windows : Windows
  pub jar : Jar
  pub requests : Requests
  pub mass : ℕ
  pub touched : Pages

-- nothing was made
abbrev pub empty : Stores
empty = record { nodes = []; windows = windows.empty; jar = finmap.empty; requests = finmap.empty; mass = 0; touched = finset.empty }

-- the step that changes nothing and puts nothing
abbrev pub nothing : Stores → Stepped Out Stores
nothing s = record { outputs = []; after = s }

-- one step and then another
abbrev pub then : Stepped Out Stores → (Stores → Stepped Out Stores) → Stepped Out Stores
then first next = let second = next first.after in record { outputs = first.outputs ++ second.outputs; after = second.after }

-- a step that is made where there was room for it
abbrev pub or_nothing : Stores → Option (Stepped Out Stores) → Stepped Out Stores
or_nothing s None = nothing s
or_nothing s (Some step) = step

-- a step that is made where there was room for it, and then another
abbrev pub and_then : Stores → Option (Stepped Out Stores) → (Stores → Stepped Out Stores) → Stepped Out Stores
and_then s None next = nothing s
and_then s (Some step) next = then step next

-- Mass.

-- so much more is within the limit of the mass
abbrev pub may_weigh : Stores → ℕ → Bool
may_weigh s weight = nat_le (s.mass + weight) most_mass

-- the mass grows by so much
abbrev pub weighed : Stores → ℕ → Stores
weighed s weight = record s { mass = s.mass + weight }

-- Touched pages.

-- the page, where there is one, counts as changed
abbrev pub touch : Option PageId → Pages → Pages
touch None pages = pages
touch (Some page) pages = finset.insert pages page.0

-- the page whose tree the node is in, if it is in one, counts as changed
abbrev pub touched_at : Stores → NodeId → Pages
touched_at s n = touch (page_root_of s.nodes n) s.touched

-- Sending.

-- one request more to the domain is within the limits
abbrev pub has_ask_room : Stores → List ℕ → Bool
has_ask_room s domain = net.has_ask_room s.requests domain

-- a request is put, with the cookies of its domain, and is pending
abbrev pub sent : Stores → List ℕ → List ℕ → List ℕ → Dst → Stepped Out Stores
sent s domain uri body to = record {
  outputs = out.Send domain uri (net.pairs_of s.jar domain) body ∷ [];
  after = record s { requests = net.with_ask s.requests domain (record { uri = uri; dst = to }) };
}

-- the same where there is room
abbrev pub send : Stores → List ℕ → List ℕ → List ℕ → Dst → Option (Stepped Out Stores)
send s domain uri body to = cond (has_ask_room s domain) (Some (sent s domain uri body to)) None

-- Starting the scripts of a tree in a live page.

-- the script is put into the page's queue as one that may run
abbrev pub queued : Stores → PageId → Expr → Stepped Out Stores
queued s page body = nothing (record s { windows = windows.with_entry s.windows page (Ready body) })

-- a waiting slot is put into the page's queue
abbrev pub slotted : PageId → Stores → Stepped Out Stores
slotted page s = nothing (record s { windows = windows.with_slot s.windows page })

-- the script at an address is asked for, and a slot waits for it; without room `null` may run in
-- its place
abbrev pub fetched : Stores → PageId → List ℕ → List ℕ → Stepped Out Stores
fetched s page domain uri =
    cond (has_ask_room s domain)
    (then (sent s domain uri [] (dst.Slot page (page_at s.windows page).next)) (slotted page))
    (queued s page (expr.Lit lit.Null))

-- the same for an address; nothing is asked for at `about:blank`
abbrev pub fetched_from : Stores → PageId → Url → Stepped Out Stores
fetched_from s page url.Blank = nothing s
fetched_from s page (url.At domain uri) = fetched s page domain uri

-- a script of this shape begins
abbrev pub begun : Stores → PageId → Shape → Stepped Out Stores
begun s page (shape.Script x started body) = queued s page body
begun s page (shape.Src x started url) = fetched_from s page url
begun s page other = nothing s

-- one script counts as started and begins
abbrev pub start_one : PageId → NodeId → Stores → Stepped Out Stores
start_one page n s = begun (record s { nodes = nodes.started s.nodes n }) page (node_at s.nodes n).shape

-- scripts begin one after another
abbrev pub start_each : PageId → List NodeId → Stores → Stepped Out Stores
start_each page [] s = nothing s
start_each page (n ∷ ns) s = then (start_one page n s) (start_each page ns)

-- the scripts of a tree that weren't started begin, in preorder
abbrev pub start : PageId → NodeId → Stores → Stepped Out Stores
start page n s = start_each page (nodes.scripts s.nodes n) s

-- Loading.

-- the nodes of the next page, whose handlers are made in its activation
abbrev pub page_tree : Stores → List Doc → documents.Laid
page_tree s docs = documents.laid_page (windows.next_page s.windows) (windows.next_act s.windows) docs

-- a page, an activation, and one node plus one for each document node are within their limits
abbrev pub has_load_room : Stores → List Doc → Bool
has_load_room s docs = windows.has_page_room s.windows && nodes.has_room s.nodes (page_tree s docs).size

-- a page more, of a window
abbrev pub with_page : Stores → WinId → Url → List Doc → Stores
with_page s w url docs = record s {
  nodes = documents.with_tree s.nodes (page_tree s docs);
  windows = windows.with_page s.windows url w (nodes.next_node s.nodes);
}

-- the page is shown in its window
abbrev pub with_shown_page : Stores → WinId → Url → List Doc → Stores
with_shown_page s w url docs =
    let t = with_page s w url docs in
    record t { windows = windows.page_shown t.windows w (windows.next_page s.windows) }

-- the place of an open window among the open ones
abbrev pub place : Stores → WinId → ℕ
place s w = unwrap_or (windows.place s.windows w) 0

-- the window shows a page made of the documents, whose scripts are started
abbrev pub loaded : Stores → WinId → Url → List Doc → Stepped Out Stores
loaded s w url docs =
    let root = nodes.next_node s.nodes in
    let t = with_shown_page s w url docs in
    let started = start (windows.next_page s.windows) root t in
    record { outputs = out.Loaded (place s w) url (nodes.shown t.nodes root) ∷ started.outputs; after = started.after }

-- the same where there is room
abbrev pub load : Stores → WinId → Url → List Doc → Option (Stepped Out Stores)
load s w url docs = cond (has_load_room s docs) (Some (loaded s w url docs)) None

-- a window goes to an address, where there is room: it shows an empty page, or a request is sent
-- for it
abbrev pub go : Stores → WinId → Url → Option (Stepped Out Stores)
go s w url.Blank = load s w url.Blank []
go s w (url.At domain uri) = send s domain uri [] (dst.Window w)

-- Windows.

-- a window more, and its blank page, are within the limits
abbrev pub has_window_room : Stores → Bool
has_window_room s = windows.has_window_room s.windows && has_load_room s []

-- a window more, with a blank page
abbrev pub with_window : Stores → Option (List ℕ) → Option WinId → Stores
with_window s name opener =
    let t = with_page s (windows.next_win s.windows) url.Blank [] in
    record t { windows = windows.with_window t.windows name opener (windows.next_page s.windows) }

-- a window opens with a blank page
abbrev pub opened : Stores → Option (List ℕ) → Option WinId → Stepped Out Stores
opened s name opener = record { outputs = out.Opened ∷ []; after = with_window s name opener }

-- the same where there is room
abbrev pub open_window : Stores → Option (List ℕ) → Option WinId → Option (Stepped Out Stores)
open_window s name opener = cond (has_window_room s) (Some (opened s name opener)) None

-- a window closes
abbrev pub close_window : Stores → WinId → Stepped Out Stores
close_window s w = record { outputs = out.Closed (place s w) ∷ []; after = record s { windows = windows.closed s.windows w } }

-- what a window that was opened at an address asks for, where there is room
abbrev pub send_first : Url → WinId → Stores → Stepped Out Stores
send_first url.Blank w s = nothing s
send_first (url.At domain uri) w s = or_nothing s (send s domain uri [] (dst.Window w))

-- the user opens a window at an address, where there is room
abbrev pub opens : Stores → Url → Stepped Out Stores
opens s u = and_then s (open_window s None None) (send_first u (windows.next_win s.windows))

-- Texts, joining, handlers.

-- the node gets the text, whose length the mass grows by, and its page counts as changed
abbrev pub with_text : Stores → NodeId → List ℕ → Stores
with_text s n text = record s { nodes = nodes.text_set s.nodes n text; mass = s.mass + length text; touched = touched_at s n }

-- why a node can't get a text, in order: it is of a kind without text; the mass would pass its
-- limit
abbrev pub set_text_fault : Stores → NodeId → List ℕ → Option Fault
set_text_fault s n text = first_fault (nodes.text_fault s.nodes n) (limit_unless (may_weigh s (length text)))

-- a box gets the text that the user types, where the mass is within its limit
abbrev pub type_text : Stores → NodeId → List ℕ → Option Stores
type_text s n text = cond (may_weigh s (length text)) (Some (with_text s n text)) None

-- scripts start where the page is live
abbrev pub start_in : Option PageId → NodeId → Stores → Stepped Out Stores
start_in None n s = nothing s
start_in (Some page) n s = cond (is_live s.windows page) (start page n s) (nothing s)

-- the child stands under the parent, and its scripts start where the parent is in a live page
abbrev pub insert : Stores → NodeId → NodeId → ℕ → Stepped Out Stores
insert s p c at = start_in (page_root_of s.nodes p) c (record s { nodes = nodes.joined s.nodes p c at; touched = touched_at s p })

-- Replies.

-- the k-th pending request of a domain is this one, if there is one, and is taken out
abbrev pub taken_out : Stores → List ℕ → ℕ → Option Pending → Option (Pending × Stores)
taken_out s domain k None = None
taken_out s domain k (Some pending) = Some (pending, record s { requests = net.answered s.requests domain k })

-- the k-th pending request of a domain, taken out, if there is one
abbrev pub take_answer : Stores → List ℕ → ℕ → Option (Pending × Stores)
take_answer s domain k = taken_out s domain k (slice_get (net.asked s.requests domain) k)

-- one entry of a reply's cookies; one that can't be put is skipped
abbrev pub put_cookie : List ℕ → CookieOp → Jar → Jar
put_cookie domain (cookie.Put key value) jar = cond (is_some (net.cookie_fault jar domain key value)) jar (net.cookie_put jar domain key value)
put_cookie domain (cookie.Drop key) jar = net.cookie_deleted jar domain key

-- such entries one after another
abbrev pub put_each : List ℕ → List CookieOp → Jar → Jar
put_each domain [] jar = jar
put_each domain (entry ∷ entries) jar = put_each domain entries (put_cookie domain entry jar)

-- the cookies of a reply, at its domain
abbrev pub put_cookies : Stores → List ℕ → List CookieOp → Stores
put_cookies s domain entries = record s { jar = put_each domain entries s.jar }

-- the slot of a page becomes the script, where it waits
abbrev pub fill_slot : Stores → PageId → ℕ → Expr → Stores
fill_slot s page slot body = record s { windows = windows.filled s.windows page slot body }

-- Scripts that may run.

-- the page's queue begins with this script, if it begins with one, which is taken out
abbrev pub popped_script : Stores → PageId → Option Expr → Option ((PageId × Expr) × Stores)
popped_script s page None = None
popped_script s page (Some body) = Some ((page, body), record s { windows = windows.popped s.windows page })

-- the script that the queue of a page, if there is one, begins with, taken out
abbrev pub popped_of : Stores → Option PageId → Option ((PageId × Expr) × Stores)
popped_of s None = None
popped_of s (Some page) = popped_script s page (windows.first_ready (page_at s.windows page).queue)

-- the first script that may run, with its page, taken out of its queue, if there is one
abbrev pub take_ready : Stores → Option ((PageId × Expr) × Stores)
take_ready s = popped_of s (windows.ready s.windows)

-- Settling.

-- what the user is shown of the open windows from a place on whose pages were changed
abbrev pub updates_from : Stores → ℕ → List WinId → List Out
updates_from s at [] = []
updates_from s at (w ∷ ws) =
    let page = (window_at s.windows w).page in
    let rest = updates_from s (at + 1) ws in
    cond (finset.contains s.touched page.0) (out.Updated at (nodes.shown s.nodes (page_at s.windows page).root) ∷ rest) rest

-- what was changed is shown, and nothing counts as changed
abbrev pub settle : Stores → Stepped Out Stores
settle s = record { outputs = updates_from s 0 s.windows.opened; after = record s { touched = finset.empty } }
