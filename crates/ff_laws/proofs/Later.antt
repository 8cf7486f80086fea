-- What each step of the stores makes is later than they were.
use Rattle.std.proofs.Common.{ℕ, ◌≤◌, Bool, true, false, cond, Option, Some, None, List, [], ◌∷◌, length, arith, refl, length-append, length-set}
use Rattle.std.specs.Prelude.{⊤}
use Rattle.ff_confinement.specs.Turns.{Stepped}
use Rattle.ff_name.specs.declared.urls.Url.{Url}
use Rattle.ff_name.specs.declared.urls.Url.TheVariants as url
use Rattle.ff_tree.specs.declared.tree.Doc.{Doc}
use Rattle.ff_tree.specs.declared.tree.Expr.{Expr}
use Rattle.ff_tree.specs.declared.tree.Expr.TheVariants as expr
use Rattle.ff_tree.specs.declared.tree.Lit.TheVariants as lit
use Rattle.ff_value.specs.declared.ids.WinId.{WinId}
use Rattle.ff_value.specs.declared.ids.PageId.{PageId}
use Rattle.ff_value.specs.declared.ids.NodeId.{NodeId}
use Rattle.ff_value.specs.declared.output.Out.{Out}
use Rattle.ff_machine.specs.declared.records.Dst.{Dst}
use Rattle.ff_machine.specs.declared.records.Dst.TheVariants as dst
use Rattle.ff_machine.specs.declared.records.Shape.{Shape}
use Rattle.ff_machine.specs.declared.records.Shape.TheVariants as shape
use Rattle.ff_machine.specs.Nodes as nodes
use Rattle.ff_machine.specs.Nodes.{Node, node_at}
use Rattle.ff_machine.specs.Windows as windows
use Rattle.ff_machine.specs.Windows.{Windows, Page, page_at}
use Rattle.ff_machine.specs.Stores as stores
use Rattle.ff_machine.specs.Stores.{Stores}
use Rattle.ff_machine.specs.References.{Grows, made}
use Rattle.ff_laws.specs.Later.{IsSamePage, AreLaterWindows, AreLater}
use Rattle.ff_laws.proofs.LaterWindows as windows_later

-- nothing changes
pub unchanged : (s : Stores) → AreLater s s
unchanged s = record { nodes = omega arith; windows = windows_later.unchanged s.windows; mass = omega arith }

-- one change and then another
pub both : (a b c : Stores) → AreLater a b → AreLater b c → AreLater a c
both a b c g h = record { nodes = omega (arith, g.nodes, h.nodes); windows = windows_later.both a.windows b.windows c.windows g.windows h.windows; mass = omega (arith, g.mass, h.mass) }

-- other windows alone
pub other_windows : (s : Stores) (w : Windows) → AreLaterWindows s.windows w → AreLater s (record s { windows = w })
other_windows s w h = record { nodes = omega arith; windows = h; mass = omega arith }

-- other nodes alone, at least as many
pub other_nodes : (s : Stores) (nodes : List Node) → length s.nodes ≤ length nodes → AreLater s (record s { nodes = nodes })
other_nodes s nodes le = record { nodes = le; windows = windows_later.unchanged s.windows; mass = omega arith }

-- what follows a step is later than what was before it
pub then_later : (s : Stores) (first : Stepped Out Stores) (next : Stores → Stepped Out Stores) → AreLater s first.after → AreLater first.after (next first.after).after
    → AreLater s (stores.then first next).after
then_later s first next g h = both s first.after (next first.after).after g h

-- a step, where one is made
abbrev pub MaybeLater : Stores → Option (Stepped Out Stores) → Type 0
MaybeLater s None = ⊤
MaybeLater s (Some step) = AreLater s step.after

-- a step that is made where there is room
pub if_room : (s : Stores) (b : Bool) (step : Stepped Out Stores) → AreLater s step.after → MaybeLater s (cond b (Some step) None)
if_room s true step h = h
if_room s false step h = tt

-- a step that is made, or nothing
pub or_nothing : (s : Stores) (step : Option (Stepped Out Stores)) → MaybeLater s step → AreLater s (stores.or_nothing s step).after
or_nothing s None h = unchanged s
or_nothing s (Some step) h = h

-- one of two steps
pub one_of : (s : Stores) (b : Bool) (x y : Stepped Out Stores) → AreLater s x.after → AreLater s y.after → AreLater s (cond b x y).after
one_of s true x y g h = g
one_of s false x y g h = h

-- Sending.

-- a request is sent
pub sent : (s : Stores) (domain uri body : List ℕ) (to : Dst) → AreLater s (stores.sent s domain uri body to).after
sent s domain uri body to = record { nodes = omega arith; windows = windows_later.unchanged s.windows; mass = omega arith }

-- the same where there is room
pub send : (s : Stores) (domain uri body : List ℕ) (to : Dst) → MaybeLater s (stores.send s domain uri body to)
send s domain uri body to = if_room s (stores.has_ask_room s domain) (stores.sent s domain uri body to) (sent s domain uri body to)

-- Starting scripts.

-- the queue of a page was changed
pub queue_changed : (s : Stores) (p : PageId) (page : Page) → IsSamePage (page_at s.windows p) page → AreLater s (record s { windows = windows.set_page s.windows p page })
queue_changed s p page is = other_windows s (windows.set_page s.windows p page) (windows_later.other_queue s.windows p page is)

queued : (s : Stores) (page : PageId) (body : Expr) → AreLater s (stores.queued s page body).after
queued s page body = queue_changed s page _ (record { url = refl; win = refl; root = refl; act = refl })

slotted : (page : PageId) (s : Stores) → AreLater s (stores.slotted page s).after
slotted page s = queue_changed s page _ (record { url = refl; win = refl; root = refl; act = refl })

fetched : (s : Stores) (page : PageId) (domain uri : List ℕ) → AreLater s (stores.fetched s page domain uri).after
fetched s page domain uri =
    let asks = stores.sent s domain uri [] (dst.Slot page (page_at s.windows page).next) in
    one_of s (stores.has_ask_room s domain) (stores.then asks (stores.slotted page)) (stores.queued s page (expr.Lit lit.Null))
    (then_later s asks (stores.slotted page) (sent s domain uri [] (dst.Slot page (page_at s.windows page).next)) (slotted page asks.after))
    (queued s page (expr.Lit lit.Null))

begun : (s : Stores) (page : PageId) (x : Shape) → AreLater s (stores.begun s page x).after
begun s page (shape.Script x started body) = queued s page body
begun s page (shape.Src x started url.Blank) = unchanged s
begun s page (shape.Src x started (url.At domain uri)) = fetched s page domain uri
begun s page (shape.Page p) = unchanged s
begun s page (shape.Text x text) = unchanged s
begun s page (shape.Link x url text) = unchanged s
begun s page (shape.TextBox x text) = unchanged s
begun s page (shape.Button x text) = unchanged s
begun s page (shape.Div x) = unchanged s

-- a node was changed
pub node_set : (s : Stores) (n : NodeId) (node : Node) → AreLater s (record s { nodes = nodes.set_node s.nodes n node })
node_set s n node = other_nodes s (nodes.set_node s.nodes n node) (omega (arith, length-set s.nodes n.0 node))

-- one script is started
pub start_one : (page : PageId) (n : NodeId) (s : Stores) → AreLater s (stores.start_one page n s).after
start_one page n s =
    let t : Stores = record s { nodes = nodes.started s.nodes n } in
    both s t (stores.start_one page n s).after (node_set s n _) (begun t page (node_at s.nodes n).shape)

-- scripts are started one after another
pub start_each : (page : PageId) (ns : List NodeId) (s : Stores) → AreLater s (stores.start_each page ns s).after
start_each page [] s = unchanged s
start_each page (n ∷ ns) s =
    let t = (stores.start_one page n s).after in
    both s t (stores.start_each page ns t).after (start_one page n s) (start_each page ns t)

-- the scripts of a tree are started
pub start : (page : PageId) (n : NodeId) (s : Stores) → AreLater s (stores.start page n s).after
start page n s = start_each page (nodes.scripts s.nodes n) s

-- Loading.

-- a page more
pub page_more : (s : Stores) (w : WinId) (u : Url) (docs : List Doc) → AreLater s (stores.with_page s w u docs)
page_more s w u docs = record {
  nodes = omega (arith, length-append s.nodes ((stores.page_tree s docs).nodes (length s.nodes) None));
  windows = windows_later.page_more s.windows u w (nodes.next_node s.nodes);
  mass = omega arith;
}

-- a page is shown
pub page_shown : (s : Stores) (w : WinId) (u : Url) (docs : List Doc) → AreLater s (stores.with_shown_page s w u docs)
page_shown s w u docs =
    let t = stores.with_page s w u docs in
    let h = page_more s w u docs in
    record { nodes = h.nodes; windows = windows_later.another_shown s.windows t.windows h.windows (windows.next_page s.windows) (omega arith) w; mass = h.mass }

-- a page is loaded
pub loaded : (s : Stores) (w : WinId) (u : Url) (docs : List Doc) → AreLater s (stores.loaded s w u docs).after
loaded s w u docs =
    let t = stores.with_shown_page s w u docs in
    both s t (stores.loaded s w u docs).after (page_shown s w u docs) (start (windows.next_page s.windows) (nodes.next_node s.nodes) t)

-- the same where there is room
pub load : (s : Stores) (w : WinId) (u : Url) (docs : List Doc) → MaybeLater s (stores.load s w u docs)
load s w u docs = if_room s (stores.has_load_room s docs) (stores.loaded s w u docs) (loaded s w u docs)

-- a window goes to an address
pub go : (s : Stores) (w : WinId) (u : Url) → MaybeLater s (stores.go s w u)
go s w url.Blank = load s w url.Blank []
go s w (url.At domain uri) = send s domain uri [] (dst.Window w)

-- as many of each, at least, were made in later stores
pub later_grows : (s t : Stores) → AreLater s t → Grows (made s) (made t)
later_grows s t h = record { wins = h.windows.wins; pages = h.windows.pages; nodes = h.nodes; acts = h.windows.acts }
