-- The steps of valid stores put well spelled outputs.
use Rattle.std.proofs.Common.{◌≡◌, ℕ, suc, ◌+◌, ◌≤◌, Bool, true, false, cond, Option, Some, None, List, [], ◌∷◌, ◌++◌, length, All, refl, sym, subst, ◌∙◌, arith}
use Rattle.std.specs.Prelude.{⊤}
use Rattle.std.specs.List.{AllByRecursion}
use Rattle.std.specs.Str.{IsUtf8}
use Rattle.std.specs.FinSet as finset
use Rattle.std.proofs.lemmas.Bool.{and_parts}
use Rattle.std.proofs.lemmas.List.Elements.{All-nil, All-cons, All-append, All-weaker}
use Rattle.std.proofs.lemmas.Str.{IsUtf8-nil}
use Rattle.ff_confinement.specs.Turns.{Stepped}
use Rattle.ff_name.specs.Spelling.{IsDomain}
use Rattle.ff_name.specs.Address.{IsRequest, IsWellSpelled}
use Rattle.ff_name.specs.declared.urls.Url.{Url}
use Rattle.ff_name.specs.declared.urls.Url.TheVariants as url
use Rattle.ff_tree.specs.Spelled.{IsWellSpelledDoc}
use Rattle.ff_tree.specs.declared.tree.Doc.{Doc}
use Rattle.ff_tree.specs.declared.tree.Expr.TheVariants as expr
use Rattle.ff_tree.specs.declared.tree.Lit.TheVariants as lit
use Rattle.ff_value.specs.declared.ids.NodeId.{NodeId}
use Rattle.ff_value.specs.declared.ids.PageId.{PageId}
use Rattle.ff_value.specs.declared.ids.WinId.{WinId}
use Rattle.ff_value.specs.declared.output.Out.{Out}
use Rattle.ff_value.specs.declared.output.Out.TheVariants as out
use Rattle.ff_machine.specs.declared.limits.TheConstants.{MOST_WINDOWS}
use Rattle.ff_machine.specs.declared.records.Dst.{Dst}
use Rattle.ff_machine.specs.declared.records.Dst.TheVariants as dst
use Rattle.ff_machine.specs.declared.records.Shape.{Shape}
use Rattle.ff_machine.specs.declared.records.Shape.TheVariants as shape
use Rattle.ff_machine.specs.Shapes.{url_of, as_started}
use Rattle.ff_machine.specs.Nodes as nodes
use Rattle.ff_machine.specs.Nodes.{Node, no_node, node_at, set_node}
use Rattle.ff_machine.specs.Windows as windows
use Rattle.ff_machine.specs.Windows.{is_live, page_at, window_at}
use Rattle.ff_machine.specs.Stores as stores
use Rattle.ff_machine.specs.Stores.{Stores}
use Rattle.ff_machine.specs.Alone.{IsNode, IsJar, AreNodes}
use Rattle.ff_machine.specs.References.{Made}
use Rattle.ff_machine.specs.Valid.{IsStores}
use Rattle.ff_machine.proofs.MadeTrees.{page_made as page_nodes}
use Rattle.ff_laws.specs.Puts.{IsOut, AreOuts}
use Rattle.ff_laws.proofs.Inputs.{shape_url, no_url}
use Rattle.ff_machine.proofs.Lists.{at_set}
use Rattle.ff_laws.proofs.Paging.{all_spelled, all_shallow}
use Rattle.ff_laws.proofs.Simple.{at_any}
use Rattle.ff_laws.proofs.OutputsRead.{pairs_spelled, pairs_ordered, shown_spelled, place_fits}

-- each output of a step that is made, if it is, is well spelled
abbrev pub OutsIfMade : Option (Stepped Out Stores) → Type 0
OutsIfMade None = ⊤
OutsIfMade (Some step) = AreOuts step.outputs

-- no output
pub none_spelled : AreOuts []
none_spelled = All-nil IsOut

-- one output
pub one_spelled : (o : Out) → IsOut o → AreOuts (o ∷ [])
one_spelled o is = All-cons IsOut o [] is none_spelled

-- one output before others
pub first_spelled : (o : Out) (os : List Out) → IsOut o → AreOuts os → AreOuts (o ∷ os)
first_spelled o os is rest = All-cons IsOut o os is rest

-- outputs and then others
pub both_spelled : (os ps : List Out) → AreOuts os → AreOuts ps → AreOuts (os ++ ps)
both_spelled os ps g h = All-append IsOut os ps g h

-- Sending.

-- a request
pub sent_spelled : (s : Stores) (domain uri body : List ℕ) (to : Dst) → IsJar s.jar → IsDomain domain → IsRequest uri → IsUtf8 body → AreOuts (stores.sent s domain uri body to).outputs
sent_spelled s domain uri body to jar is_domain is_request is_body =
    one_spelled (out.Send domain uri _ body) (record { spelled = (is_domain, is_request, pairs_spelled s.jar domain jar, is_body); ordered = pairs_ordered s.jar domain })

-- what is put where there is room
pub made_spelled : (b : Bool) (step : Stepped Out Stores) → (b ≡ true → AreOuts step.outputs) → OutsIfMade (cond b (Some step) None)
made_spelled true step h = h refl
made_spelled false step h = tt

-- a request where there is room
pub send_spelled : (s : Stores) (domain uri body : List ℕ) (to : Dst) → IsJar s.jar → IsDomain domain → IsRequest uri → IsUtf8 body → OutsIfMade (stores.send s domain uri body to)
send_spelled s domain uri body to jar is_domain is_request is_body =
    made_spelled (stores.has_ask_room s domain) (stores.sent s domain uri body to) (λ room. sent_spelled s domain uri body to jar is_domain is_request is_body)

-- Scripts that start.

-- a script that begins puts well spelled outputs, and leaves cookies and nodes
record Begins (s : Stores) (step : Stepped Out Stores) : Type 0 where
  pub spelled : AreOuts step.outputs
  pub jar : step.after.jar ≡ s.jar
  pub nodes : step.after.nodes ≡ s.nodes

-- one of two steps begins a script
one_begins : (s : Stores) (b : Bool) (x y : Stepped Out Stores) → Begins s x → Begins s y → Begins s (cond b x y)
one_begins s true x y g h = g
one_begins s false x y g h = h

-- a script that is asked for at an address
fetched_begins : (s : Stores) (page : PageId) (u : Url) → IsJar s.jar → IsWellSpelled u → Begins s (stores.fetched_from s page u)
fetched_begins s page url.Blank jar is = record { spelled = none_spelled; jar = refl; nodes = refl }
fetched_begins s page (url.At domain uri) jar is =
    let to = dst.Slot page (page_at s.windows page).next in
    let asks = stores.sent s domain uri [] to in
    one_begins s (stores.has_ask_room s domain) (stores.then asks (stores.slotted page)) (stores.queued s page (expr.Lit lit.Null))
    (record { spelled = both_spelled asks.outputs [] (sent_spelled s domain uri [] to jar is.0 is.1 IsUtf8-nil) none_spelled; jar = refl; nodes = refl })
    (record { spelled = none_spelled; jar = refl; nodes = refl })

-- a script of a shape
begun_begins : (s : Stores) (page : PageId) (x : Shape) → IsJar s.jar → ((u : Url) → url_of x ≡ Some u → IsWellSpelled u) → Begins s (stores.begun s page x)
begun_begins s page (shape.Src x started u) jar is = fetched_begins s page u jar (is u refl)
begun_begins s page other jar is = record { spelled = none_spelled; jar = refl; nodes = refl }

-- each address in the nodes is well spelled
abbrev pub HaveAddresses : List Node → Type 0
HaveAddresses all = (n : NodeId) (u : Url) → url_of (node_at all n).shape ≡ Some u → IsWellSpelled u

-- each address in valid nodes is well spelled
pub addresses_spelled : (all : List Node) → All IsNode all → HaveAddresses all
addresses_spelled all are n =
    at_any (λ (node : Node). (u : Url) → url_of node.shape ≡ Some u → IsWellSpelled u) all n.0 no_node
    (All-weaker IsNode (λ (node : Node). (u : Url) → url_of node.shape ≡ Some u → IsWellSpelled u) (λ node h u e. shape_url node.shape u h.shape e) all are) no_url

-- a script that counts as started keeps its address
started_address : (x : Shape) → url_of (as_started x) ≡ url_of x
started_address (shape.Script x started body) = refl
started_address (shape.Src x started u) = refl
started_address other = refl

-- a node that is another, with the same address, leaves the addresses well spelled
pub address_kept : (all : List Node) (n : NodeId) (node : Node) → url_of node.shape ≡ url_of (node_at all n).shape → HaveAddresses all → HaveAddresses (set_node all n node)
address_kept all n node same have m =
    at_set (λ j (x : Node). (u : Url) → url_of x.shape ≡ Some u → IsWellSpelled u) all n.0 m.0 node no_node (λ u e. have n u (sym same ∙ e)) (have m)

-- scripts that start one after another
start_each_spelled : (page : PageId) (ns : List NodeId) (s : Stores) → IsJar s.jar → HaveAddresses s.nodes → AreOuts (stores.start_each page ns s).outputs
start_each_spelled page [] s jar have = none_spelled
start_each_spelled page (n ∷ ns) s jar have =
    let t : Stores = record s { nodes = nodes.started s.nodes n } in
    let one = begun_begins t page (node_at s.nodes n).shape jar (have n) in
    let first = stores.start_one page n s in
    let kept = address_kept s.nodes n (record (node_at s.nodes n) { shape = as_started (node_at s.nodes n).shape }) (started_address (node_at s.nodes n).shape) have in
    both_spelled first.outputs (stores.start_each page ns first.after).outputs one.spelled
    (start_each_spelled page ns first.after (subst IsJar (sym one.jar) jar) (subst HaveAddresses (sym one.nodes) kept))

-- the scripts of a tree that start
pub start_spelled : (page : PageId) (n : NodeId) (s : Stores) → IsJar s.jar → HaveAddresses s.nodes → AreOuts (stores.start page n s).outputs
start_spelled page n s jar have = start_each_spelled page (nodes.scripts s.nodes n) s jar have

-- Loading.

-- the nodes of stores with a page more are valid
page_nodes_valid : (s : Stores) (w : WinId) (u : Url) (docs : List Doc) → IsStores s → AllByRecursion IsWellSpelledDoc docs → stores.has_load_room s docs ≡ true → AreNodes (stores.with_page s w u docs).nodes
page_nodes_valid s w u docs valid are room =
    let m : Made = record { wins = 0; pages = suc (length s.windows.pages); nodes = 0; acts = suc (length s.windows.acts) } in
    page_nodes m (windows.next_act s.windows) (omega arith) s.nodes valid.nodes (windows.next_page s.windows) (omega arith) docs (all_spelled docs are) (all_shallow docs are) (and_parts _ _ room).1

-- documents that a window loads
pub loaded_spelled : (s : Stores) (w : WinId) (u : Url) (docs : List Doc) → IsStores s → IsWellSpelled u → AllByRecursion IsWellSpelledDoc docs → stores.has_load_room s docs ≡ true → AreOuts (stores.loaded s w u docs).outputs
loaded_spelled s w u docs valid is are room =
    let root = nodes.next_node s.nodes in
    let t = stores.with_shown_page s w u docs in
    let each : All IsNode t.nodes = (page_nodes_valid s w u docs valid are room).each in
    first_spelled (out.Loaded (stores.place s w) u (nodes.shown t.nodes root)) (stores.start (windows.next_page s.windows) root t).outputs
    (record { spelled = (place_fits s w valid, is, shown_spelled t.nodes root each); ordered = tt })
    (start_spelled (windows.next_page s.windows) root t valid.jar (addresses_spelled t.nodes each))

-- the same where there is room
pub load_spelled : (s : Stores) (w : WinId) (u : Url) (docs : List Doc) → IsStores s → IsWellSpelled u → AllByRecursion IsWellSpelledDoc docs → OutsIfMade (stores.load s w u docs)
load_spelled s w u docs valid is are = made_spelled (stores.has_load_room s docs) (stores.loaded s w u docs) (loaded_spelled s w u docs valid is are)

-- a window that goes to an address
pub go_spelled : (s : Stores) (w : WinId) (u : Url) → IsStores s → IsWellSpelled u → OutsIfMade (stores.go s w u)
go_spelled s w url.Blank valid is = load_spelled s w url.Blank [] valid tt tt
go_spelled s w (url.At domain uri) valid is = send_spelled s domain uri [] (dst.Window w) valid.jar is.0 is.1 IsUtf8-nil

-- Windows, joining and settling.

-- a step that is made, or nothing
or_nothing_spelled : (s : Stores) (step : Option (Stepped Out Stores)) → OutsIfMade step → AreOuts (stores.or_nothing s step).outputs
or_nothing_spelled s None h = none_spelled
or_nothing_spelled s (Some step) h = h

-- what a window that was opened asks for
send_first_spelled : (u : Url) (w : WinId) (s : Stores) → IsJar s.jar → IsWellSpelled u → AreOuts (stores.send_first u w s).outputs
send_first_spelled url.Blank w s jar is = none_spelled
send_first_spelled (url.At domain uri) w s jar is =
    or_nothing_spelled s (stores.send s domain uri [] (dst.Window w)) (send_spelled s domain uri [] (dst.Window w) jar is.0 is.1 IsUtf8-nil)

-- a window that the user opens at an address
pub opens_spelled : (s : Stores) (u : Url) → IsJar s.jar → IsWellSpelled u → AreOuts (stores.opens s u).outputs
opens_spelled s u jar is = by (stores.has_window_room s) where
  by : (b : Bool) → AreOuts (stores.and_then s (cond b (Some (stores.opened s None None)) None) (stores.send_first u (windows.next_win s.windows))).outputs
  by false = none_spelled
  by true =
      let t = (stores.opened s None None).after in
      first_spelled out.Opened (stores.send_first u (windows.next_win s.windows) t).outputs (record { spelled = tt; ordered = tt }) (send_first_spelled u (windows.next_win s.windows) t jar is)

-- a window that closes
pub closed_spelled : (s : Stores) (w : WinId) → IsStores s → AreOuts (stores.close_window s w).outputs
closed_spelled s w valid = one_spelled (out.Closed (stores.place s w)) (record { spelled = place_fits s w valid; ordered = tt })

-- scripts that start where the page is live
start_in_spelled : (page : Option PageId) (n : NodeId) (s : Stores) → IsJar s.jar → HaveAddresses s.nodes → AreOuts (stores.start_in page n s).outputs
start_in_spelled None n s jar have = none_spelled
start_in_spelled (Some page) n s jar have = by (is_live s.windows page) where
  by : (b : Bool) → AreOuts (cond b (stores.start page n s) (stores.nothing s)).outputs
  by true = start_spelled page n s jar have
  by false = none_spelled

-- a child that is put under a parent
pub insert_spelled : (s : Stores) (p c : NodeId) (place : ℕ) → IsStores s → AreOuts (stores.insert s p c place).outputs
unfolding nodes.joined
insert_spelled s p c place valid =
    let child : Node = record (node_at s.nodes c) { parent = Some p } in
    let under = set_node s.nodes c child in
    let have = addresses_spelled s.nodes valid.nodes.each in
    let first = address_kept s.nodes c child refl have in
    start_in_spelled (nodes.page_root_of s.nodes p) c (record s { nodes = nodes.joined s.nodes p c place; touched = stores.touched_at s p }) valid.jar
    (λ m. at_set (λ j (x : Node). (u : Url) → url_of x.shape ≡ Some u → IsWellSpelled u) under p.0 m.0 _ no_node (have p) (first m))

-- an output before others, or the others alone
one_or_none : (b : Bool) (o : Out) (rest : List Out) → IsOut o → AreOuts rest → AreOuts (cond b (o ∷ rest) rest)
one_or_none true o rest is h = first_spelled o rest is h
one_or_none false o rest is h = h

-- what is shown of the windows that were changed
updates_spelled : (s : Stores) (at : ℕ) (ws : List WinId) → All IsNode s.nodes → at + length ws ≤ MOST_WINDOWS → AreOuts (stores.updates_from s at ws)
updates_spelled s at [] are few = none_spelled
updates_spelled s at (w ∷ ws) are few =
    let page = (window_at s.windows w).page in
    let root = (page_at s.windows page).root in
    one_or_none (finset.contains s.touched page.0) (out.Updated at (nodes.shown s.nodes root)) (stores.updates_from s (at + 1) ws)
    (record { spelled = (omega (arith, few), shown_spelled s.nodes root are); ordered = tt }) (updates_spelled s (at + 1) ws are (omega (arith, few)))

-- what was changed, as it is shown
pub settle_spelled : (s : Stores) → IsStores s → AreOuts (stores.settle s).outputs
settle_spelled s valid = let few = valid.windows.opened.few in updates_spelled s 0 s.windows.opened valid.nodes.each (omega (arith, few))
