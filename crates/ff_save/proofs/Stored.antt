-- Stores of a browser with equal records are equal.
use Rattle.std.proofs.Common.{◌≡◌, ℕ, ◌==◌, Option, Some, None, List, length, get_or, refl, sym, ap, ap₂, ◌∙◌, arith, count_by}
use Rattle.std.specs.FinMap as finmap
use Rattle.std.proofs.Math.ListN.{get_or-map}
use Rattle.std.proofs.lemmas.List.{get_or_default, length-map, same_lists}
use Rattle.ff_value.specs.declared.ids.NodeId.{NodeId}
use Rattle.ff_machine.specs.Nodes.{Node, no_node, node_at, parent, children}
use Rattle.ff_machine.specs.Windows.{Windows, Activation}
use Rattle.ff_machine.specs.Net.{Jar}
use Rattle.ff_machine.specs.Stores.{Stores}
use Rattle.ff_machine.specs.State.{State}
use Rattle.ff_machine.specs.Alone.{AreNodes}
use Rattle.ff_machine.specs.Valid.{IsStores}
use Rattle.ff_records.specs.declared.records.NodeRec.{NodeRec}
use Rattle.ff_records.specs.declared.records.Variable.{Variable}
use Rattle.ff_records.specs.declared.records.ActRec.{ActRec}
use Rattle.ff_records.specs.declared.records.PageRec.{PageRec}
use Rattle.ff_records.specs.declared.records.WinRec.{WinRec}
use Rattle.ff_records.specs.declared.records.CookieRec.{CookieRec}
use Rattle.ff_records.specs.Records.{WindowsRecs, node_rec, node_recs, variable, act_rec, act_recs, page_rec, win_rec, windows_recs, cookie_rec, cookie_recs}
use Rattle.ff_nodes.proofs.Adopting.{counted}
use Rattle.ff_saved_rows.specs.Recs.{StoresRecs, stores_recs}
use Rattle.ff_save.specs.Rest.{IsAtRest}
use Rattle.ff_save.proofs.Mapped.{same_maps}
use Rattle.ff_save.proofs.Asked.{same_requests}

-- cookies
pub same_cookies : (a b : Jar) → cookie_recs a ≡ cookie_recs b → a ≡ b
same_cookies a b same =
    finmap.same_entries_map a b (same_maps cookie_rec (λ x y e. ap (λ (r : CookieRec). ((r.domain, r.key), r.value)) e) (finmap.entries a) (finmap.entries b) same)

-- activations
same_act : (x y : Activation) → act_rec x ≡ act_rec y → x ≡ y
same_act x y e =
    ap₂ (λ p vs. record { parent = p; vars = vs }) (ap (λ (r : ActRec). r.parent) e)
    (finmap.same_entries_map x.vars y.vars (same_maps variable (λ v w f. ap (λ (r : Variable). (r.name, r.value)) f) (finmap.entries x.vars) (finmap.entries y.vars) (ap (λ (r : ActRec). r.vars) e)))

pub same_acts : (a b : List Activation) → act_recs a ≡ act_recs b → a ≡ b
same_acts a b same = same_maps act_rec same_act a b same

-- windows, with pages and activations
pub same_windows : (a b : Windows) → windows_recs a ≡ windows_recs b → a ≡ b
same_windows a b same =
    let acts = same_acts a.acts b.acts (ap (λ (r : WindowsRecs). r.acts) same) in
    let pages = same_maps page_rec (λ x y e. ap (λ (r : PageRec). record { url = r.url; win = r.win; root = r.root; act = r.act; next = r.next; queue = r.queue }) e) a.pages b.pages (ap (λ (r : WindowsRecs). r.pages) same) in
    let wins = same_maps win_rec (λ x y e. ap (λ (r : WinRec). record { name = r.name; opener = r.opener; page = r.page }) e) a.windows b.windows (ap (λ (r : WindowsRecs). r.wins) same) in
    let opened = ap (λ (r : WindowsRecs). r.opened) same in
    ap₂ (λ ws os. record { windows = ws; opened = os; pages = a.pages; acts = a.acts }) wins opened
    ∙ ap₂ (λ ps ls. record { windows = b.windows; opened = b.opened; pages = ps; acts = ls }) pages acts

-- nodes: a parent is the node in whose list a node stands
module _ (a b : List Node) (is : AreNodes a) (other : AreNodes b) (same : node_recs a ≡ node_recs b) where
  same_rec : (n : NodeId) → node_rec (node_at a n) ≡ node_rec (node_at b n)
  same_rec n = sym (get_or-map node_rec a n.0 no_node) ∙ ap (λ (rs : List NodeRec). get_or rs n.0 (node_rec no_node)) same ∙ get_or-map node_rec b n.0 no_node

  same_count : length a ≡ length b
  same_count = sym (length-map a node_rec) ∙ ap length same ∙ length-map b node_rec

  same_kids : (n : NodeId) → children a n ≡ children b n
  same_kids n = ap (λ (r : NodeRec). r.kids) (same_rec n)

  -- a parent in one of them is the parent in the other
  up : (n p : NodeId) → parent a n ≡ Some p → parent b n ≡ Some p
  up n p e = counted (λ c. parent b c ≡ Some p) n (children b p) (other.trees.agree p) (ap (count_by (λ c. c.0 == n.0)) (sym (same_kids p)) ∙ is.trees.once n p e)

  down : (n p : NodeId) → parent b n ≡ Some p → parent a n ≡ Some p
  down n p e = counted (λ c. parent a c ≡ Some p) n (children a p) (is.trees.agree p) (ap (count_by (λ c. c.0 == n.0)) (same_kids p) ∙ other.trees.once n p e)

  same_parent : (n : NodeId) → parent a n ≡ parent b n
  same_parent n = from (parent a n) (parent b n) refl refl
    where
      from : (p q : Option NodeId) → parent a n ≡ p → parent b n ≡ q → parent a n ≡ parent b n
      from None None e f = e ∙ sym f
      from (Some p) q e f = e ∙ sym (up n p e)
      from None (Some q) e f = down n q f ∙ sym f

  same_node : (n : NodeId) → node_at a n ≡ node_at b n
  same_node n =
      ap (λ (r : NodeRec). record { shape = r.shape; handlers = r.on; children = r.kids; parent = parent a n }) (same_rec n)
      ∙ ap (λ p. record { shape = (node_at b n).shape; handlers = (node_at b n).handlers; children = (node_at b n).children; parent = p }) (same_parent n)

  pub same_nodes : a ≡ b
  same_nodes = same_lists a b same_count
      (λ k d less.
      get_or_default a k d no_node less
      ∙ same_node (record { 0 = k })
      ∙ get_or_default b k no_node d (omega (arith, less, same_count)))

-- all stores
pub same_stores : (s t : Stores) → IsStores s → IsStores t → s.touched ≡ t.touched → stores_recs s ≡ stores_recs t → s ≡ t
same_stores s t is other touched same =
    let nodes = same_nodes s.nodes t.nodes is.nodes other.nodes (ap (λ (r : StoresRecs). r.nodes) same) in
    let windows = same_windows s.windows t.windows (ap (λ (r : StoresRecs). r.windows) same) in
    let jar = same_cookies s.jar t.jar (ap (λ (r : StoresRecs). r.cookies) same) in
    let requests = same_requests s.requests t.requests is.requests other.requests (ap (λ (r : StoresRecs). r.asks) same) in
    ap₂ (λ ns ws. record { nodes = ns; windows = ws; jar = s.jar; requests = s.requests; mass = s.mass; touched = s.touched }) nodes windows
    ∙ ap₂ (λ j rs. record { nodes = t.nodes; windows = t.windows; jar = j; requests = rs; mass = s.mass; touched = s.touched }) jar requests
    ∙ ap₂ (λ m ps. record { nodes = t.nodes; windows = t.windows; jar = t.jar; requests = t.requests; mass = m; touched = ps }) (ap (λ (r : StoresRecs). r.mass) same) touched

-- browsers at rest
pub same_states : (fuel : ℕ) (s t : State) → IsAtRest fuel s → IsAtRest fuel t → stores_recs s.stores ≡ stores_recs t.stores → s ≡ t
same_states fuel s t is other same =
    let here = is.valid.quiet is.quiet in
    let there = other.valid.quiet other.quiet in
    ap₂ (λ ss q. record { stores = ss; budget = s.budget; fuel = s.fuel; tasks = s.tasks; quiet = q })
    (same_stores s.stores t.stores is.valid.stores other.valid.stores (here.touched ∙ sym there.touched) same) (is.quiet ∙ sym other.quiet)
    ∙ ap₂ (λ b f. record { stores = t.stores; budget = b; fuel = f; tasks = s.tasks; quiet = t.quiet }) (is.valid.budget_is ∙ sym other.valid.budget_is) (here.fuel ∙ sym there.fuel)
    ∙ ap (λ ts. record { stores = t.stores; budget = t.budget; fuel = t.fuel; tasks = ts; quiet = t.quiet }) (here.tasks ∙ sym there.tasks)
