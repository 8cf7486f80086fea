-- A page more, with its nodes and its activation, keeps stores valid, whatever windows show it.
use Rattle.std.proofs.Common.{◌≡◌, ℕ, zero, suc, ◌+◌, ◌-◌, ◌<◌, ◌≤◌, ⊎_elim, true, Some, None, List, [], ◌∷◌, ◌++◌, map, length, get_or, All, refl, sym, ap, subst, ◌∙◌, arith, length-append}
use Rattle.std.specs.List.{AllByRecursion}
use Rattle.std.specs.Cmp.Lexicographic.{slice_cmp}
use Rattle.std.specs.Ordering.{nat_cmp}
use Rattle.std.specs.FinMap as finmap
use Rattle.std.proofs.lemmas.Bool.{cases_lt, and_parts}
use Rattle.std.proofs.lemmas.List.{get_or_append_left, get_or_push, get_or-append-add}
use Rattle.std.proofs.lemmas.List.Elements.{All-push, All-weaker}
use Rattle.std.proofs.lemmas.List.Sums.{sum_by_push}
use Rattle.ff_name.specs.Address.{IsWellSpelled}
use Rattle.ff_name.specs.declared.urls.Url.{Url}
use Rattle.ff_name.specs.declared.limits.TheConstants.{MOST_DEPTH}
use Rattle.ff_tree.specs.Spelled.{IsSpelledDoc, IsWellSpelledDoc, most, doc_depth}
use Rattle.ff_tree.specs.declared.tree.Doc.{Doc}
use Rattle.ff_value.specs.declared.ids.ActId.{ActId}
use Rattle.ff_value.specs.declared.ids.NodeId.{NodeId}
use Rattle.ff_value.specs.declared.ids.PageId.{PageId}
use Rattle.ff_value.specs.declared.ids.WinId.{WinId}
use Rattle.ff_machine.specs.declared.records.Shape.TheVariants as shape
use Rattle.ff_machine.specs.Shapes.{page_of}
use Rattle.ff_machine.specs.Nodes as nodes
use Rattle.ff_machine.specs.Nodes.{Node, no_node, node_at}
use Rattle.ff_machine.specs.Documents.{Laid, numbers, lay_all, laid}
use Rattle.ff_machine.specs.Windows as windows
use Rattle.ff_machine.specs.Windows.{Window, Page, no_page, no_act, nth_page, new_page}
use Rattle.ff_machine.specs.Stores as stores
use Rattle.ff_machine.specs.Stores.{Stores}
use Rattle.ff_machine.specs.Alone.{IsWindow, AreOpen, AreOwn}
use Rattle.ff_machine.specs.References.{Made, Grows, made, ShapeRefers, PageRefers, ActRefers}
use Rattle.ff_machine.specs.Valid.{IsStores}
use Rattle.ff_laws.specs.Keeps.{Keeps}
use Rattle.ff_laws.proofs.Growing as growing
use Rattle.ff_machine.proofs.Lists.{at_pushed}
use Rattle.ff_machine.proofs.Queues.{no_queue}
use Rattle.ff_machine.proofs.WindowChanges.{page_pushed}
use Rattle.ff_machine.proofs.LaidDocs.{IsGood, HasGood, all_good, doc_good}
use Rattle.ff_machine.proofs.MadeTrees.{page_made as page_nodes, page_refers}
use Rattle.ff_laws.proofs.Making.{more_started, old_root, no_page_shape}
use Rattle.ff_laws.proofs.Simple.{at_any}

none_some : {A : Type 0} {x : A} → None ≡ Some x → ⊥
none_some e = cc

-- an activation without parent and variables refers to nothing
no_act_refers : (m : Made) → ActRefers m no_act
no_act_refers m x v e = absurd (none_some (sym (finmap.get-empty (slice_cmp nat_cmp) x) ∙ e))

-- well spelled documents are spelled
pub all_spelled : (docs : List Doc) → AllByRecursion IsWellSpelledDoc docs → AllByRecursion IsSpelledDoc docs
all_spelled [] is = tt
all_spelled (d ∷ ds) is = (is.0.spelled, all_spelled ds is.1)

-- and not too deep
pub all_shallow : (docs : List Doc) → AllByRecursion IsWellSpelledDoc docs → most (map doc_depth docs) ≤ MOST_DEPTH
all_shallow [] is = omega arith
all_shallow (d ∷ ds) is = let one = is.0.shallow in let rest = all_shallow ds is.1 in omega (arith, one, rest)

each_good : (m : Made) (env : ActId) → env.0 < m.acts → (docs : List Doc) → AllByRecursion IsWellSpelledDoc docs → AllByRecursion (HasGood m) (map (laid env) docs)
each_good m env there [] is = tt
each_good m env there (d ∷ ds) is = (doc_good m env there d is.0.spelled is.0.shallow, each_good m env there ds is.1)

-- the node of a number
abbrev nth : ℕ → NodeId
nth n = record { 0 = n }

module _ (s : Stores) (w : WinId) (u : Url) (docs : List Doc) (valid : IsStores s) (spelled : IsWellSpelled u) (docs_spelled : AllByRecursion IsWellSpelledDoc docs) (room : stores.has_load_room s docs ≡ true)
    (wins : List Window) (opened : List WinId) where
  abbrev page : PageId
  page = windows.next_page s.windows

  abbrev env : ActId
  env = windows.next_act s.windows

  abbrev new : Page
  new = new_page u w (nodes.next_node s.nodes) env

  abbrev pages : List Page
  pages = s.windows.pages ++ new ∷ []

  abbrev laid_docs : List Laid
  laid_docs = map (laid env) docs

  abbrev root : Node
  root = record { shape = shape.Page page; handlers = []; children = numbers laid_docs (suc (length s.nodes)); parent = None }

  abbrev rest : List Node
  rest = lay_all laid_docs (suc (length s.nodes)) (Some (nth (length s.nodes)))

  -- the stores with the page, and these windows
  abbrev pub paged : Stores
  paged =
      let t = stores.with_page s w u docs in
      record t { windows = record t.windows { windows = wins; opened = opened } }

  pages_more : length pages ≡ length s.windows.pages + 1
  pages_more = length-append s.windows.pages (new ∷ [])

  nodes_more : length (s.nodes ++ root ∷ rest) ≡ length s.nodes + suc (length rest)
  nodes_more = length-append s.nodes (root ∷ rest)

  acts_more : length (s.windows.acts ++ no_act ∷ []) ≡ length s.windows.acts + 1
  acts_more = length-append s.windows.acts (no_act ∷ [])

  -- an old page is the page that it was
  pub old_page : (p : PageId) → p.0 < length s.windows.pages → nth_page pages p ≡ nth_page s.windows.pages p
  old_page p lt = get_or_append_left s.windows.pages (new ∷ []) no_page p.0 lt

  -- the new page has the next number
  pub next_is : nth_page pages page ≡ new
  next_is = get_or_push s.windows.pages new no_page (length s.windows.pages) refl

  grows_by : length s.windows.windows ≤ length wins → Grows (made s) (made paged)
  grows_by le = record { wins = le; pages = omega (arith, pages_more); nodes = omega (arith, nodes_more); acts = omega (arith, acts_more) }

  env_made : env.0 < (made paged).acts
  env_made = omega (arith, acts_more)

  page_there : page.0 < (made paged).pages
  page_there = omega (arith, pages_more)

  fresh : All (IsGood (made paged)) rest
  fresh = all_good (made paged) laid_docs (each_good (made paged) env env_made docs docs_spelled) (suc (length s.nodes)) (Some (nth (length s.nodes)))

  root_there : node_at (s.nodes ++ root ∷ rest) (nth (length s.nodes)) ≡ root
  root_there =
      let place : length s.nodes ≡ length s.nodes + 0 = omega arith in
      ap (λ (n : ℕ). get_or (s.nodes ++ root ∷ rest) n no_node) place ∙ get_or-append-add s.nodes (root ∷ rest) 0 no_node

  -- an old page or the new one
  page_or : (P : PageId → Type 0) → ((p : PageId) → p.0 < length s.windows.pages → P p) → P page → (p : PageId) → p.0 < length pages → P p
  page_or P old here p lt =
      ⊎_elim (λ l. old p l) (λ l. let e : p.0 ≡ length s.windows.pages = omega (arith, l, lt, pages_more) in subst P (ap (λ (n : ℕ). let q : PageId = record { 0 = n } in q) (sym e)) here) (cases_lt p.0 (length s.windows.pages))

  rooted_root : (p : PageId) → p.0 < length pages → (node_at (s.nodes ++ root ∷ rest) (nth_page pages p).root).shape ≡ shape.Page p
  rooted_root = page_or (λ p. (node_at (s.nodes ++ root ∷ rest) (nth_page pages p).root).shape ≡ shape.Page p)
      (λ p lt.
      let is : PageRefers (made s) (nth_page s.windows.pages p) = valid.refer.pages p.0 no_page lt in
      ap (λ (x : Page). (node_at (s.nodes ++ root ∷ rest) x.root).shape) (old_page p lt)
      ∙ ap (λ (node : Node). node.shape) (old_root s.nodes (root ∷ rest) (nth_page s.windows.pages p).root is.root) ∙ valid.rooted.root p lt)
      (ap (λ (x : Page). (node_at (s.nodes ++ root ∷ rest) x.root).shape) next_is ∙ ap (λ (node : Node). node.shape) root_there)

  fresh_page : (j : ℕ) → page_of (get_or rest j no_node).shape ≡ None
  fresh_page j = at_any (λ (node : Node). page_of node.shape ≡ None) rest j no_node (All-weaker (IsGood (made paged)) (λ (node : Node). page_of node.shape ≡ None) (λ node h. h.inner) rest fresh) refl

  -- the root of a page among the new nodes is the first of them
  new_only : (k : ℕ) (n : NodeId) (p : PageId) → n.0 ≡ length s.nodes + k → (get_or (root ∷ rest) k no_node).shape ≡ shape.Page p → (nth_page pages p).root ≡ n
  new_only zero n p place e =
      let same : page ≡ p = cc in
      let here : n.0 ≡ length s.nodes = omega (arith, place) in
      ap (λ (q : PageId). (nth_page pages q).root) (sym same) ∙ ap (λ (x : Page). x.root) next_is ∙ ap nth (sym here)
  new_only (suc j) n p place e = absurd (no_page_shape (get_or rest j no_node).shape p (fresh_page j) e)

  rooted_only : (n : NodeId) (p : PageId) → (node_at (s.nodes ++ root ∷ rest) n).shape ≡ shape.Page p → (nth_page pages p).root ≡ n
  rooted_only n p e = ⊎_elim old_only beyond (cases_lt n.0 (length s.nodes)) where
    old_only : n.0 < length s.nodes → (nth_page pages p).root ≡ n
    old_only lt =
        let is : (node_at s.nodes n).shape ≡ shape.Page p = sym (ap (λ (node : Node). node.shape) (old_root s.nodes (root ∷ rest) n lt)) ∙ e in
        let there : p.0 < length s.windows.pages = subst (ShapeRefers (made s)) is (valid.refer.nodes n.0 no_node lt).shape in
        ap (λ (x : Page). x.root) (old_page p there) ∙ valid.rooted.only n p is

    beyond : length s.nodes ≤ n.0 → (nth_page pages p).root ≡ n
    beyond le =
        let place : n.0 ≡ length s.nodes + (n.0 - length s.nodes) = omega (arith, le) in
        let is : node_at (s.nodes ++ root ∷ rest) n ≡ get_or (root ∷ rest) (n.0 - length s.nodes) no_node =
        ap (λ (k : ℕ). get_or (s.nodes ++ root ∷ rest) k no_node) place ∙ get_or-append-add s.nodes (root ∷ rest) (n.0 - length s.nodes) no_node in
        new_only (n.0 - length s.nodes) n p place (sym (ap (λ (node : Node). node.shape) is) ∙ e)

  -- a page more keeps stores valid, where the windows that show pages then are valid
  pub page_made : w.0 < length wins → length s.windows.windows ≤ length wins → All (IsWindow (length wins) (length pages)) wins → AreOpen (length wins) opened → AreOwn wins pages → Keeps s paged
  page_made there le are opened_are own =
      let grows = grows_by le in
      let refer = growing.stores_refer_grow (made s) (made paged) grows s valid.refer in
      let rooms = and_parts _ _ room in
      let more = more_started s.nodes (root ∷ rest) in
      record {
        stores = record {
          nodes = page_nodes (made paged) env env_made s.nodes valid.nodes page page_there docs (all_spelled docs docs_spelled) (all_shallow docs docs_spelled) rooms.1;
          windows = page_pushed s.windows new wins opened valid.windows rooms.0 (record { url = spelled; act = omega arith; queue = no_queue; few_slots = omega arith }) refl are opened_are own;
          jar = valid.jar;
          requests = valid.requests;
          refer = record {
            nodes = page_refers (made paged) env env_made s.nodes valid.nodes page page_there docs (all_spelled docs docs_spelled) (all_shallow docs docs_spelled) refer.nodes;
            pages = All-push (PageRefers (made paged)) s.windows.pages new refer.pages (record { win = there; root = omega (arith, nodes_more) });
            acts = λ a. at_pushed (λ j act. ActRefers (made paged) act) s.windows.acts a.0 no_act no_act (no_act_refers (made paged)) (refer.acts a);
            requests = refer.requests;
            touched = refer.touched;
          };
          rooted = record { root = rooted_root; only = rooted_only };
          queued = record {
            entries = omega (arith, sum_by_push (λ (x : Page). length x.queue) s.windows.pages new, more, valid.queued.entries);
            slots = omega (arith, sum_by_push (λ (x : Page). x.next) s.windows.pages new, more, valid.queued.slots);
          };
          light = valid.light;
        };
        grows = grows;
      }
