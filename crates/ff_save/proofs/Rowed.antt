-- The rows of valid stores are rows, which give back their records.
use Rattle.std.proofs.Common.{◌≡◌, ℕ, ◌<◌, ◌≤◌, Bool, true, false, cond, T, Option, Some, List, [], ◌∷◌, ◌++◌, map, flat_map, length, get_or, All, sym, ap, subst, ◌∙◌, arith, append_assoc}
use Rattle.std.specs.declared.cmp.Ordering.{Ordering}
use Rattle.std.specs.Cmp.{IsTotalOrder}
use Rattle.std.specs.Cmp.Lexicographic.{nat_list_cmp_total}
use Rattle.std.specs.FinMap as finmap
use Rattle.std.specs.List.{AllByRecursion}
use Rattle.std.specs.Str.{IsUtf8}
use Rattle.std.specs.Prelude.{unwrap_or}
use Rattle.std.proofs.lemmas.List.Elements.{All-nil, All-cons, All-head, All-tail, All-append, All-map, All-from_recursion, All-from_get_or}
use Rattle.ff_name.specs.Address.{IsRequest}
use Rattle.ff_name.proofs.Ascii.{IsUtf8-from_request}
use Rattle.ff_value.specs.Spelled.{IsWellSpelledVal}
use Rattle.ff_value.specs.declared.ids.NodeId.{NodeId}
use Rattle.ff_value.specs.declared.value.Val.{Val}
use Rattle.ff_value.specs.declared.value.Val.TheVariants as val
use Rattle.ff_lattice.specs.Order.{Order}
use Rattle.ff_machine.specs.declared.records.Dst.{Dst}
use Rattle.ff_machine.specs.declared.records.Dst.TheVariants as dst
use Rattle.ff_machine.specs.declared.records.Entry.{Entry}
use Rattle.ff_machine.specs.declared.records.Entry.TheVariants.{Ready, Wait}
use Rattle.ff_machine.specs.declared.records.Pending.{Pending}
use Rattle.ff_machine.specs.declared.records.Shape.{Shape}
use Rattle.ff_machine.specs.declared.records.Shape.TheVariants as shape
use Rattle.ff_machine.specs.Alone.{IsNode, IsShape, IsPage, IsEntry, IsWindow, IsAct, IsDst, AreAsked}
use Rattle.ff_machine.specs.Nodes.{Node, no_node, node_at}
use Rattle.ff_machine.specs.Shapes.{may_have_children}
use Rattle.ff_machine.specs.Windows.{Page, Window, Activation, no_act, act_at}
use Rattle.ff_machine.specs.References.{Made, made, ValRefers, ShapeRefers, NodeRefers, PageRefers, ActRefers, DstRefers}
use Rattle.ff_machine.specs.Stores.{Stores}
use Rattle.ff_machine.specs.Valid.{IsStores}
use Rattle.ff_net.proofs.Cookies.{cookie_total}
use Rattle.ff_records.proofs.Rising.{found_behind, rising_before}
use Rattle.ff_records.specs.Records.{node_rec, node_recs, variable, act_rec, act_recs, page_rec, win_rec, cookie_rec, cookie_recs, asks_of, ask_recs}
use Rattle.ff_saved_rows.specs.Recs.{stores_recs}
use Rattle.ff_saved_rows.specs.Rows.{IsRow, IsHeld, IsWanted, IsShown, act_rows, node_rows, page_rows, stores_rows}
use Rattle.ff_saved_rows.specs.declared.row.Row.{Row}
use Rattle.ff_saved_rows.specs.declared.row.Row.TheVariants as row
use Rattle.ff_saved_rows.specs.Drafting.{no_recs, added_all}
use Rattle.ff_saved_rows.proofs.Gathering.{HasKids, gathered}

-- what holds of each value of a map holds of each entry
each_entry : {K X : Type 0} {R : K → K → Ordering} (o : IsTotalOrder R) (P : K × X → Type 0) (ps es : List (K × X)) → T (finmap.is_sorted R (ps ++ es)) → ((k : K) (v : X) → finmap.find R k (ps ++ es) ≡ Some v → P (k, v)) → AllByRecursion P es
each_entry o P ps [] sorted h = tt
each_entry {R = R} o P ps (e ∷ es) sorted h =
    let same : (ps ++ e ∷ []) ++ es ≡ ps ++ e ∷ es = append_assoc ps (e ∷ []) es in (
      h e.0 e.1 (found_behind o e.0 e.1 ps es (rising_before o ps e es sorted)),
      each_entry o P (ps ++ e ∷ []) es (subst (λ rows. T (finmap.is_sorted R rows)) (sym same) sorted)
          (λ k v found. h k v (sym (ap (finmap.find R k) same) ∙ found)),
    )

entries_have : {K X : Type 0} {R : K → K → Ordering} (o : IsTotalOrder R) (P : K × X → Type 0) (m : finmap.FinMap R X) → ((k : K) (v : X) → finmap.get m k ≡ Some v → P (k, v)) → All P (finmap.entries m)
entries_have o P m h = All-from_recursion P (finmap.entries m) (each_entry o P [] (finmap.entries m) (finmap.entries_sorted m) (λ k v found. h k v (finmap.get-entries m k ∙ found)))

-- what holds of all that is made of each holds of all of it
all_flat : {X Y : Type 0} (P : Y → Type 0) (f : X → List Y) (xs : List X) → All (λ x. All P (f x)) xs → All P (flat_map f xs)
all_flat P f [] each = All-nil P
all_flat P f (x ∷ xs) each = All-append P (f x) (flat_map f xs) (All-head (λ y. All P (f y)) x xs each) (all_flat P f xs (All-tail (λ y. All P (f y)) x xs each))

-- numbers of what was made have 32 bits
record AreSmall (m : Made) : Type 0 where
  wins : m.wins ≤ 65536
  pages : m.pages ≤ 65536
  nodes : m.nodes ≤ 524288
  acts : m.acts ≤ 524288

made_small : (s : Stores) → IsStores s → AreSmall (made s)
made_small s is = record {
  wins = omega (arith, is.windows.own.fewer, is.windows.pages.few);
  pages = is.windows.pages.few;
  nodes = is.nodes.few;
  acts = is.windows.acts.few;
}

module _ (order : Order) (m : Made) (small : AreSmall m) where
  is_held : (v : Val) → IsWellSpelledVal v → ValRefers m v → IsHeld v
  is_held val.Null well refers = well
  is_held (val.Bool truth) well refers = well
  is_held (val.Num n) well refers = well
  is_held (val.Str text) well refers = well
  is_held (val.Win w) well refers = omega (arith, refers, small.wins)
  is_held (val.Node n) well refers = omega (arith, refers, small.nodes)
  is_held (val.Code code) well refers = (well, omega (arith, refers, small.acts))

  is_wanted : (d : Dst) → IsDst d → DstRefers m d → IsWanted d
  is_wanted (dst.Window w) is refers = omega (arith, refers, small.wins)
  is_wanted (dst.Slot page slot) is refers = (omega (arith, refers, small.pages), is)
  is_wanted (dst.Call page code) is refers = (omega (arith, refers.0, small.pages), is.spelled, omega (arith, refers.1, small.acts))

  is_shown : (s : Shape) → IsShape s → ShapeRefers m s → IsShown s
  is_shown (shape.Page page) is refers = omega (arith, refers, small.pages)
  is_shown (shape.Text x text) is refers = is
  is_shown (shape.Link x url label) is refers = is
  is_shown (shape.TextBox x text) is refers = is
  is_shown (shape.Button x label) is refers = is
  is_shown (shape.Script x started body) is refers = is
  is_shown (shape.Src x started url) is refers = is
  is_shown (shape.Div x) is refers = is

  -- activations
  act_good : (a : ℕ) (act : Activation) → a < m.acts → IsAct a act → ActRefers m act → All (IsRow order) (act_rows (act_rec act))
  act_good a act inside is refers =
      All-cons (IsRow order) (row.Act act.parent) (map row.Var (map variable (finmap.entries act.vars)))
      (λ p e. let before = is.parent p e in omega (arith, before, inside, small.acts))
      (All-map (IsRow order) row.Var (map variable (finmap.entries act.vars))
      (All-map (λ v. IsRow order (row.Var v)) variable (finmap.entries act.vars)
      (entries_have nat_list_cmp_total (λ e. IsRow order (row.Var (variable e))) act.vars (λ x v found. ((is.vars x v found).0.name, is_held v (is.vars x v found).1 (refers x v found))))))

  -- nodes
  node_good : (node : Node) → All (λ (kid : NodeId). kid.0 < m.nodes) node.children → IsNode node → NodeRefers m node → All (IsRow order) (node_rows (node_rec node))
  node_good node below is refers =
      All-cons (IsRow order) (row.Node node.shape) (map row.On node.handlers ++ kids (may_have_children node.shape)) (is_shown node.shape is.shape refers.shape)
      (All-append (IsRow order) (map row.On node.handlers) (kids (may_have_children node.shape))
      (All-map (IsRow order) row.On node.handlers (λ i d inside. ((is.handlers i d inside).spelled, (let env = refers.handlers i d inside in omega (arith, env, small.acts)))))
      (kids_good (may_have_children node.shape)))
    where
      kids : Bool → List Row
      kids b = cond b (row.Kids node.children ∷ []) []

      kids_good : (b : Bool) → All (IsRow order) (kids b)
      kids_good true = All-cons (IsRow order) (row.Kids node.children) [] (λ i d inside. let lower = below i d inside in omega (arith, lower, small.nodes)) (All-nil (IsRow order))
      kids_good false = All-nil (IsRow order)

  -- pages
  entry_good : (next : ℕ) (entry : Entry) → next ≤ 1048576 → IsEntry next entry → IsRow order (row.Queued entry)
  entry_good next (Ready body) few is = is
  entry_good next (Wait slot) few is = omega (arith, few, is)

  page_good : (page : Page) → IsPage m.acts page → PageRefers m page → All (IsRow order) (page_rows (page_rec page))
  page_good page is refers =
      All-cons (IsRow order) (row.Page page.url page.win page.root page.act page.next) (map row.Queued page.queue)
      (is.url, omega (arith, refers.win, small.wins), omega (arith, refers.root, small.nodes), omega (arith, is.act, small.acts), omega (arith, is.few_slots))
      (All-map (IsRow order) row.Queued page.queue (λ i d inside. entry_good page.next (get_or page.queue i d) is.few_slots (is.queue.entries i d inside)))

  -- windows
  win_good : (wins pages : ℕ) (window : Window) → wins ≤ m.wins → pages ≤ m.pages → IsWindow wins pages window → IsRow order (row.Win (win_rec window))
  win_good wins pages window few some is = (omega (arith, is.page, some, small.pages), λ w e. let before = is.opener w e in omega (arith, before, few, small.wins), is.name)

-- each of the requests of a domain
asks_good : (P : Row → Type 0) (d : List ℕ) (ps : List Pending) → All (λ p. P (row.Ask (record { domain = d; pending = p }))) ps → All (λ rec. P (row.Ask rec)) (asks_of (d, ps))
asks_good P d ps each = All-map (λ rec. P (row.Ask rec)) (λ p. record { domain = d; pending = p }) ps each

-- a request text is a text
request_utf8 : (text : List ℕ) → IsRequest text → IsUtf8 text
request_utf8 text is = IsUtf8-from_request text is.made_of

module _ (order : Order) (s : Stores) (is : IsStores s) where
  m : Made
  m = made s

  small : AreSmall (made s)
  small = made_small s is

  acts_rows : All (IsRow order) (flat_map act_rows (act_recs s.windows.acts))
  acts_rows =
      all_flat (IsRow order) act_rows (act_recs s.windows.acts)
      (All-map (λ rec. All (IsRow order) (act_rows rec)) act_rec s.windows.acts
      (All-from_get_or (λ act. All (IsRow order) (act_rows (act_rec act))) s.windows.acts no_act
      (λ i inside. act_good order (made s) small i (act_at s.windows.acts (record { 0 = i })) inside (is.windows.acts.each (record { 0 = i })) (is.refer.acts (record { 0 = i })))))

  nodes_rows : All (IsRow order) (flat_map node_rows (node_recs s.nodes))
  nodes_rows =
      all_flat (IsRow order) node_rows (node_recs s.nodes)
      (All-map (λ rec. All (IsRow order) (node_rows rec)) node_rec s.nodes
      (All-from_get_or (λ node. All (IsRow order) (node_rows (node_rec node))) s.nodes no_node
      (λ i inside. node_good order (made s) small (node_at s.nodes (record { 0 = i })) (is.nodes.trees.below (record { 0 = i })) (is.nodes.each i no_node inside) (is.refer.nodes i no_node inside))))

  pages_rows : All (IsRow order) (flat_map page_rows (map page_rec s.windows.pages))
  pages_rows =
      all_flat (IsRow order) page_rows (map page_rec s.windows.pages)
      (All-map (λ rec. All (IsRow order) (page_rows rec)) page_rec s.windows.pages
      (λ i d inside. page_good order (made s) small (get_or s.windows.pages i d) (is.windows.pages.each i d inside) (is.refer.pages i d inside)))

  wins_rows : All (IsRow order) (map row.Win (map win_rec s.windows.windows))
  wins_rows =
      All-map (IsRow order) row.Win (map win_rec s.windows.windows)
      (All-map (λ rec. IsRow order (row.Win rec)) win_rec s.windows.windows
      (λ i d inside. win_good order (made s) small (length s.windows.windows) (length s.windows.pages) (get_or s.windows.windows i d) (omega arith) (omega arith) (is.windows.windows i d inside)))

  open_row : IsRow order (row.Open s.windows.opened)
  open_row = λ i d inside. let there = is.windows.opened.there i d inside in omega (arith, there, small.wins)

  cookies_rows : All (IsRow order) (map row.Cookie (cookie_recs s.jar))
  cookies_rows =
      All-map (IsRow order) row.Cookie (cookie_recs s.jar)
      (All-map (λ rec. IsRow order (row.Cookie rec)) cookie_rec (finmap.entries s.jar)
      (entries_have cookie_total (λ e. IsRow order (row.Cookie (cookie_rec e))) s.jar
      (λ k v found. let one = is.jar.each k.0 k.1 v found in (one.domain_is, one.key_is, one.value_is))))

  asks_rows : All (IsRow order) (map row.Ask (ask_recs s.requests))
  asks_rows =
      All-map (IsRow order) row.Ask (ask_recs s.requests)
      (all_flat (λ rec. IsRow order (row.Ask rec)) asks_of (finmap.entries s.requests)
      (entries_have nat_list_cmp_total (λ e. All (λ rec. IsRow order (row.Ask rec)) (asks_of e)) s.requests
      (λ d ps found. asks_good (IsRow order) d ps (asked_rows d ps found (is.requests.each d ps found)))))
    where
      asked_rows : (d : List ℕ) (ps : List Pending) → finmap.get s.requests d ≡ Some ps → AreAsked d ps → All (λ p. IsRow order (row.Ask (record { domain = d; pending = p }))) ps
      asked_rows d ps found are = λ i e inside.
          let one = are.each i e inside in
          let refers : All (λ p. DstRefers (made s) p.dst) ps = subst (All (λ p. DstRefers (made s) p.dst)) (ap (λ (o : Option (List Pending)). unwrap_or o []) found) (is.refer.requests d) in
          (are.domain_is, request_utf8 (get_or ps i e).uri one.uri, is_wanted order (made s) small (get_or ps i e).dst one.dst (refers i e inside))

  pub rows_good : All (IsRow order) (stores_rows (stores_recs s))
  rows_good =
      All-cons (IsRow order) (row.Mass s.mass) _ (let light = is.light in omega (arith, light))
      (All-append (IsRow order) (flat_map act_rows (act_recs s.windows.acts)) _ acts_rows
      (All-append (IsRow order) (flat_map node_rows (node_recs s.nodes)) _ nodes_rows
      (All-append (IsRow order) (flat_map page_rows (map page_rec s.windows.pages)) _ pages_rows
      (All-append (IsRow order) (map row.Win (map win_rec s.windows.windows)) _ wins_rows
      (All-cons (IsRow order) (row.Open s.windows.opened) _ open_row
      (All-append (IsRow order) (map row.Cookie (cookie_recs s.jar)) (map row.Ask (ask_recs s.requests)) cookies_rows asks_rows))))))

pub rows_again : (s : Stores) → IsStores s → added_all no_recs (stores_rows (stores_recs s)) ≡ Some (stores_recs s)
rows_again s is = gathered (stores_recs s) (All-map HasKids node_rec s.nodes (λ i d inside. (is.nodes.each i d inside).form.no_children))
