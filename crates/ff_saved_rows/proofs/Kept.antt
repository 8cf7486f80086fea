-- Records that are gathered of rows whose functions stand in few lists have rows of this kind.
use Rattle.std.proofs.Common.{◌≡◌, Bool, true, false, cond, Option, Some, None, List, [], ◌∷◌, ◌++◌, map, flat_map, All, refl, subst}
use Rattle.std.proofs.lemmas.List.Elements.{All-nil, All-cons, All-head, All-tail, All-append, All-push, All-map}
use Rattle.ff_value.specs.declared.value.Code.{Code}
use Rattle.ff_machine.specs.Shapes.{may_have_children}
use Rattle.ff_records.specs.declared.records.ActRec.{ActRec}
use Rattle.ff_records.specs.declared.records.AskRec.{AskRec}
use Rattle.ff_records.specs.declared.records.NodeRec.{NodeRec}
use Rattle.ff_records.specs.declared.records.PageRec.{PageRec}
use Rattle.ff_records.specs.declared.records.Variable.{Variable}
use Rattle.ff_saved_rows.specs.Recs.{StoresRecs}
use Rattle.ff_saved_rows.specs.Rows.{act_rows, node_rows, page_rows, stores_rows}
use Rattle.ff_saved_rows.specs.declared.row.Row.{Row}
use Rattle.ff_saved_rows.specs.declared.row.Row.TheVariants as row
use Rattle.ff_saved_rows.specs.Drafting.{no_recs, and_then, with_last, with_acts, with_nodes, with_pages, added}
use Rattle.ff_saved_rows.proofs.Shallow.{Inside, IsShallowVal, IsShallowDst, IsShallow}

-- an activation, a node and a pending request whose rows are so
abbrev pub IsShallowAct : ActRec → Type 0
IsShallowAct act = All (λ (var : Variable). IsShallowVal var.value) act.vars

abbrev pub IsShallowNode : NodeRec → Type 0
IsShallowNode node = All (λ (code : Code). Inside code.body) node.on

pub record AreShallow (r : StoresRecs) : Type 0 where
  pub acts : All IsShallowAct r.windows.acts
  pub nodes : All IsShallowNode r.nodes
  pub asks : All (λ (ask : AskRec). IsShallowDst ask.pending.dst) r.asks

pub none_shallow : AreShallow no_recs
none_shallow = record { acts = All-nil IsShallowAct; nodes = All-nil IsShallowNode; asks = All-nil (λ (ask : AskRec). IsShallowDst ask.pending.dst) }

-- where the last of a list is changed
last_kept : {X : Type 0} (P : X → Type 0) (change : X → X) → ((x : X) → P x → P (change x)) → (xs ys : List X) → with_last change xs ≡ Some ys → All P xs → All P ys
last_kept P change kept [] ys e all = cc
last_kept P change kept (x ∷ []) ys e all =
    let is : change x ∷ [] ≡ ys = cc in subst (All P) is (All-cons P (change x) [] (kept x (All-head P x [] all)) (All-nil P))
last_kept {X = X} P change kept (x ∷ y ∷ xs) ys e all =
    from (with_last change (y ∷ xs)) e (λ zs at. last_kept P change kept (y ∷ xs) zs at (All-tail P x (y ∷ xs) all))
  where
    from : (o : Option (List X)) → and_then o (λ changed. Some (x ∷ changed)) ≡ Some ys → ((zs : List X) → o ≡ Some zs → All P zs) → All P ys
    from None e rest = cc
    from (Some zs) e rest = let is : x ∷ zs ≡ ys = cc in subst (All P) is (All-cons P x zs (All-head P x (y ∷ xs) all) (rest zs refl))

-- where something was made of what may be nothing
after_then : {X Y : Type 0} (P : Y → Type 0) (o : Option X) (next : X → Y) (y : Y) → and_then o (λ x. Some (next x)) ≡ Some y → ((x : X) → o ≡ Some x → P (next x)) → P y
after_then P None next y e each = cc
after_then P (Some x) next y e each = let is : next x ≡ y = cc in subst P is (each x refl)

same_as : {X : Type 0} (P : X → Type 0) {x y : X} → Some x ≡ Some y → P x → P y
same_as P e p = subst P (cc) p

-- one row more
pub added_shallow : (r : StoresRecs) (one : Row) (more : StoresRecs) → AreShallow r → IsShallow one → added r one ≡ Some more → AreShallow more
added_shallow r (row.Mass mass) more are is e = same_as AreShallow e (record { acts = are.acts; nodes = are.nodes; asks = are.asks })
added_shallow r (row.Act parent) more are is e =
    let act : ActRec = record { parent = parent; vars = [] } in
    same_as AreShallow e (record { acts = All-push IsShallowAct r.windows.acts act are.acts (All-nil (λ (var : Variable). IsShallowVal var.value)); nodes = are.nodes; asks = are.asks })
added_shallow r (row.Var var) more are is e =
    after_then AreShallow (with_last var_more r.windows.acts) (λ acts. with_acts r acts) more e
    (λ acts at. record {
      acts = last_kept IsShallowAct var_more (λ act all. All-push (λ (v : Variable). IsShallowVal v.value) act.vars var all is) r.windows.acts acts at are.acts;
      nodes = are.nodes;
      asks = are.asks;
    })
  where
    var_more : ActRec → ActRec
    var_more act = record act { vars = act.vars ++ var ∷ [] }
added_shallow r (row.Node shape) more are is e =
    let node : NodeRec = record { shape = shape; on = []; kids = [] } in
    same_as AreShallow e (record { acts = are.acts; nodes = All-push IsShallowNode r.nodes node are.nodes (All-nil (λ (code : Code). Inside code.body)); asks = are.asks })
added_shallow r (row.On code) more are is e =
    after_then AreShallow (with_last on_more r.nodes) (λ nodes. with_nodes r nodes) more e
    (λ nodes at. record {
      acts = are.acts;
      nodes = last_kept IsShallowNode on_more (λ node all. All-push (λ (c : Code). Inside c.body) node.on code all is) r.nodes nodes at are.nodes;
      asks = are.asks;
    })
  where
    on_more : NodeRec → NodeRec
    on_more node = record node { on = node.on ++ code ∷ [] }
added_shallow r (row.Kids kids) more are is e =
    after_then AreShallow (with_last with_kids r.nodes) (λ nodes. with_nodes r nodes) more e
    (λ nodes at. record { acts = are.acts; nodes = last_kept IsShallowNode with_kids (λ node all. all) r.nodes nodes at are.nodes; asks = are.asks })
  where
    with_kids : NodeRec → NodeRec
    with_kids node = record node { kids = kids }
added_shallow r (row.Page url win root act next) more are is e = same_as AreShallow e (record { acts = are.acts; nodes = are.nodes; asks = are.asks })
added_shallow r (row.Queued entry) more are is e =
    after_then AreShallow (with_last entry_more r.windows.pages) (λ pages. with_pages r pages) more e (λ pages at. record { acts = are.acts; nodes = are.nodes; asks = are.asks })
  where
    entry_more : PageRec → PageRec
    entry_more page = record page { queue = page.queue ++ entry ∷ [] }
added_shallow r (row.Win rec) more are is e = same_as AreShallow e (record { acts = are.acts; nodes = are.nodes; asks = are.asks })
added_shallow r (row.Open wins) more are is e = same_as AreShallow e (record { acts = are.acts; nodes = are.nodes; asks = are.asks })
added_shallow r (row.Cookie rec) more are is e = same_as AreShallow e (record { acts = are.acts; nodes = are.nodes; asks = are.asks })
added_shallow r (row.Ask rec) more are is e =
    same_as AreShallow e (record { acts = are.acts; nodes = are.nodes; asks = All-push (λ (ask : AskRec). IsShallowDst ask.pending.dst) r.asks rec are.asks is })
added_shallow r row.Head more are is e = cc
added_shallow r (row.Policy text) more are is e = cc
added_shallow r (row.Class levels) more are is e = cc
added_shallow r row.End more are is e = cc

-- the rows of records
all_flat : {X : Type 0} (P : X → Type 0) (rows : X → List Row) → ((x : X) → P x → All IsShallow (rows x)) → (xs : List X) → All P xs → All IsShallow (flat_map rows xs)
all_flat P rows each [] all = All-nil IsShallow
all_flat P rows each (x ∷ xs) all = All-append IsShallow (rows x) (flat_map rows xs) (each x (All-head P x xs all)) (all_flat P rows each xs (All-tail P x xs all))

-- rows of a kind that holds no function
free : {X : Type 0} (make : X → Row) → ((x : X) → IsShallow (make x)) → (xs : List X) → All IsShallow (map make xs)
free make each [] = All-nil IsShallow
free make each (x ∷ xs) = All-cons IsShallow (make x) (map make xs) (each x) (free make each xs)

act_shallow : (act : ActRec) → IsShallowAct act → All IsShallow (act_rows act)
act_shallow act all = All-cons IsShallow (row.Act act.parent) (map row.Var act.vars) tt (All-map IsShallow row.Var act.vars all)

node_shallow : (node : NodeRec) → IsShallowNode node → All IsShallow (node_rows node)
node_shallow node all =
    All-cons IsShallow (row.Node node.shape) (map row.On node.on ++ kids (may_have_children node.shape)) tt
    (All-append IsShallow (map row.On node.on) (kids (may_have_children node.shape)) (All-map IsShallow row.On node.on all) (of_kids (may_have_children node.shape)))
  where
    kids : Bool → List Row
    kids b = cond b (row.Kids node.kids ∷ []) []

    of_kids : (b : Bool) → All IsShallow (kids b)
    of_kids true = All-cons IsShallow (row.Kids node.kids) [] tt (All-nil IsShallow)
    of_kids false = All-nil IsShallow

page_shallow : (page : PageRec) → All IsShallow (page_rows page)
page_shallow page =
    All-cons IsShallow (row.Page page.url page.win page.root page.act page.next) (map row.Queued page.queue) tt (free row.Queued (λ entry. tt) page.queue)

any_page : (pages : List PageRec) → All IsShallow (flat_map page_rows pages)
any_page [] = All-nil IsShallow
any_page (page ∷ pages) = All-append IsShallow (page_rows page) (flat_map page_rows pages) (page_shallow page) (any_page pages)

pub rows_shallow : (r : StoresRecs) → AreShallow r → All IsShallow (stores_rows r)
rows_shallow r are =
    let w = r.windows in
    let asks = map row.Ask r.asks in
    let cookies = map row.Cookie r.cookies ++ asks in
    let wins = map row.Win w.wins ++ (row.Open w.opened ∷ cookies) in
    let pages = flat_map page_rows w.pages ++ wins in
    let nodes = flat_map node_rows r.nodes ++ pages in
    All-cons IsShallow (row.Mass r.mass) (flat_map act_rows w.acts ++ nodes) tt
    (All-append IsShallow (flat_map act_rows w.acts) nodes (all_flat IsShallowAct act_rows act_shallow w.acts are.acts)
    (All-append IsShallow (flat_map node_rows r.nodes) pages (all_flat IsShallowNode node_rows node_shallow r.nodes are.nodes)
    (All-append IsShallow (flat_map page_rows w.pages) wins (any_page w.pages)
    (All-append IsShallow (map row.Win w.wins) (row.Open w.opened ∷ cookies) (free row.Win (λ win. tt) w.wins)
    (All-cons IsShallow (row.Open w.opened) cookies tt
    (All-append IsShallow (map row.Cookie r.cookies) asks (free row.Cookie (λ cookie. tt) r.cookies)
    (All-map IsShallow row.Ask r.asks are.asks)))))))
