-- The rows of records, gathered one after another, give the records.
use Rattle.std.proofs.Common.{◌≡◌, Bool, true, false, cond, List, [], ◌∷◌, ◌++◌, map, flat_map, Some, All, refl, sym, ap, ◌∙◌, append_assoc, append-nil}
use Rattle.std.proofs.lemmas.List.Elements.{All-head, All-tail}
use Rattle.ff_value.specs.declared.ids.NodeId.{NodeId}
use Rattle.ff_value.specs.declared.value.Code.{Code}
use Rattle.ff_machine.specs.Shapes.{may_have_children}
use Rattle.ff_machine.specs.declared.records.Entry.{Entry}
use Rattle.ff_machine.specs.declared.records.Shape.{Shape}
use Rattle.ff_records.specs.declared.records.ActRec.{ActRec}
use Rattle.ff_records.specs.declared.records.AskRec.{AskRec}
use Rattle.ff_records.specs.declared.records.CookieRec.{CookieRec}
use Rattle.ff_records.specs.declared.records.NodeRec.{NodeRec}
use Rattle.ff_records.specs.declared.records.PageRec.{PageRec}
use Rattle.ff_records.specs.declared.records.Variable.{Variable}
use Rattle.ff_records.specs.declared.records.WinRec.{WinRec}
use Rattle.ff_saved_rows.specs.Recs.{StoresRecs}
use Rattle.ff_saved_rows.specs.Rows.{act_rows, node_rows, page_rows, stores_rows}
use Rattle.ff_saved_rows.specs.declared.row.Row.{Row}
use Rattle.ff_saved_rows.specs.declared.row.Row.TheVariants as row
use Rattle.ff_saved_rows.specs.Drafting.{no_recs, and_then, with_last, with_acts, with_nodes, with_pages, added_all}

-- the last of a list is what was put behind the others
pub last_of : {X : Type 0} (change : X → X) (xs : List X) (x : X) → with_last change (xs ++ x ∷ []) ≡ Some (xs ++ change x ∷ [])
last_of change [] x = refl
last_of change (y ∷ []) x = refl
last_of change (y ∷ z ∷ xs) x = ap (λ o. and_then o (λ changed. Some (y ∷ changed))) (last_of change (z ∷ xs) x)

abbrev pub var_more : Variable → ActRec → ActRec
var_more var act = record act { vars = act.vars ++ var ∷ [] }

abbrev pub on_more : Code → NodeRec → NodeRec
on_more code node = record node { on = node.on ++ code ∷ [] }

abbrev pub entry_more : Entry → PageRec → PageRec
entry_more entry page = record page { queue = page.queue ++ entry ∷ [] }

abbrev pub with_kids : List NodeId → NodeRec → NodeRec
with_kids kids node = record node { kids = kids }

-- activations

vars_added : (r : StoresRecs) (acts : List ActRec) (act : ActRec) (vars : List Variable) (rest : List Row)
    → added_all (with_acts r (acts ++ act ∷ [])) (map row.Var vars ++ rest) ≡ added_all (with_acts r (acts ++ record act { vars = act.vars ++ vars } ∷ [])) rest
vars_added r acts act [] rest = ap (λ vs. added_all (with_acts r (acts ++ record act { vars = vs } ∷ [])) rest) (sym (append-nil act.vars))
vars_added r acts act (var ∷ vars) rest =
    ap (λ o. and_then (and_then o (λ changed. Some (with_acts r changed))) (λ more. added_all more (map row.Var vars ++ rest))) (last_of (var_more var) acts act)
    ∙ vars_added r acts (var_more var act) vars rest
    ∙ ap (λ vs. added_all (with_acts r (acts ++ record act { vars = vs } ∷ [])) rest) (append_assoc act.vars (var ∷ []) vars)

acts_added : (r : StoresRecs) (before acts : List ActRec) (rest : List Row) → added_all (with_acts r before) (flat_map act_rows acts ++ rest) ≡ added_all (with_acts r (before ++ acts)) rest
acts_added r before [] rest = ap (λ xs. added_all (with_acts r xs) rest) (sym (append-nil before))
acts_added r before (act ∷ acts) rest =
    ap (λ rows. added_all (with_acts r before) (row.Act act.parent ∷ rows)) (append_assoc (map row.Var act.vars) (flat_map act_rows acts) rest)
    ∙ vars_added r before (record { parent = act.parent; vars = [] }) act.vars (flat_map act_rows acts ++ rest)
    ∙ acts_added r (before ++ act ∷ []) acts rest
    ∙ ap (λ xs. added_all (with_acts r xs) rest) (append_assoc before (act ∷ []) acts)

-- nodes: one that may have no children has no row of them

abbrev pub HasKids : NodeRec → Type 0
HasKids node = may_have_children node.shape ≡ false → node.kids ≡ []

on_added : (r : StoresRecs) (nodes : List NodeRec) (node : NodeRec) (codes : List Code) (rest : List Row)
    → added_all (with_nodes r (nodes ++ node ∷ [])) (map row.On codes ++ rest) ≡ added_all (with_nodes r (nodes ++ record node { on = node.on ++ codes } ∷ [])) rest
on_added r nodes node [] rest = ap (λ cs. added_all (with_nodes r (nodes ++ record node { on = cs } ∷ [])) rest) (sym (append-nil node.on))
on_added r nodes node (code ∷ codes) rest =
    ap (λ o. and_then (and_then o (λ changed. Some (with_nodes r changed))) (λ more. added_all more (map row.On codes ++ rest))) (last_of (on_more code) nodes node)
    ∙ on_added r nodes (on_more code node) codes rest
    ∙ ap (λ cs. added_all (with_nodes r (nodes ++ record node { on = cs } ∷ [])) rest) (append_assoc node.on (code ∷ []) codes)

kids_added : (r : StoresRecs) (nodes : List NodeRec) (shape : Shape) (on : List Code) (kids : List NodeId) (rest : List Row) (b : Bool) → (b ≡ false → kids ≡ [])
    → added_all (with_nodes r (nodes ++ record { shape = shape; on = on; kids = [] } ∷ [])) (cond b (row.Kids kids ∷ []) [] ++ rest) ≡ added_all (with_nodes r (nodes ++ record { shape = shape; on = on; kids = kids } ∷ [])) rest
kids_added r nodes shape on kids rest true form = ap (λ o. and_then (and_then o (λ changed. Some (with_nodes r changed))) (λ more. added_all more rest)) (last_of (with_kids kids) nodes (record { shape = shape; on = on; kids = [] }))
kids_added r nodes shape on kids rest false form = ap (λ ks. added_all (with_nodes r (nodes ++ record { shape = shape; on = on; kids = ks } ∷ [])) rest) (sym (form refl))

nodes_added : (r : StoresRecs) (before nodes : List NodeRec) → All HasKids nodes → (rest : List Row) → added_all (with_nodes r before) (flat_map node_rows nodes ++ rest) ≡ added_all (with_nodes r (before ++ nodes)) rest
nodes_added r before [] form rest = ap (λ ns. added_all (with_nodes r ns) rest) (sym (append-nil before))
nodes_added r before (node ∷ nodes) form rest =
    let kids_rows = cond (may_have_children node.shape) (row.Kids node.kids ∷ []) [] in
    ap (λ rows. added_all (with_nodes r before) (row.Node node.shape ∷ rows)) (append_assoc (map row.On node.on ++ kids_rows) (flat_map node_rows nodes) rest ∙ append_assoc (map row.On node.on) kids_rows (flat_map node_rows nodes ++ rest))
    ∙ on_added r before (record { shape = node.shape; on = []; kids = [] }) node.on (kids_rows ++ (flat_map node_rows nodes ++ rest))
    ∙ kids_added r before node.shape node.on node.kids (flat_map node_rows nodes ++ rest) (may_have_children node.shape) (All-head HasKids node nodes form)
    ∙ nodes_added r (before ++ node ∷ []) nodes (All-tail HasKids node nodes form) rest
    ∙ ap (λ ns. added_all (with_nodes r ns) rest) (append_assoc before (node ∷ []) nodes)

-- pages

entries_added : (r : StoresRecs) (pages : List PageRec) (page : PageRec) (entries : List Entry) (rest : List Row)
    → added_all (with_pages r (pages ++ page ∷ [])) (map row.Queued entries ++ rest) ≡ added_all (with_pages r (pages ++ record page { queue = page.queue ++ entries } ∷ [])) rest
entries_added r pages page [] rest = ap (λ es. added_all (with_pages r (pages ++ record page { queue = es } ∷ [])) rest) (sym (append-nil page.queue))
entries_added r pages page (entry ∷ entries) rest =
    ap (λ o. and_then (and_then o (λ changed. Some (with_pages r changed))) (λ more. added_all more (map row.Queued entries ++ rest))) (last_of (entry_more entry) pages page)
    ∙ entries_added r pages (entry_more entry page) entries rest
    ∙ ap (λ es. added_all (with_pages r (pages ++ record page { queue = es } ∷ [])) rest) (append_assoc page.queue (entry ∷ []) entries)

pages_added : (r : StoresRecs) (before pages : List PageRec) (rest : List Row) → added_all (with_pages r before) (flat_map page_rows pages ++ rest) ≡ added_all (with_pages r (before ++ pages)) rest
pages_added r before [] rest = ap (λ xs. added_all (with_pages r xs) rest) (sym (append-nil before))
pages_added r before (page ∷ pages) rest =
    ap (λ rows. added_all (with_pages r before) (row.Page page.url page.win page.root page.act page.next ∷ rows)) (append_assoc (map row.Queued page.queue) (flat_map page_rows pages) rest)
    ∙ entries_added r before (record { url = page.url; win = page.win; root = page.root; act = page.act; next = page.next; queue = [] }) page.queue (flat_map page_rows pages ++ rest)
    ∙ pages_added r (before ++ page ∷ []) pages rest
    ∙ ap (λ xs. added_all (with_pages r xs) rest) (append_assoc before (page ∷ []) pages)

-- windows, cookies and pending requests

wins_added : (r : StoresRecs) (before wins : List WinRec) (rest : List Row) → added_all (record r { windows = record r.windows { wins = before } }) (map row.Win wins ++ rest) ≡ added_all (record r { windows = record r.windows { wins = before ++ wins } }) rest
wins_added r before [] rest = ap (λ ws. added_all (record r { windows = record r.windows { wins = ws } }) rest) (sym (append-nil before))
wins_added r before (win ∷ wins) rest = wins_added r (before ++ win ∷ []) wins rest ∙ ap (λ ws. added_all (record r { windows = record r.windows { wins = ws } }) rest) (append_assoc before (win ∷ []) wins)

cookies_added : (r : StoresRecs) (before cookies : List CookieRec) (rest : List Row) → added_all (record r { cookies = before }) (map row.Cookie cookies ++ rest) ≡ added_all (record r { cookies = before ++ cookies }) rest
cookies_added r before [] rest = ap (λ cs. added_all (record r { cookies = cs }) rest) (sym (append-nil before))
cookies_added r before (cookie ∷ cookies) rest = cookies_added r (before ++ cookie ∷ []) cookies rest ∙ ap (λ cs. added_all (record r { cookies = cs }) rest) (append_assoc before (cookie ∷ []) cookies)

asks_added : (r : StoresRecs) (before asks : List AskRec) → added_all (record r { asks = before }) (map row.Ask asks) ≡ Some (record r { asks = before ++ asks })
asks_added r before [] = ap (λ xs. Some (record r { asks = xs })) (sym (append-nil before))
asks_added r before (ask ∷ asks) = asks_added r (before ++ ask ∷ []) asks ∙ ap (λ xs. Some (record r { asks = xs })) (append_assoc before (ask ∷ []) asks)

-- all rows of the stores of one browser
pub gathered : (recs : StoresRecs) → All HasKids recs.nodes → added_all no_recs (stores_rows recs) ≡ Some recs
gathered recs form =
    let w = recs.windows in
    let last = map row.Cookie recs.cookies ++ map row.Ask recs.asks in
    let wins = map row.Win w.wins ++ (row.Open w.opened ∷ last) in
    let pages = flat_map page_rows w.pages ++ wins in
    let massed = record no_recs { mass = recs.mass } in
    acts_added massed [] w.acts (flat_map node_rows recs.nodes ++ pages)
    ∙ nodes_added (with_acts massed w.acts) [] recs.nodes form pages
    ∙ pages_added (with_nodes (with_acts massed w.acts) recs.nodes) [] w.pages wins
    ∙ wins_added (with_pages (with_nodes (with_acts massed w.acts) recs.nodes) w.pages) [] w.wins (row.Open w.opened ∷ last)
    ∙ cookies_added (record (with_pages (with_nodes (with_acts massed w.acts) recs.nodes) w.pages) { windows = w }) [] recs.cookies (map row.Ask recs.asks)
    ∙ asks_added (record (with_pages (with_nodes (with_acts massed w.acts) recs.nodes) w.pages) { windows = w; cookies = recs.cookies }) [] recs.asks
