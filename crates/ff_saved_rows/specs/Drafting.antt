-- How the records of stores are gathered from rows, one row after another.
use Rattle.std.specs.Prelude.{◌≡◌, Bool, true, false, Option, Some, None, List, [], ◌∷◌, ◌++◌}
use Rattle.ff_records.specs.declared.records.ActRec.{ActRec}
use Rattle.ff_records.specs.declared.records.NodeRec.{NodeRec}
use Rattle.ff_records.specs.declared.records.PageRec.{PageRec}
use Rattle.ff_saved_rows.specs.Recs.{StoresRecs}
use Rattle.ff_saved_rows.specs.declared.row.Row.{Row}
use Rattle.ff_saved_rows.specs.declared.row.Row.TheVariants as row

-- the records of stores of which no row was read
abbrev pub no_recs : StoresRecs
no_recs = record { nodes = []; windows = record { acts = []; pages = []; wins = []; opened = [] }; cookies = []; asks = []; mass = 0 }

-- the second where the first is something
abbrev pub and_then : {X Y : Type 0} → Option X → (X → Option Y) → Option Y
and_then None next = None
and_then (Some x) next = next x

-- a list whose last one is changed; an empty list has none
abbrev pub with_last : {X : Type 0} → (X → X) → List X → Option (List X)
with_last change [] = None
with_last change (x ∷ []) = Some (change x ∷ [])
with_last change (x ∷ y ∷ xs) = and_then (with_last change (y ∷ xs)) (λ changed. Some (x ∷ changed))

-- the records with others of one kind

abbrev pub with_acts : StoresRecs → List ActRec → StoresRecs
with_acts r acts = record r { windows = record r.windows { acts = acts } }

abbrev pub with_nodes : StoresRecs → List NodeRec → StoresRecs
with_nodes r nodes = record r { nodes = nodes }

abbrev pub with_pages : StoresRecs → List PageRec → StoresRecs
with_pages r pages = record r { windows = record r.windows { pages = pages } }

-- The records with one row more: a row of a thing adds the thing, and one of what belongs to a
-- thing adds it to the last one. None where nothing has it.
abbrev pub added : StoresRecs → Row → Option StoresRecs
added r (row.Mass mass) = Some (record r { mass = mass })
added r (row.Act parent) = Some (with_acts r (r.windows.acts ++ record { parent = parent; vars = [] } ∷ []))
added r (row.Var var) = and_then (with_last (λ act. record act { vars = act.vars ++ var ∷ [] }) r.windows.acts) (λ acts. Some (with_acts r acts))
added r (row.Node shape) = Some (with_nodes r (r.nodes ++ record { shape = shape; on = []; kids = [] } ∷ []))
added r (row.On code) = and_then (with_last (λ node. record node { on = node.on ++ code ∷ [] }) r.nodes) (λ nodes. Some (with_nodes r nodes))
added r (row.Kids kids) = and_then (with_last (λ node. record node { kids = kids }) r.nodes) (λ nodes. Some (with_nodes r nodes))
added r (row.Page url win root act next) = Some (with_pages r (r.windows.pages ++ record { url = url; win = win; root = root; act = act; next = next; queue = [] } ∷ []))
added r (row.Queued entry) = and_then (with_last (λ page. record page { queue = page.queue ++ entry ∷ [] }) r.windows.pages) (λ pages. Some (with_pages r pages))
added r (row.Win rec) = Some (record r { windows = record r.windows { wins = r.windows.wins ++ rec ∷ [] } })
added r (row.Open wins) = Some (record r { windows = record r.windows { opened = wins } })
added r (row.Cookie rec) = Some (record r { cookies = r.cookies ++ rec ∷ [] })
added r (row.Ask rec) = Some (record r { asks = r.asks ++ rec ∷ [] })
added r other = None

-- what one row made of the records, and whether it belonged to something
abbrev pub Adds : StoresRecs → Row → Bool → StoresRecs → Type 0
Adds old row true new = added old row ≡ Some new
Adds old row false new = added old row ≡ None

-- the records with some rows more
abbrev pub added_all : StoresRecs → List Row → Option StoresRecs
added_all r [] = Some r
added_all r (row ∷ rows) = and_then (added r row) (λ more. added_all more rows)
