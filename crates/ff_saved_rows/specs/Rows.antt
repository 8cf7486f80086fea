-- The rows of a saved text: how each is spelled, and which rows the records of one browser's stores
-- are.
use Rattle.std.specs.Prelude.{ℕ, ◌<◌, ◌≤◌, length, Bool, cond, All, ⊤, Option, Some, None, List, [], ◌∷◌, ◌++◌, map, flat_map, codes}
use Rattle.std.specs.Option.{ForSome}
use Rattle.std.specs.Str.{IsUtf8}
use Rattle.ff_name.specs.Address.{IsWellSpelled}
use Rattle.ff_name.specs.Spelling.{IsName, IsDomain}
use Rattle.ff_tree.specs.Spelled.{IsWellSpelledExpr}
use Rattle.ff_tree.specs.declared.tree.Lit.TheVariants as lit
use Rattle.ff_value.specs.Spelled.{IsNat, IsWellSpelledCode, IsWellSpelledVal}
use Rattle.ff_value.specs.declared.ids.ActId.{ActId}
use Rattle.ff_value.specs.declared.ids.WinId.{WinId}
use Rattle.ff_value.specs.declared.value.Code.{Code}
use Rattle.ff_value.specs.declared.value.Val.{Val}
use Rattle.ff_value.specs.declared.value.Val.TheVariants as val
use Rattle.ff_text.specs.Printed.{AreWellSpelled}
use Rattle.ff_text.specs.declared.reading.TheConstants.{MOST_BYTES}
use Rattle.ff_text.specs.declared.items.Sexp.{Sexp}
use Rattle.ff_forms.specs.Canonical.{word, string, parens, address, lit_item, expr_item}
use Rattle.ff_lattice.specs.LevelSet.{IsLevelSet}
use Rattle.ff_lattice.specs.Order.{Order, name, size, IsOrder}
use Rattle.ff_machine.specs.Alone.{IsShape}
use Rattle.ff_machine.specs.Kinds as kinds
use Rattle.ff_machine.specs.Shapes.{kind_of, may_have_children}
use Rattle.ff_machine.specs.declared.records.Dst.{Dst}
use Rattle.ff_machine.specs.declared.records.Dst.TheVariants as dst
use Rattle.ff_machine.specs.declared.records.Entry.{Entry}
use Rattle.ff_machine.specs.declared.records.Entry.TheVariants.{Ready, Wait}
use Rattle.ff_machine.specs.declared.records.Shape.{Shape}
use Rattle.ff_machine.specs.declared.records.Shape.TheVariants as shape
use Rattle.ff_records.specs.declared.records.NodeRec.{NodeRec}
use Rattle.ff_records.specs.declared.records.ActRec.{ActRec}
use Rattle.ff_records.specs.declared.records.PageRec.{PageRec}
use Rattle.ff_trace.specs.Printed.{number, joined}
use Rattle.ff_saved_rows.specs.Recs.{StoresRecs}
use Rattle.ff_saved_rows.specs.declared.row.Row.{Row}
use Rattle.ff_saved_rows.specs.declared.row.Row.TheVariants.{Head, Policy, Class, Mass, Act, Var, Node, On, Kids, Page, Queued, Win, Open, Cookie, Ask, End}

-- Items.

-- the number of an activation or of a window, or `none`
abbrev pub act_item : Option ActId → Sexp
act_item None = word (codes "none")
act_item (Some act) = number act.0

abbrev pub win_item : Option WinId → Sexp
win_item None = word (codes "none")
win_item (Some win) = number win.0

abbrev pub truth_item : Bool → Sexp
truth_item truth = lit_item (lit.Bool truth)

-- a function: its activation, its parameters and its body
abbrev pub code_item : Code → Sexp
code_item code = parens (word (codes "code") ∷ number code.env.0 ∷ parens (map word code.params) ∷ expr_item code.body ∷ [])

abbrev pub val_item : Val → Sexp
val_item val.Null = lit_item lit.Null
val_item (val.Bool truth) = lit_item (lit.Bool truth)
val_item (val.Num n) = lit_item (lit.Num n)
val_item (val.Str text) = lit_item (lit.Str text)
val_item (val.Win win) = parens (word (codes "win") ∷ number win.0 ∷ [])
val_item (val.Node node) = parens (word (codes "node") ∷ number node.0 ∷ [])
val_item (val.Code code) = code_item code

abbrev pub dst_item : Dst → Sexp
dst_item (dst.Window win) = parens (word (codes "win") ∷ number win.0 ∷ [])
dst_item (dst.Slot page slot) = parens (word (codes "slot") ∷ number page.0 ∷ number slot ∷ [])
dst_item (dst.Call page code) = parens (word (codes "call") ∷ number page.0 ∷ code_item code ∷ [])

-- what follows the kind of a node
abbrev pub shape_parts : Shape → List Sexp
shape_parts (shape.Page page) = number page.0 ∷ []
shape_parts (shape.Text x text) = word x ∷ string text ∷ []
shape_parts (shape.Link x url label) = word x ∷ address url ∷ string label ∷ []
shape_parts (shape.TextBox x text) = word x ∷ string text ∷ []
shape_parts (shape.Button x label) = word x ∷ string label ∷ []
shape_parts (shape.Script x started body) = word x ∷ truth_item started ∷ expr_item body ∷ []
shape_parts (shape.Src x started url) = word x ∷ truth_item started ∷ address url ∷ []
shape_parts (shape.Div x) = word x ∷ []

abbrev pub entry_items : Entry → List Sexp
entry_items (Ready body) = word (codes "ready") ∷ expr_item body ∷ []
entry_items (Wait slot) = word (codes "wait") ∷ number slot ∷ []

-- the name of a window, or `none`
abbrev pub name_item : Option (List ℕ) → Sexp
name_item None = word (codes "none")
name_item (Some text) = string text

-- The items of a row's line.
abbrev pub row_items : Order → Row → List Sexp
row_items order Head = word (codes "ffox-saved") ∷ word (codes "1") ∷ []
row_items order (Policy text) = word (codes "policy") ∷ string text ∷ []
row_items order (Class levels) = word (codes "class") ∷ map (λ l. word (name order l)) levels
row_items order (Mass mass) = word (codes "mass") ∷ number mass ∷ []
row_items order (Act parent) = word (codes "act") ∷ act_item parent ∷ []
row_items order (Var var) = word (codes "var") ∷ word var.name ∷ val_item var.value ∷ []
row_items order (Node s) = word (codes "node") ∷ word (kinds.kind_word (kind_of s)) ∷ shape_parts s
row_items order (On code) = word (codes "on") ∷ code_item code ∷ []
row_items order (Kids kids) = word (codes "kids") ∷ map (λ n. number n.0) kids
row_items order (Page url win root act next) = word (codes "page") ∷ address url ∷ number win.0 ∷ number root.0 ∷ number act.0 ∷ number next ∷ []
row_items order (Queued entry) = entry_items entry
row_items order (Win rec) = word (codes "win") ∷ number rec.page.0 ∷ win_item rec.opener ∷ name_item rec.name ∷ []
row_items order (Open wins) = word (codes "open") ∷ map (λ w. number w.0) wins
row_items order (Cookie rec) = word (codes "cookie") ∷ word rec.domain ∷ string rec.key ∷ string rec.value ∷ []
row_items order (Ask rec) = word (codes "ask") ∷ word rec.domain ∷ string rec.pending.uri ∷ dst_item rec.pending.dst ∷ []
row_items order End = word (codes "end") ∷ []

-- What is in a row is well spelled, its numbers are of 32 bits, and the levels of a class are a set
-- of levels of the order.

abbrev pub IsHeld : Val → Type 0
IsHeld (val.Win win) = IsNat win.0
IsHeld (val.Node node) = IsNat node.0
IsHeld (val.Code code) = IsWellSpelledCode code × IsNat code.env.0
IsHeld other = IsWellSpelledVal other

abbrev pub IsWanted : Dst → Type 0
IsWanted (dst.Window win) = IsNat win.0
IsWanted (dst.Slot page slot) = IsNat page.0 × IsNat slot
IsWanted (dst.Call page code) = IsNat page.0 × IsWellSpelledCode code × IsNat code.env.0

abbrev pub IsShown : Shape → Type 0
IsShown (shape.Page page) = IsNat page.0
IsShown other = IsShape other

abbrev pub IsEntered : Entry → Type 0
IsEntered (Ready body) = IsWellSpelledExpr body
IsEntered (Wait slot) = IsNat slot

abbrev pub IsRow : Order → Row → Type 0
IsRow order Head = ⊤
IsRow order (Policy text) = IsUtf8 text
IsRow order (Class levels) = IsOrder order × IsLevelSet levels × All (λ l. l < size order) levels
IsRow order (Mass mass) = IsNat mass
IsRow order (Act parent) = ForSome parent (λ p. IsNat p.0)
IsRow order (Var var) = IsName var.name × IsHeld var.value
IsRow order (Node s) = IsShown s
IsRow order (On code) = IsWellSpelledCode code × IsNat code.env.0
IsRow order (Kids kids) = All (λ n. IsNat n.0) kids
IsRow order (Page url win root act next) = IsWellSpelled url × IsNat win.0 × IsNat root.0 × IsNat act.0 × IsNat next
IsRow order (Queued entry) = IsEntered entry
IsRow order (Win rec) = IsNat rec.page.0 × ForSome rec.opener (λ w. IsNat w.0) × ForSome rec.name IsUtf8
IsRow order (Open wins) = All (λ w. IsNat w.0) wins
IsRow order (Cookie rec) = IsDomain rec.domain × IsUtf8 rec.key × IsUtf8 rec.value
IsRow order (Ask rec) = IsDomain rec.domain × IsUtf8 rec.pending.uri × IsWanted rec.pending.dst
IsRow order End = ⊤

-- A row's line, without its newline, and with it.
abbrev pub row_text : Order → Row → List ℕ
row_text order row = joined (row_items order row)

abbrev pub row_line : Order → Row → List ℕ
row_line order row = row_text order row ++ 10 ∷ []

-- The lines of rows.
abbrev pub rows_text : Order → List Row → List ℕ
rows_text order rows = flat_map (row_line order) rows

-- A row fits a line: it isn't too long, its words are words, its texts are UTF-8, and its lists
-- don't nest too deep.
pub record FitsLine (order : Order) (row : Row) : Type 0 where
  pub short : length (row_text order row) ≤ MOST_BYTES
  pub nested : AreWellSpelled (row_items order row)

-- The rows of records.

abbrev pub act_rows : ActRec → List Row
act_rows rec = Act rec.parent ∷ map Var rec.vars

abbrev pub node_rows : NodeRec → List Row
node_rows rec = Node rec.shape ∷ (map On rec.on ++ cond (may_have_children rec.shape) (Kids rec.kids ∷ []) [])

abbrev pub page_rows : PageRec → List Row
page_rows rec = Page rec.url rec.win rec.root rec.act rec.next ∷ map Queued rec.queue

-- Their rows, records of one kind in the order of their numbers.
abbrev pub stores_rows : StoresRecs → List Row
stores_rows recs =
    Mass recs.mass ∷ (flat_map act_rows recs.windows.acts ++ (flat_map node_rows recs.nodes ++ (flat_map page_rows recs.windows.pages
    ++ (map Win recs.windows.wins ++ (Open recs.windows.opened ∷ (map Cookie recs.cookies ++ map Ask recs.asks))))))
