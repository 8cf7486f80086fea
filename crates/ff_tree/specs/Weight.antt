-- What documents and expressions weigh: ITEM for each item of their notation, lists included, and
-- the bytes of each string.
use Rattle.std.specs.Prelude.{ℕ, ◌+◌, ◌*◌, ◌-◌, ◌^◌, min, List, length, sum}
use Rattle.ff_tree.specs.declared.weigh.TheConstants.{ITEM}
use Rattle.ff_tree.specs.declared.tree.Lit.{Lit}
use Rattle.ff_tree.specs.declared.tree.Lit.TheVariants as lit
use Rattle.ff_tree.specs.declared.tree.Doc.{Doc}
use Rattle.ff_tree.specs.declared.tree.Expr.{Expr}
use Rattle.ff_tree.specs.declared.tree.Handler.{Handler}
use Rattle.ff_tree.specs.declared.tree.Doc.TheOpen.{Doc-F, Expr-F, Handler-F}
use Rattle.ff_tree.specs.declared.tree.Doc.TheFolds.{fold-Doc, fold-Expr, fold-Handler}

-- what so many words and lists weigh, without the parts of the lists
abbrev pub items : ℕ → ℕ
items n = ITEM * n

-- what a string weighs
abbrev pub string : List ℕ → ℕ
string text = ITEM + length text

-- the greatest number of 64 bits in the place of any larger one
abbrev pub capped : ℕ → ℕ
capped n = min n (2 ^ 64 - 1)

abbrev pub lit_weight : Lit → ℕ
lit_weight lit.Null = items 1
lit_weight (lit.Bool b) = items 1
lit_weight (lit.Num n) = items 1
lit_weight (lit.Str text) = string text

-- what an expression weighs, where its parts weigh what stands in their places
abbrev pub expr_step : Expr-F ℕ ℕ ℕ → ℕ
expr_step (Expr-F.Lit l) = lit_weight l
expr_step (Expr-F.Var x) = items 1
expr_step (Expr-F.Let x e) = items 3 + e
expr_step (Expr-F.Set x e) = items 3 + e
expr_step (Expr-F.If e f g) = items 2 + (e + (f + g))
expr_step (Expr-F.While e f) = items 2 + (e + f)
expr_step (Expr-F.Do es) = items 2 + sum es
expr_step (Expr-F.And e f) = items 2 + (e + f)
expr_step (Expr-F.Or e f) = items 2 + (e + f)
expr_step (Expr-F.Make params e) = items 3 + (items (length params) + e)
expr_step (Expr-F.Apply e es) = items 2 + (e + sum es)
expr_step (Expr-F.Tree doc) = items 2 + doc
expr_step (Expr-F.Prim op es) = items 2 + sum es

abbrev pub handler_step : Handler-F ℕ ℕ ℕ → ℕ
handler_step handler = items 4 + handler.body

abbrev pub doc_step : Doc-F ℕ ℕ ℕ → ℕ
doc_step (Doc-F.Text x text) = items 3 + string text
doc_step (Doc-F.Link x url label) = items 4 + string label
doc_step (Doc-F.TextBox x text handlers) = items 3 + (string text + sum handlers)
doc_step (Doc-F.Button x label handlers) = items 3 + (string label + sum handlers)
doc_step (Doc-F.Script x e) = items 3 + e
doc_step (Doc-F.Src x url) = items 4
doc_step (Doc-F.Div x docs) = items 3 + sum docs

abbrev pub doc_weight : Doc → ℕ
doc_weight = fold-Doc ℕ ℕ ℕ doc_step expr_step handler_step

abbrev pub expr_weight : Expr → ℕ
expr_weight = fold-Expr ℕ ℕ ℕ doc_step expr_step handler_step

abbrev pub handler_weight : Handler → ℕ
handler_weight = fold-Handler ℕ ℕ ℕ doc_step expr_step handler_step
