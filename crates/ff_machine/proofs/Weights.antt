-- What documents and expressions weigh, by their forms.
use Rattle.std.proofs.Common.{◌≡◌, ℕ, ◌+◌, List, map, length, sum, ap, ◌∙◌}
use Rattle.ff_name.specs.declared.urls.Url.{Url}
use Rattle.ff_tree.specs.declared.op.Op.{Op}
use Rattle.ff_tree.specs.declared.tree.Lit.{Lit}
use Rattle.ff_tree.specs.declared.tree.Doc.{Doc}
use Rattle.ff_tree.specs.declared.tree.Doc.TheVariants as doc
use Rattle.ff_tree.specs.declared.tree.Expr.{Expr}
use Rattle.ff_tree.specs.declared.tree.Expr.TheVariants as expr
use Rattle.ff_tree.specs.declared.tree.Handler.{Handler, out-roll-Handler}
use Rattle.ff_tree.specs.declared.tree.Doc.TheOpen.{Doc-F, Expr-F}
use Rattle.ff_tree.specs.declared.tree.Doc.TheViews.{out-Doc, out-Expr, roll-Handler}
use Rattle.ff_tree.specs.declared.tree.Doc.TheFolds.{map-Doc, map-Expr, map-Handler, fold_out-Doc, fold_out-Expr, fold_out-Handler}
use Rattle.ff_tree.specs.Weight.{items, string, lit_weight, doc_step, expr_step, handler_step, doc_weight, expr_weight, handler_weight}

doc_form : (d : Doc) (x : Doc-F Doc Expr Handler) → out-Doc d ≡ x → doc_weight d ≡ doc_step (map-Doc Doc Expr Handler ℕ ℕ ℕ doc_weight expr_weight handler_weight x)
doc_form d x e = fold_out-Doc ℕ ℕ ℕ doc_step expr_step handler_step d ∙ ap (λ y. doc_step (map-Doc Doc Expr Handler ℕ ℕ ℕ doc_weight expr_weight handler_weight y)) e

expr_form : (d : Expr) (x : Expr-F Doc Expr Handler) → out-Expr d ≡ x → expr_weight d ≡ expr_step (map-Expr Doc Expr Handler ℕ ℕ ℕ doc_weight expr_weight handler_weight x)
expr_form d x e = fold_out-Expr ℕ ℕ ℕ doc_step expr_step handler_step d ∙ ap (λ y. expr_step (map-Expr Doc Expr Handler ℕ ℕ ℕ doc_weight expr_weight handler_weight y)) e

-- forms of documents
pub weight-Text : (x text : List ℕ) → doc_weight (doc.Text x text) ≡ items 3 + string text
weight-Text x text = doc_form (doc.Text x text) (Doc-F.Text x text) (doc.outs-Text x text)

pub weight-TextBox : (x text : List ℕ) (hs : List Handler) → doc_weight (doc.TextBox x text hs) ≡ items 3 + (string text + sum (map handler_weight hs))
weight-TextBox x text hs = doc_form (doc.TextBox x text hs) (Doc-F.TextBox x text hs) (doc.outs-TextBox x text hs)

pub weight-Button : (x label : List ℕ) (hs : List Handler) → doc_weight (doc.Button x label hs) ≡ items 3 + (string label + sum (map handler_weight hs))
weight-Button x label hs = doc_form (doc.Button x label hs) (Doc-F.Button x label hs) (doc.outs-Button x label hs)

pub weight-Script : (x : List ℕ) (e : Expr) → doc_weight (doc.Script x e) ≡ items 3 + expr_weight e
weight-Script x e = doc_form (doc.Script x e) (Doc-F.Script x e) (doc.outs-Script x e)

pub weight-Src : (x : List ℕ) (url : Url) → doc_weight (doc.Src x url) ≡ items 4
weight-Src x url = doc_form (doc.Src x url) (Doc-F.Src x url) (doc.outs-Src x url)

-- forms of expressions
pub weight-Lit : (l : Lit) → expr_weight (expr.Lit l) ≡ lit_weight l
weight-Lit l = expr_form (expr.Lit l) (Expr-F.Lit l) (expr.outs-Lit l)

pub weight-Make : (xs : List (List ℕ)) (e : Expr) → expr_weight (expr.Make xs e) ≡ items 3 + (items (length xs) + expr_weight e)
weight-Make xs e = expr_form (expr.Make xs e) (Expr-F.Make xs e) (expr.outs-Make xs e)

pub weight-Prim : (op : Op) (es : List Expr) → expr_weight (expr.Prim op es) ≡ items 2 + sum (map expr_weight es)
weight-Prim op es = expr_form (expr.Prim op es) (Expr-F.Prim op es) (expr.outs-Prim op es)

-- a handler
pub weight-Handler : (x : List ℕ) (e : Expr) → handler_weight (roll-Handler (record { param = x; body = e })) ≡ items 4 + expr_weight e
weight-Handler x e =
    fold_out-Handler ℕ ℕ ℕ doc_step expr_step handler_step (roll-Handler (record { param = x; body = e }))
    ∙ ap (λ y. handler_step (map-Handler Doc Expr Handler ℕ ℕ ℕ doc_weight expr_weight handler_weight y)) (out-roll-Handler (record { param = x; body = e }))
