-- How deep the lists of each form nest.
use Rattle.std.proofs.Common.{◌≡◌, ◌+◌, ℕ, max, List, map, ap, ◌∙◌}
use Rattle.ff_name.specs.declared.urls.Url.{Url}
use Rattle.ff_tree.specs.declared.op.Op.{Op}
use Rattle.ff_tree.specs.declared.tree.Lit.{Lit}
use Rattle.ff_tree.specs.declared.tree.Doc.{Doc}
use Rattle.ff_tree.specs.declared.tree.Doc.TheVariants as doc
use Rattle.ff_tree.specs.declared.tree.Expr.{Expr}
use Rattle.ff_tree.specs.declared.tree.Expr.TheVariants as expr
use Rattle.ff_tree.specs.declared.tree.Handler.{Handler, out-roll-Handler}
use Rattle.ff_tree.specs.declared.tree.Doc.TheOpen.{Doc-F, Expr-F, Handler-F}
use Rattle.ff_tree.specs.declared.tree.Doc.TheViews.{out-Doc, out-Expr, out-Handler}
use Rattle.ff_tree.specs.declared.tree.Doc.TheFolds.{map-Doc, map-Expr, map-Handler, fold_out-Doc, fold_out-Expr, fold_out-Handler}
use Rattle.ff_tree.specs.Spelled.{doc_nesting, expr_nesting, handler_nesting, doc_depth, expr_depth, handler_depth, most}
use Rattle.ff_forms.specs.Grammar.{handler}

doc_layer : (x : Doc) (layer : Doc-F Doc Expr Handler) → out-Doc x ≡ layer → doc_depth x ≡ doc_nesting (map-Doc Doc Expr Handler ℕ ℕ ℕ doc_depth expr_depth handler_depth layer)
doc_layer x layer e = fold_out-Doc ℕ ℕ ℕ doc_nesting expr_nesting handler_nesting x ∙ ap (λ l. doc_nesting (map-Doc Doc Expr Handler ℕ ℕ ℕ doc_depth expr_depth handler_depth l)) e

expr_layer : (x : Expr) (layer : Expr-F Doc Expr Handler) → out-Expr x ≡ layer → expr_depth x ≡ expr_nesting (map-Expr Doc Expr Handler ℕ ℕ ℕ doc_depth expr_depth handler_depth layer)
expr_layer x layer e = fold_out-Expr ℕ ℕ ℕ doc_nesting expr_nesting handler_nesting x ∙ ap (λ l. expr_nesting (map-Expr Doc Expr Handler ℕ ℕ ℕ doc_depth expr_depth handler_depth l)) e

handler_layer : (x : Handler) (layer : Handler-F Doc Expr Handler) → out-Handler x ≡ layer → handler_depth x ≡ handler_nesting (map-Handler Doc Expr Handler ℕ ℕ ℕ doc_depth expr_depth handler_depth layer)
handler_layer x layer e = fold_out-Handler ℕ ℕ ℕ doc_nesting expr_nesting handler_nesting x ∙ ap (λ l. handler_nesting (map-Handler Doc Expr Handler ℕ ℕ ℕ doc_depth expr_depth handler_depth l)) e

pub handler_depth-handler : (x : List ℕ) (e : Expr) → handler_depth (handler x e) ≡ 1 + max 1 (expr_depth e)
handler_depth-handler x e = handler_layer (handler x e) (record { param = x; body = e }) (out-roll-Handler (record { param = x; body = e }))

pub expr_depth-Lit : (l : Lit) → expr_depth (expr.Lit l) ≡ 0
expr_depth-Lit l = expr_layer (expr.Lit l) (Expr-F.Lit l) (expr.outs-Lit l)

pub expr_depth-Var : (x : List ℕ) → expr_depth (expr.Var x) ≡ 0
expr_depth-Var x = expr_layer (expr.Var x) (Expr-F.Var x) (expr.outs-Var x)

pub expr_depth-Let : (x : List ℕ) (e : Expr) → expr_depth (expr.Let x e) ≡ 1 + expr_depth e
expr_depth-Let x e = expr_layer (expr.Let x e) (Expr-F.Let x e) (expr.outs-Let x e)

pub expr_depth-Set : (x : List ℕ) (e : Expr) → expr_depth (expr.Set x e) ≡ 1 + expr_depth e
expr_depth-Set x e = expr_layer (expr.Set x e) (Expr-F.Set x e) (expr.outs-Set x e)

pub expr_depth-If : (e f g : Expr) → expr_depth (expr.If e f g) ≡ 1 + max (expr_depth e) (max (expr_depth f) (expr_depth g))
expr_depth-If e f g = expr_layer (expr.If e f g) (Expr-F.If e f g) (expr.outs-If e f g)

pub expr_depth-While : (e f : Expr) → expr_depth (expr.While e f) ≡ 1 + max (expr_depth e) (expr_depth f)
expr_depth-While e f = expr_layer (expr.While e f) (Expr-F.While e f) (expr.outs-While e f)

pub expr_depth-Do : (es : List Expr) → expr_depth (expr.Do es) ≡ 1 + most (map expr_depth es)
expr_depth-Do es = expr_layer (expr.Do es) (Expr-F.Do es) (expr.outs-Do es)

pub expr_depth-And : (e f : Expr) → expr_depth (expr.And e f) ≡ 1 + max (expr_depth e) (expr_depth f)
expr_depth-And e f = expr_layer (expr.And e f) (Expr-F.And e f) (expr.outs-And e f)

pub expr_depth-Or : (e f : Expr) → expr_depth (expr.Or e f) ≡ 1 + max (expr_depth e) (expr_depth f)
expr_depth-Or e f = expr_layer (expr.Or e f) (Expr-F.Or e f) (expr.outs-Or e f)

pub expr_depth-Make : (xs : List (List ℕ)) (e : Expr) → expr_depth (expr.Make xs e) ≡ 1 + max 1 (expr_depth e)
expr_depth-Make xs e = expr_layer (expr.Make xs e) (Expr-F.Make xs e) (expr.outs-Make xs e)

pub expr_depth-Apply : (e : Expr) (es : List Expr) → expr_depth (expr.Apply e es) ≡ 1 + max (expr_depth e) (most (map expr_depth es))
expr_depth-Apply e es = expr_layer (expr.Apply e es) (Expr-F.Apply e es) (expr.outs-Apply e es)

pub expr_depth-Tree : (d : Doc) → expr_depth (expr.Tree d) ≡ 1 + doc_depth d
expr_depth-Tree d = expr_layer (expr.Tree d) (Expr-F.Tree d) (expr.outs-Tree d)

pub expr_depth-Prim : (op : Op) (es : List Expr) → expr_depth (expr.Prim op es) ≡ 1 + most (map expr_depth es)
expr_depth-Prim op es = expr_layer (expr.Prim op es) (Expr-F.Prim op es) (expr.outs-Prim op es)

pub doc_depth-Text : (x text : List ℕ) → doc_depth (doc.Text x text) ≡ 1
doc_depth-Text x text = doc_layer (doc.Text x text) (Doc-F.Text x text) (doc.outs-Text x text)

pub doc_depth-Link : (x : List ℕ) (url : Url) (label : List ℕ) → doc_depth (doc.Link x url label) ≡ 1
doc_depth-Link x url label = doc_layer (doc.Link x url label) (Doc-F.Link x url label) (doc.outs-Link x url label)

pub doc_depth-TextBox : (x text : List ℕ) (hs : List Handler) → doc_depth (doc.TextBox x text hs) ≡ 1 + most (map handler_depth hs)
doc_depth-TextBox x text hs = doc_layer (doc.TextBox x text hs) (Doc-F.TextBox x text hs) (doc.outs-TextBox x text hs)

pub doc_depth-Button : (x text : List ℕ) (hs : List Handler) → doc_depth (doc.Button x text hs) ≡ 1 + most (map handler_depth hs)
doc_depth-Button x text hs = doc_layer (doc.Button x text hs) (Doc-F.Button x text hs) (doc.outs-Button x text hs)

pub doc_depth-Script : (x : List ℕ) (e : Expr) → doc_depth (doc.Script x e) ≡ 1 + expr_depth e
doc_depth-Script x e = doc_layer (doc.Script x e) (Doc-F.Script x e) (doc.outs-Script x e)

pub doc_depth-Src : (x : List ℕ) (url : Url) → doc_depth (doc.Src x url) ≡ 1
doc_depth-Src x url = doc_layer (doc.Src x url) (Doc-F.Src x url) (doc.outs-Src x url)

pub doc_depth-Div : (x : List ℕ) (ds : List Doc) → doc_depth (doc.Div x ds) ≡ 1 + most (map doc_depth ds)
doc_depth-Div x ds = doc_layer (doc.Div x ds) (Doc-F.Div x ds) (doc.outs-Div x ds)
