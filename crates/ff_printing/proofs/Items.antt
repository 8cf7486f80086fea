-- One layer of the item that stands for a document, an expression, a handler or what the user is
-- shown.
use Rattle.std.proofs.Common.{◌≡◌, ℕ, List, [], ◌∷◌, map}
use Rattle.std.specs.Prelude.{codes}
use denote.Hole.Carrier
use Rattle.ff_name.specs.declared.urls.Url.{Url}
use Rattle.ff_text.specs.declared.items.Sexp.{Sexp}
use Rattle.ff_tree.specs.Ops.{word_of}
use Rattle.ff_tree.specs.declared.op.Op.{Op}
use Rattle.ff_tree.specs.declared.tree.Lit.{Lit}
use Rattle.ff_tree.specs.declared.tree.Doc.{Doc}
use Rattle.ff_tree.specs.declared.tree.Expr.{Expr}
use Rattle.ff_tree.specs.declared.tree.Handler.{Handler}
use Rattle.ff_tree.specs.declared.tree.Doc.TheVariants as doc
use Rattle.ff_tree.specs.declared.tree.Expr.TheVariants as expr
use Rattle.ff_tree.specs.declared.tree.Doc.TheOpen.{Doc-F, Expr-F}
use Rattle.ff_tree.specs.declared.tree.Doc.TheViews.{roll-Doc, roll-Expr, roll-Handler}
use Rattle.ff_tree.specs.declared.tree.Doc.TheFolds.{fold-roll-Doc, fold-roll-Expr, fold-roll-Handler}
use Rattle.ff_value.specs.declared.output.ShownPart.{ShownPart}
use Rattle.ff_value.specs.declared.output.ShownPart.TheVariants as shown_part
use Rattle.ff_value.specs.declared.output.ShownPart.TheOpen.{ShownPart-F}
use Rattle.ff_value.specs.declared.output.ShownPart.TheViews.{roll-ShownPart}
use Rattle.ff_value.specs.declared.output.ShownPart.TheFolds.{fold-roll-ShownPart}
use Rattle.ff_forms.specs.Canonical.{word, string, parens, address, lit_item, expr_form, handler_form, doc_form, shown_part_form, expr_item, handler_item, doc_item, shown_part_item}

pub expr_item-Lit : (l : Lit) → expr_item (expr.Lit l) ≡ lit_item l
unfolding roll-Expr denote.Hole.Carrier.roll
expr_item-Lit l = fold-roll-Expr Sexp Sexp Sexp doc_form expr_form handler_form (Expr-F.Lit l)

pub expr_item-Var : (x : List ℕ) → expr_item (expr.Var x) ≡ word x
unfolding roll-Expr denote.Hole.Carrier.roll
expr_item-Var x = fold-roll-Expr Sexp Sexp Sexp doc_form expr_form handler_form (Expr-F.Var x)

pub expr_item-Let : (x : List ℕ) (e : Expr) → expr_item (expr.Let x e) ≡ parens (word (codes "let") ∷ word x ∷ expr_item e ∷ [])
unfolding roll-Expr denote.Hole.Carrier.roll
expr_item-Let x e = fold-roll-Expr Sexp Sexp Sexp doc_form expr_form handler_form (Expr-F.Let x e)

pub expr_item-Set : (x : List ℕ) (e : Expr) → expr_item (expr.Set x e) ≡ parens (word (codes "set") ∷ word x ∷ expr_item e ∷ [])
unfolding roll-Expr denote.Hole.Carrier.roll
expr_item-Set x e = fold-roll-Expr Sexp Sexp Sexp doc_form expr_form handler_form (Expr-F.Set x e)

pub expr_item-If : (e f g : Expr) → expr_item (expr.If e f g) ≡ parens (word (codes "if") ∷ expr_item e ∷ expr_item f ∷ expr_item g ∷ [])
unfolding roll-Expr denote.Hole.Carrier.roll
expr_item-If e f g = fold-roll-Expr Sexp Sexp Sexp doc_form expr_form handler_form (Expr-F.If e f g)

pub expr_item-While : (e f : Expr) → expr_item (expr.While e f) ≡ parens (word (codes "while") ∷ expr_item e ∷ expr_item f ∷ [])
unfolding roll-Expr denote.Hole.Carrier.roll
expr_item-While e f = fold-roll-Expr Sexp Sexp Sexp doc_form expr_form handler_form (Expr-F.While e f)

pub expr_item-Do : (es : List Expr) → expr_item (expr.Do es) ≡ parens (word (codes "do") ∷ map expr_item es)
unfolding roll-Expr denote.Hole.Carrier.roll
expr_item-Do es = fold-roll-Expr Sexp Sexp Sexp doc_form expr_form handler_form (Expr-F.Do es)

pub expr_item-And : (e f : Expr) → expr_item (expr.And e f) ≡ parens (word (codes "and") ∷ expr_item e ∷ expr_item f ∷ [])
unfolding roll-Expr denote.Hole.Carrier.roll
expr_item-And e f = fold-roll-Expr Sexp Sexp Sexp doc_form expr_form handler_form (Expr-F.And e f)

pub expr_item-Or : (e f : Expr) → expr_item (expr.Or e f) ≡ parens (word (codes "or") ∷ expr_item e ∷ expr_item f ∷ [])
unfolding roll-Expr denote.Hole.Carrier.roll
expr_item-Or e f = fold-roll-Expr Sexp Sexp Sexp doc_form expr_form handler_form (Expr-F.Or e f)

pub expr_item-Make : (params : List (List ℕ)) (e : Expr) → expr_item (expr.Make params e) ≡ parens (word (codes "fn") ∷ parens (map word params) ∷ expr_item e ∷ [])
unfolding roll-Expr denote.Hole.Carrier.roll
expr_item-Make params e = fold-roll-Expr Sexp Sexp Sexp doc_form expr_form handler_form (Expr-F.Make params e)

pub expr_item-Apply : (e : Expr) (es : List Expr) → expr_item (expr.Apply e es) ≡ parens (word (codes "call") ∷ expr_item e ∷ map expr_item es)
unfolding roll-Expr denote.Hole.Carrier.roll
expr_item-Apply e es = fold-roll-Expr Sexp Sexp Sexp doc_form expr_form handler_form (Expr-F.Apply e es)

pub expr_item-Tree : (d : Doc) → expr_item (expr.Tree d) ≡ parens (word (codes "new") ∷ doc_item d ∷ [])
unfolding roll-Expr denote.Hole.Carrier.roll
expr_item-Tree d = fold-roll-Expr Sexp Sexp Sexp doc_form expr_form handler_form (Expr-F.Tree d)

pub expr_item-Prim : (op : Op) (es : List Expr) → expr_item (expr.Prim op es) ≡ parens (word (word_of op) ∷ map expr_item es)
unfolding roll-Expr denote.Hole.Carrier.roll
expr_item-Prim op es = fold-roll-Expr Sexp Sexp Sexp doc_form expr_form handler_form (Expr-F.Prim op es)

pub doc_item-Text : (x text : List ℕ) → doc_item (doc.Text x text) ≡ parens (word (codes "text") ∷ word x ∷ string text ∷ [])
unfolding roll-Doc denote.Hole.Carrier.roll
doc_item-Text x text = fold-roll-Doc Sexp Sexp Sexp doc_form expr_form handler_form (Doc-F.Text x text)

pub doc_item-Link : (x : List ℕ) (url : Url) (label : List ℕ) → doc_item (doc.Link x url label) ≡ parens (word (codes "link") ∷ word x ∷ address url ∷ string label ∷ [])
unfolding roll-Doc denote.Hole.Carrier.roll
doc_item-Link x url label = fold-roll-Doc Sexp Sexp Sexp doc_form expr_form handler_form (Doc-F.Link x url label)

pub doc_item-TextBox : (x text : List ℕ) (hs : List Handler) → doc_item (doc.TextBox x text hs) ≡ parens (word (codes "box") ∷ word x ∷ string text ∷ map handler_item hs)
unfolding roll-Doc denote.Hole.Carrier.roll
doc_item-TextBox x text hs = fold-roll-Doc Sexp Sexp Sexp doc_form expr_form handler_form (Doc-F.TextBox x text hs)

pub doc_item-Button : (x label : List ℕ) (hs : List Handler) → doc_item (doc.Button x label hs) ≡ parens (word (codes "button") ∷ word x ∷ string label ∷ map handler_item hs)
unfolding roll-Doc denote.Hole.Carrier.roll
doc_item-Button x label hs = fold-roll-Doc Sexp Sexp Sexp doc_form expr_form handler_form (Doc-F.Button x label hs)

pub doc_item-Script : (x : List ℕ) (e : Expr) → doc_item (doc.Script x e) ≡ parens (word (codes "script") ∷ word x ∷ expr_item e ∷ [])
unfolding roll-Doc denote.Hole.Carrier.roll
doc_item-Script x e = fold-roll-Doc Sexp Sexp Sexp doc_form expr_form handler_form (Doc-F.Script x e)

pub doc_item-Src : (x : List ℕ) (url : Url) → doc_item (doc.Src x url) ≡ parens (word (codes "src") ∷ word x ∷ address url ∷ [])
unfolding roll-Doc denote.Hole.Carrier.roll
doc_item-Src x url = fold-roll-Doc Sexp Sexp Sexp doc_form expr_form handler_form (Doc-F.Src x url)

pub doc_item-Div : (x : List ℕ) (ds : List Doc) → doc_item (doc.Div x ds) ≡ parens (word (codes "div") ∷ word x ∷ map doc_item ds)
unfolding roll-Doc denote.Hole.Carrier.roll
doc_item-Div x ds = fold-roll-Doc Sexp Sexp Sexp doc_form expr_form handler_form (Doc-F.Div x ds)

pub handler_item-is : (x : List ℕ) (e : Expr) → handler_item (roll-Handler (record { param = x; body = e })) ≡ parens (word (codes "fn") ∷ parens (word x ∷ []) ∷ expr_item e ∷ [])
handler_item-is x e = fold-roll-Handler Sexp Sexp Sexp doc_form expr_form handler_form (record { param = x; body = e })

pub shown_part_item-Text : (text : List ℕ) → shown_part_item (shown_part.Text text) ≡ parens (word (codes "text") ∷ string text ∷ [])
unfolding roll-ShownPart denote.Hole.Carrier.roll
shown_part_item-Text text = fold-roll-ShownPart Sexp shown_part_form (ShownPart-F.Text text)

pub shown_part_item-Link : (url : Url) (label : List ℕ) → shown_part_item (shown_part.Link url label) ≡ parens (word (codes "link") ∷ address url ∷ string label ∷ [])
unfolding roll-ShownPart denote.Hole.Carrier.roll
shown_part_item-Link url label = fold-roll-ShownPart Sexp shown_part_form (ShownPart-F.Link url label)

pub shown_part_item-TextBox : (text : List ℕ) → shown_part_item (shown_part.TextBox text) ≡ parens (word (codes "box") ∷ string text ∷ [])
unfolding roll-ShownPart denote.Hole.Carrier.roll
shown_part_item-TextBox text = fold-roll-ShownPart Sexp shown_part_form (ShownPart-F.TextBox text)

pub shown_part_item-Button : (label : List ℕ) → shown_part_item (shown_part.Button label) ≡ parens (word (codes "button") ∷ string label ∷ [])
unfolding roll-ShownPart denote.Hole.Carrier.roll
shown_part_item-Button label = fold-roll-ShownPart Sexp shown_part_form (ShownPart-F.Button label)

pub shown_part_item-Div : (parts : List ShownPart) → shown_part_item (shown_part.Div parts) ≡ parens (word (codes "div") ∷ map shown_part_item parts)
unfolding roll-ShownPart denote.Hole.Carrier.roll
shown_part_item-Div parts = fold-roll-ShownPart Sexp shown_part_form (ShownPart-F.Div parts)
