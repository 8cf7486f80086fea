-- A document, an expression or a handler is spelled exactly where its first layer is and its parts
-- are spelled.
use Rattle.std.proofs.Common.{◌≡◌, ◌≤◌, ℕ, List, [], ◌∷◌, length, map, refl, sym, ap, ◌∙◌}
use Rattle.std.proofs.lemmas.List.{length-map}
use Rattle.std.specs.List.{AllByRecursion}
use Rattle.std.specs.Str.{IsUtf8}
use Rattle.ff_name.specs.Spelling.{IsName}
use Rattle.ff_tree.specs.declared.tree.Doc.{Doc}
use Rattle.ff_tree.specs.declared.tree.Expr.{Expr}
use Rattle.ff_tree.specs.declared.tree.Handler.{Handler}
use Rattle.ff_tree.specs.declared.tree.Doc.TheOpen.{Doc-F, Expr-F, Handler-F}
use Rattle.ff_tree.specs.declared.tree.Doc.TheViews.{out-Doc, out-Expr, out-Handler, roll-out-Doc, roll-out-Expr, roll-out-Handler}
use Rattle.ff_tree.specs.declared.tree.Doc.TheFolds.{map-Doc, map-Expr, map-Handler, rec-roll-Doc, rec-roll-Expr, rec-roll-Handler}
use Rattle.ff_tree.specs.declared.op.Op.{Op}
use Rattle.ff_tree.specs.declared.tree.Lit.{Lit}
use Rattle.ff_tree.specs.declared.tree.Doc.TheVariants as doc
use Rattle.ff_tree.specs.declared.tree.Expr.TheVariants as expr
use Rattle.ff_name.specs.Address.{IsWellSpelled}
use Rattle.ff_name.specs.declared.urls.Url.{Url}
use Rattle.ff_tree.specs.Ops.{arity_of}
use Rattle.ff_tree.specs.Spelled.{IsVar, IsLit, AreParams, doc_spelled, expr_spelled, handler_spelled, IsSpelledDoc, IsSpelledExpr, IsSpelledHandler}

-- each of the values of f at the items
all_mapped : {A B : Type 0} (f : A → B) (P : B → Type 0) (xs : List A) → AllByRecursion (λ x. P (f x)) xs ≡ AllByRecursion P (map f xs)
all_mapped f P [] = refl
all_mapped f P (x ∷ xs) = ap (λ (T : Type 0). P (f x) × T) (all_mapped f P xs)

-- The rules of one layer speak of its parts alone, whatever stands for them.

expr_of_parts : (D E H : Type 0) (d : D → Doc) (e : E → Expr) (h : H → Handler) (doc : Doc → Type 0) (expr : Expr → Type 0) (handler : Handler → Type 0)
    (x : Expr-F D E H) → expr_spelled D E H (λ p. doc (d p)) (λ p. expr (e p)) (λ p. handler (h p)) x
    ≡ expr_spelled Doc Expr Handler doc expr handler (map-Expr D E H Doc Expr Handler d e h x)
expr_of_parts D E H d e h doc expr handler (Expr-F.Lit l) = refl
expr_of_parts D E H d e h doc expr handler (Expr-F.Var n) = refl
expr_of_parts D E H d e h doc expr handler (Expr-F.Let n a) = refl
expr_of_parts D E H d e h doc expr handler (Expr-F.Set n a) = refl
expr_of_parts D E H d e h doc expr handler (Expr-F.If a b c) = refl
expr_of_parts D E H d e h doc expr handler (Expr-F.While a b) = refl
expr_of_parts D E H d e h doc expr handler (Expr-F.And a b) = refl
expr_of_parts D E H d e h doc expr handler (Expr-F.Or a b) = refl
expr_of_parts D E H d e h doc expr handler (Expr-F.Make ns a) = refl
expr_of_parts D E H d e h doc expr handler (Expr-F.Tree t) = refl
expr_of_parts D E H d e h doc expr handler (Expr-F.Do all) = all_mapped e expr all
expr_of_parts D E H d e h doc expr handler (Expr-F.Apply a all) = ap (λ (T : Type 0). expr (e a) × T) (all_mapped e expr all)
expr_of_parts D E H d e h doc expr handler (Expr-F.Prim op all) =
    ap (λ k. (k ≡ arity_of op) × AllByRecursion (λ p. expr (e p)) all) (sym (length-map all e))
    ∙ ap (λ (T : Type 0). (length (map e all) ≡ arity_of op) × T) (all_mapped e expr all)

handler_of_parts : (D E H : Type 0) (d : D → Doc) (e : E → Expr) (h : H → Handler) (doc : Doc → Type 0) (expr : Expr → Type 0) (handler : Handler → Type 0)
    (x : Handler-F D E H) → handler_spelled D E H (λ p. doc (d p)) (λ p. expr (e p)) (λ p. handler (h p)) x
    ≡ handler_spelled Doc Expr Handler doc expr handler (map-Handler D E H Doc Expr Handler d e h x)
handler_of_parts D E H d e h doc expr handler x = refl

doc_of_parts : (D E H : Type 0) (d : D → Doc) (e : E → Expr) (h : H → Handler) (doc : Doc → Type 0) (expr : Expr → Type 0) (handler : Handler → Type 0)
    (x : Doc-F D E H) → doc_spelled D E H (λ p. doc (d p)) (λ p. expr (e p)) (λ p. handler (h p)) x
    ≡ doc_spelled Doc Expr Handler doc expr handler (map-Doc D E H Doc Expr Handler d e h x)
doc_of_parts D E H d e h doc expr handler (Doc-F.Text n t) = refl
doc_of_parts D E H d e h doc expr handler (Doc-F.Link n u t) = refl
doc_of_parts D E H d e h doc expr handler (Doc-F.Script n a) = refl
doc_of_parts D E H d e h doc expr handler (Doc-F.Src n u) = refl
doc_of_parts D E H d e h doc expr handler (Doc-F.TextBox n t hs) =
    ap (λ k. IsName n × IsUtf8 t × (k ≤ 16) × AllByRecursion (λ p. handler (h p)) hs) (sym (length-map hs h))
    ∙ ap (λ (T : Type 0). IsName n × IsUtf8 t × (length (map h hs) ≤ 16) × T) (all_mapped h handler hs)
doc_of_parts D E H d e h doc expr handler (Doc-F.Button n t hs) =
    ap (λ k. IsName n × IsUtf8 t × (k ≤ 16) × AllByRecursion (λ p. handler (h p)) hs) (sym (length-map hs h))
    ∙ ap (λ (T : Type 0). IsName n × IsUtf8 t × (length (map h hs) ≤ 16) × T) (all_mapped h handler hs)
doc_of_parts D E H d e h doc expr handler (Doc-F.Div n ds) = ap (λ (T : Type 0). IsName n × T) (all_mapped d doc ds)

pub IsSpelledExpr-out : (x : Expr) → IsSpelledExpr x ≡ expr_spelled Doc Expr Handler IsSpelledDoc IsSpelledExpr IsSpelledHandler (out-Expr x)
unfolding IsSpelledDoc IsSpelledExpr IsSpelledHandler
IsSpelledExpr-out x = ap IsSpelledExpr (sym (roll-out-Expr x)) ∙ rec-roll-Expr (Type 0) (Type 0) (Type 0)
    (λ D E H _ _ _. doc_spelled D E H) (λ D E H _ _ _. expr_spelled D E H) (λ D E H _ _ _. handler_spelled D E H) expr_of_parts (out-Expr x)

pub IsSpelledDoc-out : (x : Doc) → IsSpelledDoc x ≡ doc_spelled Doc Expr Handler IsSpelledDoc IsSpelledExpr IsSpelledHandler (out-Doc x)
unfolding IsSpelledDoc IsSpelledExpr IsSpelledHandler
IsSpelledDoc-out x = ap IsSpelledDoc (sym (roll-out-Doc x)) ∙ rec-roll-Doc (Type 0) (Type 0) (Type 0)
    (λ D E H _ _ _. doc_spelled D E H) (λ D E H _ _ _. expr_spelled D E H) (λ D E H _ _ _. handler_spelled D E H) doc_of_parts (out-Doc x)

pub IsSpelledHandler-out : (x : Handler) → IsSpelledHandler x ≡ handler_spelled Doc Expr Handler IsSpelledDoc IsSpelledExpr IsSpelledHandler (out-Handler x)
unfolding IsSpelledDoc IsSpelledExpr IsSpelledHandler
IsSpelledHandler-out x = ap IsSpelledHandler (sym (roll-out-Handler x)) ∙ rec-roll-Handler (Type 0) (Type 0) (Type 0)
    (λ D E H _ _ _. doc_spelled D E H) (λ D E H _ _ _. expr_spelled D E H) (λ D E H _ _ _. handler_spelled D E H) handler_of_parts (out-Handler x)

-- the rules of a layer that is known
expr_layer : (x : Expr) (layer : Expr-F Doc Expr Handler) → out-Expr x ≡ layer → IsSpelledExpr x ≡ expr_spelled Doc Expr Handler IsSpelledDoc IsSpelledExpr IsSpelledHandler layer
expr_layer x layer e = IsSpelledExpr-out x ∙ ap (expr_spelled Doc Expr Handler IsSpelledDoc IsSpelledExpr IsSpelledHandler) e

doc_layer : (x : Doc) (layer : Doc-F Doc Expr Handler) → out-Doc x ≡ layer → IsSpelledDoc x ≡ doc_spelled Doc Expr Handler IsSpelledDoc IsSpelledExpr IsSpelledHandler layer
doc_layer x layer e = IsSpelledDoc-out x ∙ ap (doc_spelled Doc Expr Handler IsSpelledDoc IsSpelledExpr IsSpelledHandler) e

pub IsSpelledExpr-Lit : (l : Lit) → IsSpelledExpr (expr.Lit l) ≡ IsLit l
IsSpelledExpr-Lit l = expr_layer (expr.Lit l) (Expr-F.Lit l) (expr.outs-Lit l)

pub IsSpelledExpr-Var : (x : List ℕ) → IsSpelledExpr (expr.Var x) ≡ IsVar x
IsSpelledExpr-Var x = expr_layer (expr.Var x) (Expr-F.Var x) (expr.outs-Var x)

pub IsSpelledExpr-Let : (x : List ℕ) (e : Expr) → IsSpelledExpr (expr.Let x e) ≡ (IsVar x × IsSpelledExpr e)
IsSpelledExpr-Let x e = expr_layer (expr.Let x e) (Expr-F.Let x e) (expr.outs-Let x e)

pub IsSpelledExpr-Set : (x : List ℕ) (e : Expr) → IsSpelledExpr (expr.Set x e) ≡ (IsVar x × IsSpelledExpr e)
IsSpelledExpr-Set x e = expr_layer (expr.Set x e) (Expr-F.Set x e) (expr.outs-Set x e)

pub IsSpelledExpr-If : (e f g : Expr) → IsSpelledExpr (expr.If e f g) ≡ (IsSpelledExpr e × IsSpelledExpr f × IsSpelledExpr g)
IsSpelledExpr-If e f g = expr_layer (expr.If e f g) (Expr-F.If e f g) (expr.outs-If e f g)

pub IsSpelledExpr-While : (e f : Expr) → IsSpelledExpr (expr.While e f) ≡ (IsSpelledExpr e × IsSpelledExpr f)
IsSpelledExpr-While e f = expr_layer (expr.While e f) (Expr-F.While e f) (expr.outs-While e f)

pub IsSpelledExpr-Do : (es : List Expr) → IsSpelledExpr (expr.Do es) ≡ AllByRecursion IsSpelledExpr es
IsSpelledExpr-Do es = expr_layer (expr.Do es) (Expr-F.Do es) (expr.outs-Do es)

pub IsSpelledExpr-And : (e f : Expr) → IsSpelledExpr (expr.And e f) ≡ (IsSpelledExpr e × IsSpelledExpr f)
IsSpelledExpr-And e f = expr_layer (expr.And e f) (Expr-F.And e f) (expr.outs-And e f)

pub IsSpelledExpr-Or : (e f : Expr) → IsSpelledExpr (expr.Or e f) ≡ (IsSpelledExpr e × IsSpelledExpr f)
IsSpelledExpr-Or e f = expr_layer (expr.Or e f) (Expr-F.Or e f) (expr.outs-Or e f)

pub IsSpelledExpr-Make : (params : List (List ℕ)) (e : Expr) → IsSpelledExpr (expr.Make params e) ≡ (AreParams params × IsSpelledExpr e)
IsSpelledExpr-Make params e = expr_layer (expr.Make params e) (Expr-F.Make params e) (expr.outs-Make params e)

pub IsSpelledExpr-Apply : (e : Expr) (es : List Expr) → IsSpelledExpr (expr.Apply e es) ≡ (IsSpelledExpr e × AllByRecursion IsSpelledExpr es)
IsSpelledExpr-Apply e es = expr_layer (expr.Apply e es) (Expr-F.Apply e es) (expr.outs-Apply e es)

pub IsSpelledExpr-Tree : (d : Doc) → IsSpelledExpr (expr.Tree d) ≡ IsSpelledDoc d
IsSpelledExpr-Tree d = expr_layer (expr.Tree d) (Expr-F.Tree d) (expr.outs-Tree d)

pub IsSpelledExpr-Prim : (op : Op) (es : List Expr) → IsSpelledExpr (expr.Prim op es) ≡ ((length es ≡ arity_of op) × AllByRecursion IsSpelledExpr es)
IsSpelledExpr-Prim op es = expr_layer (expr.Prim op es) (Expr-F.Prim op es) (expr.outs-Prim op es)

pub IsSpelledDoc-Text : (x text : List ℕ) → IsSpelledDoc (doc.Text x text) ≡ (IsName x × IsUtf8 text)
IsSpelledDoc-Text x text = doc_layer (doc.Text x text) (Doc-F.Text x text) (doc.outs-Text x text)

pub IsSpelledDoc-Link : (x : List ℕ) (url : Url) (label : List ℕ) → IsSpelledDoc (doc.Link x url label) ≡ (IsName x × IsWellSpelled url × IsUtf8 label)
IsSpelledDoc-Link x url label = doc_layer (doc.Link x url label) (Doc-F.Link x url label) (doc.outs-Link x url label)

pub IsSpelledDoc-TextBox : (x text : List ℕ) (hs : List Handler) → IsSpelledDoc (doc.TextBox x text hs) ≡ (IsName x × IsUtf8 text × (length hs ≤ 16) × AllByRecursion IsSpelledHandler hs)
IsSpelledDoc-TextBox x text hs = doc_layer (doc.TextBox x text hs) (Doc-F.TextBox x text hs) (doc.outs-TextBox x text hs)

pub IsSpelledDoc-Button : (x label : List ℕ) (hs : List Handler) → IsSpelledDoc (doc.Button x label hs) ≡ (IsName x × IsUtf8 label × (length hs ≤ 16) × AllByRecursion IsSpelledHandler hs)
IsSpelledDoc-Button x label hs = doc_layer (doc.Button x label hs) (Doc-F.Button x label hs) (doc.outs-Button x label hs)

pub IsSpelledDoc-Script : (x : List ℕ) (e : Expr) → IsSpelledDoc (doc.Script x e) ≡ (IsName x × IsSpelledExpr e)
IsSpelledDoc-Script x e = doc_layer (doc.Script x e) (Doc-F.Script x e) (doc.outs-Script x e)

pub IsSpelledDoc-Src : (x : List ℕ) (url : Url) → IsSpelledDoc (doc.Src x url) ≡ (IsName x × IsWellSpelled url)
IsSpelledDoc-Src x url = doc_layer (doc.Src x url) (Doc-F.Src x url) (doc.outs-Src x url)

pub IsSpelledDoc-Div : (x : List ℕ) (ds : List Doc) → IsSpelledDoc (doc.Div x ds) ≡ (IsName x × AllByRecursion IsSpelledDoc ds)
IsSpelledDoc-Div x ds = doc_layer (doc.Div x ds) (Doc-F.Div x ds) (doc.outs-Div x ds)
