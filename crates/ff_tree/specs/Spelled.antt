-- Which documents and expressions the notation can spell, and how deep their lists nest.
use Rattle.std.specs.Prelude.{◌≡◌, ◌≢◌, ◌≤◌, ◌+◌, ℕ, max, List, [], ◌∷◌, length, codes, FitsSigned}
use Rattle.std.specs.Int.{w64}
use Rattle.std.specs.List.{AllByRecursion}
use Rattle.std.specs.Str.{IsUtf8}
use Rattle.ff_name.specs.Spelling.{IsName}
use Rattle.ff_name.specs.Address.{IsWellSpelled}
use Rattle.ff_name.specs.declared.limits.TheConstants.{MOST_DEPTH}
use Rattle.ff_tree.specs.declared.limits.TheConstants.{MOST_HANDLERS}
use Rattle.ff_tree.specs.Ops.{arity_of}
use Rattle.ff_tree.specs.declared.tree.Lit.{Lit}
use Rattle.ff_tree.specs.declared.tree.Lit.TheVariants as lit
use Rattle.ff_tree.specs.declared.tree.Doc.{Doc}
use Rattle.ff_tree.specs.declared.tree.Expr.{Expr}
use Rattle.ff_tree.specs.declared.tree.Handler.{Handler}
use Rattle.ff_tree.specs.declared.tree.Doc.TheOpen.{Doc-F, Expr-F, Handler-F}
use Rattle.ff_tree.specs.declared.tree.Doc.TheFolds.{fold-Doc, fold-Expr, fold-Handler, rec-Doc, rec-Expr, rec-Handler}

-- a name that a variable may have
pub record IsVar (x : List ℕ) : Type 0 where
  pub name : IsName x
  pub not_null : x ≢ codes "null"
  pub not_true : x ≢ codes "true"
  pub not_false : x ≢ codes "false"

-- no two of them are equal
abbrev pub Differ : List (List ℕ) → Type 0
Differ [] = Unit {0}
Differ (x ∷ xs) = AllByRecursion (λ y. x ≢ y) xs × Differ xs

-- the parameters of a function: variables that differ
pub record AreParams (xs : List (List ℕ)) : Type 0 where
  pub vars : AllByRecursion IsVar xs
  pub differ : Differ xs

abbrev pub IsLit : Lit → Type 0
IsLit lit.Null = Unit {0}
IsLit (lit.Bool b) = Unit {0}
IsLit (lit.Num n) = FitsSigned w64 n
IsLit (lit.Str text) = IsUtf8 text

-- an expression is spelled, where `doc`, `expr` and `handler` say of its parts that they are
abbrev pub expr_spelled : (D E H : Type 0) → (D → Type 0) → (E → Type 0) → (H → Type 0) → Expr-F D E H → Type 0
expr_spelled D E H doc expr handler (Expr-F.Lit l) = IsLit l
expr_spelled D E H doc expr handler (Expr-F.Var x) = IsVar x
expr_spelled D E H doc expr handler (Expr-F.Let x e) = IsVar x × expr e
expr_spelled D E H doc expr handler (Expr-F.Set x e) = IsVar x × expr e
expr_spelled D E H doc expr handler (Expr-F.If e f g) = expr e × expr f × expr g
expr_spelled D E H doc expr handler (Expr-F.While e f) = expr e × expr f
expr_spelled D E H doc expr handler (Expr-F.Do es) = AllByRecursion expr es
expr_spelled D E H doc expr handler (Expr-F.And e f) = expr e × expr f
expr_spelled D E H doc expr handler (Expr-F.Or e f) = expr e × expr f
expr_spelled D E H doc expr handler (Expr-F.Make params e) = AreParams params × expr e
expr_spelled D E H doc expr handler (Expr-F.Apply e es) = expr e × AllByRecursion expr es
expr_spelled D E H doc expr handler (Expr-F.Tree d) = doc d
expr_spelled D E H doc expr handler (Expr-F.Prim op es) = (length es ≡ arity_of op) × AllByRecursion expr es

abbrev pub handler_spelled : (D E H : Type 0) → (D → Type 0) → (E → Type 0) → (H → Type 0) → Handler-F D E H → Type 0
handler_spelled D E H doc expr handler h = IsVar h.param × expr h.body

abbrev pub doc_spelled : (D E H : Type 0) → (D → Type 0) → (E → Type 0) → (H → Type 0) → Doc-F D E H → Type 0
doc_spelled D E H doc expr handler (Doc-F.Text x text) = IsName x × IsUtf8 text
doc_spelled D E H doc expr handler (Doc-F.Link x url label) = IsName x × IsWellSpelled url × IsUtf8 label
doc_spelled D E H doc expr handler (Doc-F.TextBox x text hs) = IsName x × IsUtf8 text × (length hs ≤ MOST_HANDLERS) × AllByRecursion handler hs
doc_spelled D E H doc expr handler (Doc-F.Button x label hs) = IsName x × IsUtf8 label × (length hs ≤ MOST_HANDLERS) × AllByRecursion handler hs
doc_spelled D E H doc expr handler (Doc-F.Script x e) = IsName x × expr e
doc_spelled D E H doc expr handler (Doc-F.Src x url) = IsName x × IsWellSpelled url
doc_spelled D E H doc expr handler (Doc-F.Div x ds) = IsName x × AllByRecursion doc ds

-- the notation spells the document, in whatever depth
unfoldable pub IsSpelledDoc : Doc → Type 0
IsSpelledDoc = rec-Doc (Type 0) (Type 0) (Type 0)
    (λ D E H _ _ _. doc_spelled D E H) (λ D E H _ _ _. expr_spelled D E H) (λ D E H _ _ _. handler_spelled D E H)

-- the same of an expression
unfoldable pub IsSpelledExpr : Expr → Type 0
IsSpelledExpr = rec-Expr (Type 0) (Type 0) (Type 0)
    (λ D E H _ _ _. doc_spelled D E H) (λ D E H _ _ _. expr_spelled D E H) (λ D E H _ _ _. handler_spelled D E H)

-- the same of a handler
unfoldable pub IsSpelledHandler : Handler → Type 0
IsSpelledHandler = rec-Handler (Type 0) (Type 0) (Type 0)
    (λ D E H _ _ _. doc_spelled D E H) (λ D E H _ _ _. expr_spelled D E H) (λ D E H _ _ _. handler_spelled D E H)

-- the largest of the numbers, 0 where there is none
abbrev pub most : List ℕ → ℕ
most [] = 0
most (n ∷ ns) = max n (most ns)

-- how deep the lists of a form nest, where those of its parts nest as deep as stands in their
-- places
abbrev pub expr_nesting : Expr-F ℕ ℕ ℕ → ℕ
expr_nesting (Expr-F.Lit l) = 0
expr_nesting (Expr-F.Var x) = 0
expr_nesting (Expr-F.Let x e) = 1 + e
expr_nesting (Expr-F.Set x e) = 1 + e
expr_nesting (Expr-F.If e f g) = 1 + max e (max f g)
expr_nesting (Expr-F.While e f) = 1 + max e f
expr_nesting (Expr-F.Do es) = 1 + most es
expr_nesting (Expr-F.And e f) = 1 + max e f
expr_nesting (Expr-F.Or e f) = 1 + max e f
expr_nesting (Expr-F.Make params e) = 1 + max 1 e
expr_nesting (Expr-F.Apply e es) = 1 + max e (most es)
expr_nesting (Expr-F.Tree doc) = 1 + doc
expr_nesting (Expr-F.Prim op es) = 1 + most es

abbrev pub handler_nesting : Handler-F ℕ ℕ ℕ → ℕ
handler_nesting handler = 1 + max 1 handler.body

abbrev pub doc_nesting : Doc-F ℕ ℕ ℕ → ℕ
doc_nesting (Doc-F.Text x text) = 1
doc_nesting (Doc-F.Link x url label) = 1
doc_nesting (Doc-F.TextBox x text handlers) = 1 + most handlers
doc_nesting (Doc-F.Button x label handlers) = 1 + most handlers
doc_nesting (Doc-F.Script x e) = 1 + e
doc_nesting (Doc-F.Src x url) = 1
doc_nesting (Doc-F.Div x docs) = 1 + most docs

abbrev pub doc_depth : Doc → ℕ
doc_depth = fold-Doc ℕ ℕ ℕ doc_nesting expr_nesting handler_nesting

abbrev pub expr_depth : Expr → ℕ
expr_depth = fold-Expr ℕ ℕ ℕ doc_nesting expr_nesting handler_nesting

abbrev pub handler_depth : Handler → ℕ
handler_depth = fold-Handler ℕ ℕ ℕ doc_nesting expr_nesting handler_nesting

-- the notation spells the document, and its lists nest no deeper than they may
pub record IsWellSpelledDoc (doc : Doc) : Type 0 where
  pub spelled : IsSpelledDoc doc
  pub shallow : doc_depth doc ≤ MOST_DEPTH

-- the notation spells the expression, and its lists nest no deeper than they may
pub record IsWellSpelledExpr (expr : Expr) : Type 0 where
  pub spelled : IsSpelledExpr expr
  pub shallow : expr_depth expr ≤ MOST_DEPTH
