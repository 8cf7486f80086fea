-- Which items spell which documents, expressions and responses: a rule for each form.
use Rattle.std.specs.Prelude.{◌≡◌, ◌≤◌, ℕ, ℤ, true, false, List, [], ◌∷◌, length, codes, FitsSigned}
use Rattle.std.specs.Int.{w64}
use Rattle.ff_number.specs.Decimal.{num_text}
use Rattle.ff_name.specs.Spelling.{IsName}
use Rattle.ff_name.specs.Address.{Spells}
use Rattle.ff_name.specs.declared.urls.Url.{Url}
use Rattle.ff_tree.specs.Ops.{word_of, arity_of}
use Rattle.ff_tree.specs.Spelled.{IsVar, AreParams}
use Rattle.ff_tree.specs.declared.op.Op.{Op}
use Rattle.ff_tree.specs.declared.tree.Lit.TheVariants as lit
use Rattle.ff_tree.specs.declared.tree.Doc.{Doc}
use Rattle.ff_tree.specs.declared.tree.Doc.TheVariants as doc
use Rattle.ff_tree.specs.declared.tree.Expr.{Expr}
use Rattle.ff_tree.specs.declared.tree.Expr.TheVariants as expr
use Rattle.ff_tree.specs.declared.tree.Handler.{Handler}
use Rattle.ff_value.specs.declared.reply.CookieOp.{CookieOp}
use Rattle.ff_value.specs.declared.reply.CookieOp.TheVariants as cookie
use Rattle.ff_value.specs.declared.reply.Resp.{Resp}
use Rattle.ff_value.specs.declared.reply.Resp.TheVariants as resp
use Rattle.ff_text.specs.declared.items.Span.{Span}
use Rattle.ff_text.specs.declared.items.Sexp.{Sexp}
use Rattle.ff_text.specs.declared.items.Sexp.TheVariants.{Word, Str, List as Parens}
use Rattle.ff_forms.specs.Grammar.{handler}
use Rattle.ff_tree.specs.declared.limits.TheConstants.{MOST_HANDLERS}

-- the items are these words
pub data AreWords : List Sexp → List (List ℕ) → Type 0 where
  no_words : AreWords [] []
  a_word : (at : Span) (word : List ℕ) (items : List Sexp) (words : List (List ℕ)) → AreWords items words → AreWords (Word at word ∷ items) (word ∷ words)

mutual
  -- the item spells the document
  pub data SpellsDoc : Sexp → Doc → Type 0 where
    a_text : (at h n t : Span) (name text : List ℕ) → IsName name
        → SpellsDoc (Parens at (Word h (codes "text") ∷ Word n name ∷ Str t text ∷ [])) (doc.Text name text)
    a_link : (at h n u t : Span) (name address : List ℕ) (url : Url) (label : List ℕ) → IsName name → Spells address url
        → SpellsDoc (Parens at (Word h (codes "link") ∷ Word n name ∷ Word u address ∷ Str t label ∷ [])) (doc.Link name url label)
    a_text_box : (at h n t : Span) (name text : List ℕ) (items : List Sexp) (handlers : List Handler) → IsName name → SpellsHandlers items handlers → length handlers ≤ MOST_HANDLERS
        → SpellsDoc (Parens at (Word h (codes "box") ∷ Word n name ∷ Str t text ∷ items)) (doc.TextBox name text handlers)
    a_button : (at h n t : Span) (name label : List ℕ) (items : List Sexp) (handlers : List Handler) → IsName name → SpellsHandlers items handlers → length handlers ≤ MOST_HANDLERS
        → SpellsDoc (Parens at (Word h (codes "button") ∷ Word n name ∷ Str t label ∷ items)) (doc.Button name label handlers)
    a_script : (at h n : Span) (name : List ℕ) (item : Sexp) (body : Expr) → IsName name → SpellsExpr item body
        → SpellsDoc (Parens at (Word h (codes "script") ∷ Word n name ∷ item ∷ [])) (doc.Script name body)
    a_source : (at h n u : Span) (name address : List ℕ) (url : Url) → IsName name → Spells address url
        → SpellsDoc (Parens at (Word h (codes "src") ∷ Word n name ∷ Word u address ∷ [])) (doc.Src name url)
    a_division : (at h n : Span) (name : List ℕ) (items : List Sexp) (docs : List Doc) → IsName name → SpellsDocs items docs
        → SpellsDoc (Parens at (Word h (codes "div") ∷ Word n name ∷ items)) (doc.Div name docs)

  pub data SpellsDocs : List Sexp → List Doc → Type 0 where
    no_docs : SpellsDocs [] []
    one_more_doc : (item : Sexp) (doc : Doc) (items : List Sexp) (docs : List Doc) → SpellsDoc item doc → SpellsDocs items docs → SpellsDocs (item ∷ items) (doc ∷ docs)

  -- the item spells a handler
  pub data SpellsHandler : Sexp → Handler → Type 0 where
    a_handler_list : (at h p x : Span) (param : List ℕ) (item : Sexp) (body : Expr) → IsVar param → SpellsExpr item body
        → SpellsHandler (Parens at (Word h (codes "fn") ∷ Parens p (Word x param ∷ []) ∷ item ∷ [])) (handler param body)

  pub data SpellsHandlers : List Sexp → List Handler → Type 0 where
    no_handlers : SpellsHandlers [] []
    one_more_handler : (item : Sexp) (handler : Handler) (items : List Sexp) (handlers : List Handler) → SpellsHandler item handler → SpellsHandlers items handlers
        → SpellsHandlers (item ∷ items) (handler ∷ handlers)

  -- the item spells the expression
  pub data SpellsExpr : Sexp → Expr → Type 0 where
    a_null : (at : Span) → SpellsExpr (Word at (codes "null")) (expr.Lit lit.Null)
    a_true : (at : Span) → SpellsExpr (Word at (codes "true")) (expr.Lit (lit.Bool true))
    a_false : (at : Span) → SpellsExpr (Word at (codes "false")) (expr.Lit (lit.Bool false))
    a_number : (at : Span) (n : ℤ) → FitsSigned w64 n → SpellsExpr (Word at (num_text n)) (expr.Lit (lit.Num n))
    a_text_literal : (at : Span) (text : List ℕ) → SpellsExpr (Str at text) (expr.Lit (lit.Str text))
    a_name_of_variable : (at : Span) (x : List ℕ) → IsVar x → SpellsExpr (Word at x) (expr.Var x)
    a_let : (at h n : Span) (x : List ℕ) (item : Sexp) (e : Expr) → IsVar x → SpellsExpr item e
        → SpellsExpr (Parens at (Word h (codes "let") ∷ Word n x ∷ item ∷ [])) (expr.Let x e)
    a_set : (at h n : Span) (x : List ℕ) (item : Sexp) (e : Expr) → IsVar x → SpellsExpr item e
        → SpellsExpr (Parens at (Word h (codes "set") ∷ Word n x ∷ item ∷ [])) (expr.Set x e)
    an_if : (at h : Span) (item item' item'' : Sexp) (e f g : Expr) → SpellsExpr item e → SpellsExpr item' f → SpellsExpr item'' g
        → SpellsExpr (Parens at (Word h (codes "if") ∷ item ∷ item' ∷ item'' ∷ [])) (expr.If e f g)
    a_while : (at h : Span) (item item' : Sexp) (e f : Expr) → SpellsExpr item e → SpellsExpr item' f
        → SpellsExpr (Parens at (Word h (codes "while") ∷ item ∷ item' ∷ [])) (expr.While e f)
    a_do : (at h : Span) (items : List Sexp) (es : List Expr) → SpellsExprs items es
        → SpellsExpr (Parens at (Word h (codes "do") ∷ items)) (expr.Do es)
    an_and : (at h : Span) (item item' : Sexp) (e f : Expr) → SpellsExpr item e → SpellsExpr item' f
        → SpellsExpr (Parens at (Word h (codes "and") ∷ item ∷ item' ∷ [])) (expr.And e f)
    an_or : (at h : Span) (item item' : Sexp) (e f : Expr) → SpellsExpr item e → SpellsExpr item' f
        → SpellsExpr (Parens at (Word h (codes "or") ∷ item ∷ item' ∷ [])) (expr.Or e f)
    a_function : (at h p : Span) (items : List Sexp) (params : List (List ℕ)) (item : Sexp) (e : Expr) → AreWords items params → AreParams params → SpellsExpr item e
        → SpellsExpr (Parens at (Word h (codes "fn") ∷ Parens p items ∷ item ∷ [])) (expr.Make params e)
    a_call : (at h : Span) (item : Sexp) (items : List Sexp) (e : Expr) (es : List Expr) → SpellsExpr item e → SpellsExprs items es
        → SpellsExpr (Parens at (Word h (codes "call") ∷ item ∷ items)) (expr.Apply e es)
    a_tree : (at h : Span) (item : Sexp) (tree : Doc) → SpellsDoc item tree
        → SpellsExpr (Parens at (Word h (codes "new") ∷ item ∷ [])) (expr.Tree tree)
    an_operation : (at h : Span) (op : Op) (items : List Sexp) (es : List Expr) → SpellsExprs items es → length es ≡ arity_of op
        → SpellsExpr (Parens at (Word h (word_of op) ∷ items)) (expr.Prim op es)

  pub data SpellsExprs : List Sexp → List Expr → Type 0 where
    no_exprs : SpellsExprs [] []
    one_more_expr : (item : Sexp) (e : Expr) (items : List Sexp) (es : List Expr) → SpellsExpr item e → SpellsExprs items es → SpellsExprs (item ∷ items) (e ∷ es)

-- the item spells a cookie entry
pub data SpellsCookie : Sexp → CookieOp → Type 0 where
  a_put : (at h k v : Span) (key value : List ℕ) → SpellsCookie (Parens at (Word h (codes "set") ∷ Str k key ∷ Str v value ∷ [])) (cookie.Put key value)
  a_drop : (at h k : Span) (key : List ℕ) → SpellsCookie (Parens at (Word h (codes "del") ∷ Str k key ∷ [])) (cookie.Drop key)

pub data SpellsCookies : List Sexp → List CookieOp → Type 0 where
  no_cookies : SpellsCookies [] []
  one_more_cookie : (item : Sexp) (entry : CookieOp) (items : List Sexp) (entries : List CookieOp) → SpellsCookie item entry → SpellsCookies items entries
      → SpellsCookies (item ∷ items) (entry ∷ entries)

-- the item spells the response
pub data SpellsResp : Sexp → Resp → Type 0 where
  a_page : (at h c : Span) (entries : List Sexp) (cookies : List CookieOp) (items : List Sexp) (docs : List Doc) → SpellsCookies entries cookies → SpellsDocs items docs
      → SpellsResp (Parens at (Word h (codes "doc") ∷ Parens c entries ∷ items)) (resp.Page cookies docs)
  a_script_sent : (at h c : Span) (entries : List Sexp) (cookies : List CookieOp) (item : Sexp) (e : Expr) → SpellsCookies entries cookies → SpellsExpr item e
      → SpellsResp (Parens at (Word h (codes "script") ∷ Parens c entries ∷ item ∷ [])) (resp.Script cookies e)
  some_data : (at h c t : Span) (entries : List Sexp) (cookies : List CookieOp) (text : List ℕ) → SpellsCookies entries cookies
      → SpellsResp (Parens at (Word h (codes "data") ∷ Parens c entries ∷ Str t text ∷ [])) (resp.Data cookies text)
