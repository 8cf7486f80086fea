-- What a well spelled item spells is well spelled.
use Rattle.std.proofs.Common.{◌≡◌, ◌≤◌, ◌<◌, ◌+◌, ℕ, suc, Bool, true, false, nat_lt, List, [], ◌∷◌, map, codes, refl, sym, ap, ◌∙◌, subst, arith}
use Rattle.std.specs.List.{list_all, AllByRecursion}
use Rattle.std.specs.Str.{IsUtf8}
use Rattle.std.proofs.lemmas.Bool.{and_parts}
use Rattle.std.proofs.lemmas.Bool.Decides.{nat_tests}
use Rattle.std.proofs.lemmas.Str.{IsUtf8-from_is_utf8}
use Rattle.ff_name.specs.Address.{IsWellSpelled as IsWellSpelledUrl, Spells, as_printed, with_no_request}
use Rattle.ff_name.specs.declared.urls.Url.{Url}
use Rattle.ff_tree.specs.Spelled.{IsVar, IsSpelledDoc, IsSpelledExpr, IsSpelledHandler, IsWellSpelledDoc, IsWellSpelledExpr, doc_depth, expr_depth, handler_depth, most, handler_spelled}
use Rattle.ff_tree.specs.Ops.{word_of}
use Rattle.ff_tree.specs.declared.tree.Lit.TheVariants as lit
use Rattle.ff_tree.specs.declared.tree.Doc.{Doc}
use Rattle.ff_tree.specs.declared.tree.Expr.{Expr}
use Rattle.ff_tree.specs.declared.tree.Handler.{Handler, out-roll-Handler}
use Rattle.ff_tree.proofs.Layers.{IsSpelledHandler-out, IsSpelledExpr-Lit, IsSpelledExpr-Var, IsSpelledExpr-Let, IsSpelledExpr-Set, IsSpelledExpr-If, IsSpelledExpr-While, IsSpelledExpr-Do, IsSpelledExpr-And, IsSpelledExpr-Or, IsSpelledExpr-Make, IsSpelledExpr-Apply, IsSpelledExpr-Tree, IsSpelledExpr-Prim, IsSpelledDoc-Text, IsSpelledDoc-Link, IsSpelledDoc-TextBox, IsSpelledDoc-Button, IsSpelledDoc-Script, IsSpelledDoc-Src, IsSpelledDoc-Div}
use Rattle.ff_value.specs.Spelled.{IsCookieOp, IsWellSpelledResp, cookies_depth}
use Rattle.ff_value.specs.declared.reply.CookieOp.{CookieOp}
use Rattle.ff_value.specs.declared.reply.Resp.{Resp}
use Rattle.ff_text.specs.declared.items.Span.{Span}
use Rattle.ff_text.specs.declared.items.Sexp.{Sexp}
use Rattle.ff_text.specs.declared.items.Sexp.TheVariants.{Word, Str, List as Parens}
use Rattle.ff_text.specs.Printed.{fits_at, IsWellSpelled}
use Rattle.ff_text.proofs.Layers.{fits_at-Str, fits_at-List}
use Rattle.ff_forms.specs.Grammar.{handler}
use Rattle.ff_forms.specs.Spellings.{SpellsDoc, a_text, a_link, a_text_box, a_button, a_script, a_source, a_division, SpellsDocs, no_docs, one_more_doc, SpellsHandler, a_handler_list, SpellsHandlers, no_handlers, one_more_handler, SpellsExpr, a_null, a_true, a_false, a_number, a_text_literal, a_name_of_variable, a_let, a_set, an_if, a_while, a_do, an_and, an_or, a_function, a_call, a_tree, an_operation, SpellsExprs, no_exprs, one_more_expr, SpellsCookie, a_put, a_drop, SpellsCookies, no_cookies, one_more_cookie, SpellsResp, a_page, a_script_sent, some_data}
use Rattle.ff_forms.proofs.Depths as depth

-- each of the items fits where it stands in so many lists
abbrev AllFit : ℕ → List Sexp → Type 0
AllFit nesting items = list_all (λ (part : ℕ → Bool). part nesting) (map fits_at items) ≡ true

first_fits : (nesting : ℕ) (item : Sexp) (items : List Sexp) → AllFit nesting (item ∷ items) → (fits_at item nesting ≡ true) × AllFit nesting items
first_fits nesting item items h = and_parts (fits_at item nesting) (list_all (λ (part : ℕ → Bool). part nesting) (map fits_at items)) h

list_fits : (at : Span) (parts : List Sexp) (nesting : ℕ) → fits_at (Parens at parts) nesting ≡ true → (nesting < 64) × AllFit (suc nesting) parts
list_fits at parts nesting h =
    let tests = and_parts (nat_lt nesting 64) (list_all (λ (part : ℕ → Bool). part (suc nesting)) (map fits_at parts)) (sym (ap (λ f. f nesting) (fits_at-List at parts)) ∙ h) in
    let shallow : nat_lt nesting 64 ≡ true = tests.0 in
    (grind (arith, nat_tests), tests.1)

string_fits : (at : Span) (text : List ℕ) (nesting : ℕ) → fits_at (Str at text) nesting ≡ true → IsUtf8 text
string_fits at text nesting h = IsUtf8-from_is_utf8 text (sym (ap (λ f. f nesting) (fits_at-Str at text)) ∙ h)

-- the parts after a list's word
after_word : (at h : Span) (word : List ℕ) (parts : List Sexp) (nesting : ℕ) → fits_at (Parens at (Word h word ∷ parts)) nesting ≡ true → (nesting < 64) × AllFit (suc nesting) parts
after_word at h word parts nesting fits =
    let list = list_fits at (Word h word ∷ parts) nesting fits in
    (list.0, (first_fits (suc nesting) (Word h word) parts list.1).1)

url_well : (word : List ℕ) (url : Url) → Spells word url → IsWellSpelledUrl url
url_well word url (as_printed _ well) = well
url_well word url (with_no_request domain is) = (is, record { begins = refl; made_of = refl; short = omega arith })

-- a fact that another is equal to
by_rule : {A B : Type 0} → A ≡ B → B → A
by_rule e b = subst (λ (T : Type 0). T) (sym e) b

-- spelled, as deep as is left
record DocFits (nesting : ℕ) (d : Doc) : Type 0 where
  spelled : IsSpelledDoc d
  shallow : doc_depth d + nesting ≤ 64

record ExprFits (nesting : ℕ) (e : Expr) : Type 0 where
  spelled : IsSpelledExpr e
  shallow : expr_depth e + nesting ≤ 64

record HandlerFits (nesting : ℕ) (h : Handler) : Type 0 where
  spelled : IsSpelledHandler h
  shallow : handler_depth h + nesting ≤ 64

record DocsFit (nesting : ℕ) (ds : List Doc) : Type 0 where
  spelled : AllByRecursion IsSpelledDoc ds
  shallow : most (map doc_depth ds) + nesting ≤ 64

record ExprsFit (nesting : ℕ) (es : List Expr) : Type 0 where
  spelled : AllByRecursion IsSpelledExpr es
  shallow : most (map expr_depth es) + nesting ≤ 64

record HandlersFit (nesting : ℕ) (hs : List Handler) : Type 0 where
  spelled : AllByRecursion IsSpelledHandler hs
  shallow : most (map handler_depth hs) + nesting ≤ 64

IsSpelledHandler-handler : (x : List ℕ) (e : Expr) → IsSpelledHandler (handler x e) ≡ (IsVar x × IsSpelledExpr e)
IsSpelledHandler-handler x e =
    IsSpelledHandler-out (handler x e)
    ∙ ap (handler_spelled Doc Expr Handler IsSpelledDoc IsSpelledExpr IsSpelledHandler) (out-roll-Handler (record { param = x; body = e }))

two_exprs_fit : (at h : Span) (word : List ℕ) (item item' : Sexp) (nesting : ℕ) → fits_at (Parens at (Word h word ∷ item ∷ item' ∷ [])) nesting ≡ true
    → (fits_at item (suc nesting) ≡ true) × (fits_at item' (suc nesting) ≡ true)
two_exprs_fit at h word item item' nesting fits =
    let parts = first_fits (suc nesting) item (item' ∷ []) (after_word at h word (item ∷ item' ∷ []) nesting fits).1 in
    (parts.0, (first_fits (suc nesting) item' [] parts.1).0)

mutual
  doc_fits : (item : Sexp) (d : Doc) → SpellsDoc item d → (nesting : ℕ) → fits_at item nesting ≡ true → DocFits nesting d
  doc_fits _ _ (a_text at h n t x text is) nesting fits =
      let list = after_word at h (codes "text") (Word n x ∷ Str t text ∷ []) nesting fits in
      let rest = first_fits (suc nesting) (Word n x) (Str t text ∷ []) list.1 in
      let string = first_fits (suc nesting) (Str t text) [] rest.1 in
      let room : nesting < 64 = list.0 in
      record { spelled = by_rule (IsSpelledDoc-Text x text) (is, string_fits t text (suc nesting) string.0); shallow = omega (arith, depth.doc_depth-Text x text) }
  doc_fits _ _ (a_link at h n u t x address url label is spells) nesting fits =
      let list = after_word at h (codes "link") (Word n x ∷ Word u address ∷ Str t label ∷ []) nesting fits in
      let rest = first_fits (suc nesting) (Word n x) (Word u address ∷ Str t label ∷ []) list.1 in
      let more = first_fits (suc nesting) (Word u address) (Str t label ∷ []) rest.1 in
      let string = first_fits (suc nesting) (Str t label) [] more.1 in
      let room : nesting < 64 = list.0 in
      record { spelled = by_rule (IsSpelledDoc-Link x url label) (is, url_well address url spells, string_fits t label (suc nesting) string.0); shallow = omega (arith, depth.doc_depth-Link x url label) }
  doc_fits _ _ (a_text_box at h n t x text items handlers is each few) nesting fits =
      let list = after_word at h (codes "box") (Word n x ∷ Str t text ∷ items) nesting fits in
      let rest = first_fits (suc nesting) (Word n x) (Str t text ∷ items) list.1 in
      let string = first_fits (suc nesting) (Str t text) items rest.1 in
      let room : nesting < 64 = list.0 in
      let inner = handlers_fit items handlers each (suc nesting) (omega arith) string.1 in
      record { spelled = by_rule (IsSpelledDoc-TextBox x text handlers) (is, string_fits t text (suc nesting) string.0, few, inner.spelled); shallow = omega (arith, depth.doc_depth-TextBox x text handlers, inner.shallow) }
  doc_fits _ _ (a_button at h n t x text items handlers is each few) nesting fits =
      let list = after_word at h (codes "button") (Word n x ∷ Str t text ∷ items) nesting fits in
      let rest = first_fits (suc nesting) (Word n x) (Str t text ∷ items) list.1 in
      let string = first_fits (suc nesting) (Str t text) items rest.1 in
      let room : nesting < 64 = list.0 in
      let inner = handlers_fit items handlers each (suc nesting) (omega arith) string.1 in
      record { spelled = by_rule (IsSpelledDoc-Button x text handlers) (is, string_fits t text (suc nesting) string.0, few, inner.spelled); shallow = omega (arith, depth.doc_depth-Button x text handlers, inner.shallow) }
  doc_fits _ _ (a_script at h n x item body is spells) nesting fits =
      let list = after_word at h (codes "script") (Word n x ∷ item ∷ []) nesting fits in
      let room : nesting < 64 = list.0 in
      let rest = first_fits (suc nesting) (Word n x) (item ∷ []) list.1 in
      let inner = expr_fits item body spells (suc nesting) (omega arith) (first_fits (suc nesting) item [] rest.1).0 in
      record { spelled = by_rule (IsSpelledDoc-Script x body) (is, inner.spelled); shallow = omega (arith, depth.doc_depth-Script x body, inner.shallow) }
  doc_fits _ _ (a_source at h n u x address url is spells) nesting fits =
      let list = after_word at h (codes "src") (Word n x ∷ Word u address ∷ []) nesting fits in
      let room : nesting < 64 = list.0 in
      record { spelled = by_rule (IsSpelledDoc-Src x url) (is, url_well address url spells); shallow = omega (arith, depth.doc_depth-Src x url) }
  doc_fits _ _ (a_division at h n x items docs is each) nesting fits =
      let list = after_word at h (codes "div") (Word n x ∷ items) nesting fits in
      let room : nesting < 64 = list.0 in
      let inner = docs_fit items docs each (suc nesting) (omega arith) (first_fits (suc nesting) (Word n x) items list.1).1 in
      record { spelled = by_rule (IsSpelledDoc-Div x docs) (is, inner.spelled); shallow = omega (arith, depth.doc_depth-Div x docs, inner.shallow) }

  docs_fit : (items : List Sexp) (ds : List Doc) → SpellsDocs items ds → (nesting : ℕ) → nesting ≤ 64 → AllFit nesting items → DocsFit nesting ds
  docs_fit _ _ no_docs nesting room fits = record { spelled = tt; shallow = omega arith }
  docs_fit _ _ (one_more_doc item d items ds one each) nesting room fits =
      let parts = first_fits nesting item items fits in
      let first = doc_fits item d one nesting parts.0 in
      let rest = docs_fit items ds each nesting room parts.1 in
      record { spelled = (first.spelled, rest.spelled); shallow = omega (arith, first.shallow, rest.shallow) }

  handler_fits : (item : Sexp) (k : Handler) → SpellsHandler item k → (nesting : ℕ) → fits_at item nesting ≡ true → HandlerFits nesting k
  handler_fits _ _ (a_handler_list at h p x param item body is spells) nesting fits =
      let list = after_word at h (codes "fn") (Parens p (Word x param ∷ []) ∷ item ∷ []) nesting fits in
      let rest = first_fits (suc nesting) (Parens p (Word x param ∷ [])) (item ∷ []) list.1 in
      let params = list_fits p (Word x param ∷ []) (suc nesting) rest.0 in
      let room : suc nesting < 64 = params.0 in
      let inner = expr_fits item body spells (suc nesting) (omega arith) (first_fits (suc nesting) item [] rest.1).0 in
      record { spelled = by_rule (IsSpelledHandler-handler param body) (is, inner.spelled); shallow = omega (arith, depth.handler_depth-handler param body, inner.shallow) }

  handlers_fit : (items : List Sexp) (ks : List Handler) → SpellsHandlers items ks → (nesting : ℕ) → nesting ≤ 64 → AllFit nesting items → HandlersFit nesting ks
  handlers_fit _ _ no_handlers nesting room fits = record { spelled = tt; shallow = omega arith }
  handlers_fit _ _ (one_more_handler item k items ks one each) nesting room fits =
      let parts = first_fits nesting item items fits in
      let first = handler_fits item k one nesting parts.0 in
      let rest = handlers_fit items ks each nesting room parts.1 in
      record { spelled = (first.spelled, rest.spelled); shallow = omega (arith, first.shallow, rest.shallow) }

  expr_fits : (item : Sexp) (e : Expr) → SpellsExpr item e → (nesting : ℕ) → nesting ≤ 64 → fits_at item nesting ≡ true → ExprFits nesting e
  expr_fits _ _ (a_null at) nesting room fits = record { spelled = by_rule (IsSpelledExpr-Lit lit.Null) tt; shallow = omega (arith, depth.expr_depth-Lit lit.Null) }
  expr_fits _ _ (a_true at) nesting room fits = record { spelled = by_rule (IsSpelledExpr-Lit (lit.Bool true)) tt; shallow = omega (arith, depth.expr_depth-Lit (lit.Bool true)) }
  expr_fits _ _ (a_false at) nesting room fits = record { spelled = by_rule (IsSpelledExpr-Lit (lit.Bool false)) tt; shallow = omega (arith, depth.expr_depth-Lit (lit.Bool false)) }
  expr_fits _ _ (a_number at n small) nesting room fits = record { spelled = by_rule (IsSpelledExpr-Lit (lit.Num n)) small; shallow = omega (arith, depth.expr_depth-Lit (lit.Num n)) }
  expr_fits _ _ (a_text_literal at text) nesting room fits = record { spelled = by_rule (IsSpelledExpr-Lit (lit.Str text)) (string_fits at text nesting fits); shallow = omega (arith, depth.expr_depth-Lit (lit.Str text)) }
  expr_fits _ _ (a_name_of_variable at x is) nesting room fits = record { spelled = by_rule (IsSpelledExpr-Var x) is; shallow = omega (arith, depth.expr_depth-Var x) }
  expr_fits _ _ (a_let at h n x item e is spells) nesting room fits =
      let list = after_word at h (codes "let") (Word n x ∷ item ∷ []) nesting fits in
      let left : nesting < 64 = list.0 in
      let inner = expr_fits item e spells (suc nesting) (omega arith) (first_fits (suc nesting) item [] (first_fits (suc nesting) (Word n x) (item ∷ []) list.1).1).0 in
      record { spelled = by_rule (IsSpelledExpr-Let x e) (is, inner.spelled); shallow = omega (arith, depth.expr_depth-Let x e, inner.shallow) }
  expr_fits _ _ (a_set at h n x item e is spells) nesting room fits =
      let list = after_word at h (codes "set") (Word n x ∷ item ∷ []) nesting fits in
      let left : nesting < 64 = list.0 in
      let inner = expr_fits item e spells (suc nesting) (omega arith) (first_fits (suc nesting) item [] (first_fits (suc nesting) (Word n x) (item ∷ []) list.1).1).0 in
      record { spelled = by_rule (IsSpelledExpr-Set x e) (is, inner.spelled); shallow = omega (arith, depth.expr_depth-Set x e, inner.shallow) }
  expr_fits _ _ (an_if at h item item' item'' e f g one two three) nesting room fits =
      let list = after_word at h (codes "if") (item ∷ item' ∷ item'' ∷ []) nesting fits in
      let left : nesting < 64 = list.0 in
      let first = first_fits (suc nesting) item (item' ∷ item'' ∷ []) list.1 in
      let second = first_fits (suc nesting) item' (item'' ∷ []) first.1 in
      let third = first_fits (suc nesting) item'' [] second.1 in
      let inner = expr_fits item e one (suc nesting) (omega arith) first.0 in
      let inner' = expr_fits item' f two (suc nesting) (omega arith) second.0 in
      let inner'' = expr_fits item'' g three (suc nesting) (omega arith) third.0 in
      record { spelled = by_rule (IsSpelledExpr-If e f g) (inner.spelled, inner'.spelled, inner''.spelled); shallow = omega (arith, depth.expr_depth-If e f g, inner.shallow, inner'.shallow, inner''.shallow) }
  expr_fits _ _ (a_while at h item item' e f one two) nesting room fits =
      let list = after_word at h (codes "while") (item ∷ item' ∷ []) nesting fits in
      let left : nesting < 64 = list.0 in
      let parts = two_exprs_fit at h (codes "while") item item' nesting fits in
      let inner = expr_fits item e one (suc nesting) (omega arith) parts.0 in
      let inner' = expr_fits item' f two (suc nesting) (omega arith) parts.1 in
      record { spelled = by_rule (IsSpelledExpr-While e f) (inner.spelled, inner'.spelled); shallow = omega (arith, depth.expr_depth-While e f, inner.shallow, inner'.shallow) }
  expr_fits _ _ (an_and at h item item' e f one two) nesting room fits =
      let list = after_word at h (codes "and") (item ∷ item' ∷ []) nesting fits in
      let left : nesting < 64 = list.0 in
      let parts = two_exprs_fit at h (codes "and") item item' nesting fits in
      let inner = expr_fits item e one (suc nesting) (omega arith) parts.0 in
      let inner' = expr_fits item' f two (suc nesting) (omega arith) parts.1 in
      record { spelled = by_rule (IsSpelledExpr-And e f) (inner.spelled, inner'.spelled); shallow = omega (arith, depth.expr_depth-And e f, inner.shallow, inner'.shallow) }
  expr_fits _ _ (an_or at h item item' e f one two) nesting room fits =
      let list = after_word at h (codes "or") (item ∷ item' ∷ []) nesting fits in
      let left : nesting < 64 = list.0 in
      let parts = two_exprs_fit at h (codes "or") item item' nesting fits in
      let inner = expr_fits item e one (suc nesting) (omega arith) parts.0 in
      let inner' = expr_fits item' f two (suc nesting) (omega arith) parts.1 in
      record { spelled = by_rule (IsSpelledExpr-Or e f) (inner.spelled, inner'.spelled); shallow = omega (arith, depth.expr_depth-Or e f, inner.shallow, inner'.shallow) }
  expr_fits _ _ (a_do at h items es each) nesting room fits =
      let list = after_word at h (codes "do") items nesting fits in
      let left : nesting < 64 = list.0 in
      let inner = exprs_fit items es each (suc nesting) (omega arith) list.1 in
      record { spelled = by_rule (IsSpelledExpr-Do es) inner.spelled; shallow = omega (arith, depth.expr_depth-Do es, inner.shallow) }
  expr_fits _ _ (a_function at h p items params item e words are spells) nesting room fits =
      let list = after_word at h (codes "fn") (Parens p items ∷ item ∷ []) nesting fits in
      let rest = first_fits (suc nesting) (Parens p items) (item ∷ []) list.1 in
      let left : suc nesting < 64 = (list_fits p items (suc nesting) rest.0).0 in
      let inner = expr_fits item e spells (suc nesting) (omega arith) (first_fits (suc nesting) item [] rest.1).0 in
      record { spelled = by_rule (IsSpelledExpr-Make params e) (are, inner.spelled); shallow = omega (arith, depth.expr_depth-Make params e, inner.shallow) }
  expr_fits _ _ (a_call at h item items e es one each) nesting room fits =
      let list = after_word at h (codes "call") (item ∷ items) nesting fits in
      let left : nesting < 64 = list.0 in
      let parts = first_fits (suc nesting) item items list.1 in
      let inner = expr_fits item e one (suc nesting) (omega arith) parts.0 in
      let rest = exprs_fit items es each (suc nesting) (omega arith) parts.1 in
      record { spelled = by_rule (IsSpelledExpr-Apply e es) (inner.spelled, rest.spelled); shallow = omega (arith, depth.expr_depth-Apply e es, inner.shallow, rest.shallow) }
  expr_fits _ _ (a_tree at h item tree spells) nesting room fits =
      let list = after_word at h (codes "new") (item ∷ []) nesting fits in
      let left : nesting < 64 = list.0 in
      let inner = doc_fits item tree spells (suc nesting) (first_fits (suc nesting) item [] list.1).0 in
      record { spelled = by_rule (IsSpelledExpr-Tree tree) inner.spelled; shallow = omega (arith, depth.expr_depth-Tree tree, inner.shallow) }
  expr_fits _ _ (an_operation at h op items es each count) nesting room fits =
      let list = after_word at h (word_of op) items nesting fits in
      let left : nesting < 64 = list.0 in
      let inner = exprs_fit items es each (suc nesting) (omega arith) list.1 in
      record { spelled = by_rule (IsSpelledExpr-Prim op es) (count, inner.spelled); shallow = omega (arith, depth.expr_depth-Prim op es, inner.shallow) }

  exprs_fit : (items : List Sexp) (es : List Expr) → SpellsExprs items es → (nesting : ℕ) → nesting ≤ 64 → AllFit nesting items → ExprsFit nesting es
  exprs_fit _ _ no_exprs nesting room fits = record { spelled = tt; shallow = omega arith }
  exprs_fit _ _ (one_more_expr item e items es one each) nesting room fits =
      let parts = first_fits nesting item items fits in
      let first = expr_fits item e one nesting room parts.0 in
      let rest = exprs_fit items es each nesting room parts.1 in
      record { spelled = (first.spelled, rest.spelled); shallow = omega (arith, first.shallow, rest.shallow) }

pub well_doc : (item : Sexp) (d : Doc) → SpellsDoc item d → IsWellSpelled item → IsWellSpelledDoc d
well_doc item d spells well =
    let fits = doc_fits item d spells 0 well in
    record { spelled = fits.spelled; shallow = omega (arith, fits.shallow) }

pub well_expr : (item : Sexp) (e : Expr) → SpellsExpr item e → IsWellSpelled item → IsWellSpelledExpr e
well_expr item e spells well =
    let fits = expr_fits item e spells 0 (omega arith) well in
    record { spelled = fits.spelled; shallow = omega (arith, fits.shallow) }

-- responses

record CookiesFit (nesting : ℕ) (entries : List CookieOp) : Type 0 where
  spelled : AllByRecursion IsCookieOp entries
  shallow : cookies_depth entries + nesting ≤ 64

cookie_fits : (item : Sexp) (entry : CookieOp) → SpellsCookie item entry → (nesting : ℕ) → fits_at item nesting ≡ true → IsCookieOp entry × (nesting < 64)
cookie_fits _ _ (a_put at h k v key value) nesting fits =
    let list = after_word at h (codes "set") (Str k key ∷ Str v value ∷ []) nesting fits in
    let parts = first_fits (suc nesting) (Str k key) (Str v value ∷ []) list.1 in
    ((string_fits k key (suc nesting) parts.0, string_fits v value (suc nesting) (first_fits (suc nesting) (Str v value) [] parts.1).0), list.0)
cookie_fits _ _ (a_drop at h k key) nesting fits =
    let list = after_word at h (codes "del") (Str k key ∷ []) nesting fits in
    (string_fits k key (suc nesting) (first_fits (suc nesting) (Str k key) [] list.1).0, list.0)

all_cookies : (items : List Sexp) (entries : List CookieOp) → SpellsCookies items entries → (nesting : ℕ) → AllFit nesting items → AllByRecursion IsCookieOp entries
all_cookies _ _ no_cookies nesting fits = tt
all_cookies _ _ (one_more_cookie item entry items entries one each) nesting fits =
    let parts = first_fits nesting item items fits in
    ((cookie_fits item entry one nesting parts.0).0, all_cookies items entries each nesting parts.1)

cookies_shallow : (items : List Sexp) (entries : List CookieOp) → SpellsCookies items entries → (nesting : ℕ) → nesting < 64 → AllFit (suc nesting) items → cookies_depth entries + nesting ≤ 64
cookies_shallow _ _ no_cookies nesting room fits = omega arith
cookies_shallow _ _ (one_more_cookie item entry items entries one each) nesting room fits =
    let within : suc nesting < 64 = (cookie_fits item entry one (suc nesting) (first_fits (suc nesting) item items fits).0).1 in
    omega arith

cookies_fit : (at : Span) (items : List Sexp) (entries : List CookieOp) → SpellsCookies items entries → (nesting : ℕ) → fits_at (Parens at items) nesting ≡ true → CookiesFit nesting entries
cookies_fit at items entries each nesting fits =
    let list = list_fits at items nesting fits in
    record { spelled = all_cookies items entries each (suc nesting) list.1; shallow = cookies_shallow items entries each nesting list.0 list.1 }

pub well_resp : (item : Sexp) (r : Resp) → SpellsResp item r → IsWellSpelled item → IsWellSpelledResp r
well_resp _ _ (a_page at h c entries cookies items docs each all) well =
    let list = after_word at h (codes "doc") (Parens c entries ∷ items) 0 well in
    let parts = first_fits 1 (Parens c entries) items list.1 in
    let set = cookies_fit c entries cookies each 1 parts.0 in
    let inner = docs_fit items docs all 1 (omega arith) parts.1 in
    record { spelled = (set.spelled, inner.spelled); shallow = omega (arith, set.shallow, inner.shallow) }
well_resp _ _ (a_script_sent at h c entries cookies item e each spells) well =
    let list = after_word at h (codes "script") (Parens c entries ∷ item ∷ []) 0 well in
    let parts = first_fits 1 (Parens c entries) (item ∷ []) list.1 in
    let set = cookies_fit c entries cookies each 1 parts.0 in
    let inner = expr_fits item e spells 1 (omega arith) (first_fits 1 item [] parts.1).0 in
    record { spelled = (set.spelled, inner.spelled); shallow = omega (arith, set.shallow, inner.shallow) }
well_resp _ _ (some_data at h c t entries cookies text each) well =
    let list = after_word at h (codes "data") (Parens c entries ∷ Str t text ∷ []) 0 well in
    let parts = first_fits 1 (Parens c entries) (Str t text ∷ []) list.1 in
    let set = cookies_fit c entries cookies each 1 parts.0 in
    record { spelled = (set.spelled, string_fits t text 1 (first_fits 1 (Str t text) [] parts.1).0); shallow = omega (arith, set.shallow) }
