-- The item that stands for a value, with no places: what is printed for a value is the canonical
-- spelling of its item.
use Rattle.std.specs.Prelude.{ℕ, true, false, List, [], ◌∷◌, map, codes}
use Rattle.ff_number.specs.Decimal.{num_text}
use Rattle.ff_name.specs.Address.{printed}
use Rattle.ff_name.specs.declared.urls.Url.{Url}
use Rattle.ff_text.specs.Notation.{span}
use Rattle.ff_text.specs.declared.items.Sexp.{Sexp}
use Rattle.ff_text.specs.declared.items.Sexp.TheVariants as sexp
use Rattle.ff_tree.specs.declared.tree.Lit.{Lit}
use Rattle.ff_tree.specs.declared.tree.Lit.TheVariants as lit
use Rattle.ff_tree.specs.declared.tree.Doc.{Doc}
use Rattle.ff_tree.specs.declared.tree.Expr.{Expr}
use Rattle.ff_tree.specs.declared.tree.Handler.{Handler}
use Rattle.ff_tree.specs.declared.tree.Doc.TheOpen.{Doc-F, Expr-F, Handler-F}
use Rattle.ff_tree.specs.declared.tree.Doc.TheFolds.{fold-Doc, fold-Expr, fold-Handler}
use Rattle.ff_value.specs.declared.output.Pair.{Pair}
use Rattle.ff_value.specs.declared.output.ShownPart.{ShownPart}
use Rattle.ff_value.specs.declared.output.ShownPart.TheOpen.{ShownPart-F}
use Rattle.ff_value.specs.declared.output.ShownPart.TheFolds.{fold-ShownPart}
use Rattle.ff_value.specs.declared.reply.CookieOp.{CookieOp}
use Rattle.ff_value.specs.declared.reply.CookieOp.TheVariants as cookie
use Rattle.ff_value.specs.declared.reply.Resp.{Resp}
use Rattle.ff_value.specs.declared.reply.Resp.TheVariants as resp
use Rattle.ff_forms.specs.Heads.{doc_word, expr_word, handler_word, resp_word, cookie_word}
use Rattle.ff_forms.specs.declared.heads.DocHead.TheVariants as doc_head
use Rattle.ff_forms.specs.declared.heads.ExprHead.TheVariants as expr_head
use Rattle.ff_forms.specs.declared.heads.HandlerHead.TheVariants as handler_head
use Rattle.ff_forms.specs.declared.heads.RespHead.TheVariants as resp_head
use Rattle.ff_forms.specs.declared.heads.CookieHead.TheVariants as cookie_head

abbrev pub word : List ℕ → Sexp
word text = sexp.Word (span 0 0) text

abbrev pub string : List ℕ → Sexp
string value = sexp.Str (span 0 0) value

abbrev pub parens : List Sexp → Sexp
parens parts = sexp.List (span 0 0) parts

abbrev pub address : Url → Sexp
address url = word (printed url)

abbrev pub lit_item : Lit → Sexp
lit_item lit.Null = word (codes "null")
lit_item (lit.Bool true) = word (codes "true")
lit_item (lit.Bool false) = word (codes "false")
lit_item (lit.Num n) = word (num_text n)
lit_item (lit.Str text) = string text

-- one layer of an expression, where the items of its parts stand in their places
abbrev pub expr_form : Expr-F Sexp Sexp Sexp → Sexp
expr_form (Expr-F.Lit l) = lit_item l
expr_form (Expr-F.Var x) = word x
expr_form (Expr-F.Let x e) = parens (word (expr_word expr_head.Let) ∷ word x ∷ e ∷ [])
expr_form (Expr-F.Set x e) = parens (word (expr_word expr_head.Set) ∷ word x ∷ e ∷ [])
expr_form (Expr-F.If e f g) = parens (word (expr_word expr_head.If) ∷ e ∷ f ∷ g ∷ [])
expr_form (Expr-F.While e f) = parens (word (expr_word expr_head.While) ∷ e ∷ f ∷ [])
expr_form (Expr-F.Do es) = parens (word (expr_word expr_head.Do) ∷ es)
expr_form (Expr-F.And e f) = parens (word (expr_word expr_head.And) ∷ e ∷ f ∷ [])
expr_form (Expr-F.Or e f) = parens (word (expr_word expr_head.Or) ∷ e ∷ f ∷ [])
expr_form (Expr-F.Make params e) = parens (word (expr_word expr_head.Make) ∷ parens (map word params) ∷ e ∷ [])
expr_form (Expr-F.Apply e es) = parens (word (expr_word expr_head.Apply) ∷ e ∷ es)
expr_form (Expr-F.Tree doc) = parens (word (expr_word expr_head.Tree) ∷ doc ∷ [])
expr_form (Expr-F.Prim op es) = parens (word (expr_word (expr_head.Prim op)) ∷ es)

abbrev pub handler_form : Handler-F Sexp Sexp Sexp → Sexp
handler_form handler = parens (word (handler_word handler_head.Make) ∷ parens (word handler.param ∷ []) ∷ handler.body ∷ [])

abbrev pub doc_form : Doc-F Sexp Sexp Sexp → Sexp
doc_form (Doc-F.Text x text) = parens (word (doc_word doc_head.Text) ∷ word x ∷ string text ∷ [])
doc_form (Doc-F.Link x url label) = parens (word (doc_word doc_head.Link) ∷ word x ∷ address url ∷ string label ∷ [])
doc_form (Doc-F.TextBox x text handlers) = parens (word (doc_word doc_head.TextBox) ∷ word x ∷ string text ∷ handlers)
doc_form (Doc-F.Button x label handlers) = parens (word (doc_word doc_head.Button) ∷ word x ∷ string label ∷ handlers)
doc_form (Doc-F.Script x e) = parens (word (doc_word doc_head.Script) ∷ word x ∷ e ∷ [])
doc_form (Doc-F.Src x url) = parens (word (doc_word doc_head.Src) ∷ word x ∷ address url ∷ [])
doc_form (Doc-F.Div x docs) = parens (word (doc_word doc_head.Div) ∷ word x ∷ docs)

abbrev pub doc_item : Doc → Sexp
doc_item = fold-Doc Sexp Sexp Sexp doc_form expr_form handler_form

abbrev pub expr_item : Expr → Sexp
expr_item = fold-Expr Sexp Sexp Sexp doc_form expr_form handler_form

abbrev pub handler_item : Handler → Sexp
handler_item = fold-Handler Sexp Sexp Sexp doc_form expr_form handler_form

abbrev pub cookie_item : CookieOp → Sexp
cookie_item (cookie.Put key value) = parens (word (cookie_word cookie_head.Put) ∷ string key ∷ string value ∷ [])
cookie_item (cookie.Drop key) = parens (word (cookie_word cookie_head.Drop) ∷ string key ∷ [])

abbrev pub cookies_item : List CookieOp → Sexp
cookies_item cookies = parens (map cookie_item cookies)

abbrev pub resp_item : Resp → Sexp
resp_item (resp.Page cookies docs) = parens (word (resp_word resp_head.Page) ∷ cookies_item cookies ∷ map doc_item docs)
resp_item (resp.Script cookies e) = parens (word (resp_word resp_head.Script) ∷ cookies_item cookies ∷ expr_item e ∷ [])
resp_item (resp.Data cookies text) = parens (word (resp_word resp_head.Data) ∷ cookies_item cookies ∷ string text ∷ [])

-- one layer of what the user is shown, where the items of its parts stand in their places
abbrev pub shown_part_form : ShownPart-F Sexp → Sexp
shown_part_form (ShownPart-F.Text text) = parens (word (doc_word doc_head.Text) ∷ string text ∷ [])
shown_part_form (ShownPart-F.Link url label) = parens (word (doc_word doc_head.Link) ∷ address url ∷ string label ∷ [])
shown_part_form (ShownPart-F.TextBox text) = parens (word (doc_word doc_head.TextBox) ∷ string text ∷ [])
shown_part_form (ShownPart-F.Button label) = parens (word (doc_word doc_head.Button) ∷ string label ∷ [])
shown_part_form (ShownPart-F.Div parts) = parens (word (doc_word doc_head.Div) ∷ parts)

abbrev pub shown_part_item : ShownPart → Sexp
shown_part_item = fold-ShownPart Sexp shown_part_form

-- a page as the user is shown it
abbrev pub shown_item : List ShownPart → Sexp
shown_item shown = parens (word (codes "page") ∷ map shown_part_item shown)

abbrev pub pair_item : Pair → Sexp
pair_item pair = parens (string pair.key ∷ string pair.value ∷ [])

abbrev pub pairs_item : List Pair → Sexp
pairs_item pairs = parens (map pair_item pairs)
