-- What is read is spelled.
use Rattle.std.proofs.Common.{◌≡◌, ◌≤◌, ◌==◌, ℕ, suc, Bool, true, false, List, [], ◌∷◌, map, length, ok_or, codes, Ok, cond, refl, sym, ap, ◌∙◌, subst, arith}
use Rattle.std.specs.Str.{bytes_eq}
use Rattle.std.proofs.lemmas.Bool.Decides.{nat_tests}
use Rattle.std.proofs.lemmas.Slice.Eq.{bytes_eq-Decides}
use Rattle.ff_tree.specs.Ops.{arity_of}
use Rattle.ff_tree.specs.declared.tree.Lit.TheVariants as lit
use Rattle.ff_tree.specs.declared.tree.Doc.{Doc}
use Rattle.ff_tree.specs.declared.tree.Doc.TheVariants as doc
use Rattle.ff_tree.specs.declared.tree.Expr.{Expr}
use Rattle.ff_tree.specs.declared.tree.Expr.TheVariants as expr
use Rattle.ff_tree.specs.declared.tree.Handler.{Handler}
use Rattle.ff_value.specs.declared.reply.CookieOp.{CookieOp}
use Rattle.ff_value.specs.declared.reply.CookieOp.TheVariants as cookie
use Rattle.ff_value.specs.declared.reply.Resp.{Resp}
use Rattle.ff_value.specs.declared.reply.Resp.TheVariants as resp
use Rattle.ff_text.specs.declared.items.Span.{Span}
use Rattle.ff_text.specs.declared.items.Sexp.{Sexp}
use Rattle.ff_text.specs.declared.items.Sexp.TheVariants.{Word, Str, List as Parens}
use Rattle.ff_text.proofs.Layers.{Each, items_ind}
use Rattle.ff_tree.specs.declared.limits.TheConstants.{MOST_HANDLERS}
use Rattle.ff_name.specs.Reading.{is_name}
use Rattle.ff_number.specs.Numbers.{read_num}
use Rattle.ff_forms.specs.Words.{is_literal, looks_like_number}
use Rattle.ff_forms.specs.Grammar as grammar
use Rattle.ff_forms.specs.Grammar.{Sort, Value, reading, and_then, each_as, form_as, handler, doc_form, expr_form, resp_form, cookie_form, handler_form, word_as_expression, number_as, name_as_expression, any}
use Rattle.ff_forms.specs.Heads.{doc_word, expr_word, resp_word, cookie_word, handler_word, handler_heads, doc_heads, expr_heads, resp_heads, cookie_heads}
use Rattle.ff_forms.specs.Spellings.{SpellsDoc, a_text, a_link, a_text_box, a_button, a_script, a_source, a_division, SpellsDocs, no_docs, one_more_doc, SpellsHandler, a_handler_list, SpellsHandlers, no_handlers, one_more_handler, SpellsExpr, a_null, a_true, a_false, a_number, a_text_literal, a_name_of_variable, a_let, a_set, an_if, a_while, a_do, an_and, an_or, a_function, a_call, a_tree, an_operation, SpellsExprs, no_exprs, one_more_expr, SpellsCookie, a_put, a_drop, SpellsCookies, no_cookies, one_more_cookie, SpellsResp, a_page, a_script_sent, some_data}
use Rattle.ff_forms.specs.declared.heads.DocHead.{DocHead}
use Rattle.ff_forms.specs.declared.heads.DocHead.TheVariants as doc_head
use Rattle.ff_forms.specs.declared.heads.ExprHead.{ExprHead}
use Rattle.ff_forms.specs.declared.heads.ExprHead.TheVariants as expr_head
use Rattle.ff_forms.specs.declared.heads.HandlerHead.{HandlerHead}
use Rattle.ff_forms.specs.declared.heads.HandlerHead.TheVariants as handler_head
use Rattle.ff_forms.specs.declared.heads.RespHead.{RespHead}
use Rattle.ff_forms.specs.declared.heads.RespHead.TheVariants as resp_head
use Rattle.ff_forms.specs.declared.heads.CookieHead.{CookieHead}
use Rattle.ff_forms.specs.declared.heads.CookieHead.TheVariants as cookie_head
use Rattle.ff_forms.specs.declared.fault.SyntaxFault.TheVariants as fault
use Rattle.ff_reading.proofs.Layers.{reading-Word, reading-Str, reading-List}
use Rattle.ff_reading.proofs.Numbering.{number_spelled}
use Rattle.ff_reading.proofs.Backs.{came_from, passed, some_from, ok_value, err_value, IsVar-from_tests, IsOne, is_word, is_string, is_list, item_cases, name_back, variable_back, address_back, string_back, IsListThat, parameters_back, one_parameter_back, list_back, one_back, two_back, three_back, all_back, and_all_back, two_all_back}

-- what is read of an item as a document, an expression and a handler is spelled there
record AllSpelled (item : Sexp) : Type 0 where
  docs : (d : Doc) → reading item grammar.a_document ≡ Ok d → SpellsDoc item d
  exprs : (e : Expr) → reading item grammar.an_expression ≡ Ok e → SpellsExpr item e
  handlers : (h : Handler) → reading item grammar.a_handler ≡ Ok h → SpellsHandler item h

-- lists of parts

each_first : (s : Sort) (item : Sexp) (items : List Sexp) (values : List (Value s)) → each_as s (map reading (item ∷ items)) ≡ Ok values
    → (v : Value s) × (vs : List (Value s)) × (reading item s ≡ Ok v) × (each_as s (map reading items) ≡ Ok vs) × (v ∷ vs ≡ values)
each_first s item items values e =
    let first = came_from (reading item s) (λ v. and_then (each_as s (map reading items)) (λ vs. Ok (v ∷ vs))) values e in
    let rest = came_from (each_as s (map reading items)) (λ vs. Ok (first.0 ∷ vs)) values first.2 in
    (first.0, rest.0, first.1, rest.1, ok_value (first.0 ∷ rest.0) values rest.2)

docs_sound : (items : List Sexp) → Each AllSpelled items → (docs : List Doc) → each_as grammar.a_document (map reading items) ≡ Ok docs → SpellsDocs items docs
docs_sound [] each docs e = subst (SpellsDocs []) (ok_value [] docs e) no_docs
docs_sound (item ∷ items) each docs e =
    let parts = each_first grammar.a_document item items docs e in
    subst (SpellsDocs (item ∷ items)) parts.4
    (one_more_doc item parts.0 items parts.1 (each.0.docs parts.0 parts.2) (docs_sound items each.1 parts.1 parts.3))

exprs_sound : (items : List Sexp) → Each AllSpelled items → (es : List Expr) → each_as grammar.an_expression (map reading items) ≡ Ok es → SpellsExprs items es
exprs_sound [] each es e = subst (SpellsExprs []) (ok_value [] es e) no_exprs
exprs_sound (item ∷ items) each es e =
    let parts = each_first grammar.an_expression item items es e in
    subst (SpellsExprs (item ∷ items)) parts.4
    (one_more_expr item parts.0 items parts.1 (each.0.exprs parts.0 parts.2) (exprs_sound items each.1 parts.1 parts.3))

handlers_sound : (items : List Sexp) → Each AllSpelled items → (hs : List Handler) → each_as grammar.a_handler (map reading items) ≡ Ok hs → SpellsHandlers items hs
handlers_sound [] each hs e = subst (SpellsHandlers []) (ok_value [] hs e) no_handlers
handlers_sound (item ∷ items) each hs e =
    let parts = each_first grammar.a_handler item items hs e in
    subst (SpellsHandlers (item ∷ items)) parts.4
    (one_more_handler item parts.0 items parts.1 (each.0.handlers parts.0 parts.2) (handlers_sound items each.1 parts.1 parts.3))

same_handlers : (items : List Sexp) (hs : List Handler) → SpellsHandlers items hs → length hs ≡ length items
same_handlers _ _ no_handlers = refl
same_handlers _ _ (one_more_handler item d items handlers one each) = ap suc (same_handlers items handlers each)

same_exprs : (items : List Sexp) (es : List Expr) → SpellsExprs items es → length es ≡ length items
same_exprs _ _ no_exprs = refl
same_exprs _ _ (one_more_expr item e items es one each) = ap suc (same_exprs items es each)

cons_is : {X : Type 0} {x y : X} {xs ys : List X} → x ≡ y → xs ≡ ys → x ∷ xs ≡ y ∷ ys
cons_is {X} {x} {y} {xs} {ys} e f = ap (λ (z : X). z ∷ xs) e ∙ ap (λ (zs : List X). y ∷ zs) f

-- a list that begins with a word spells what the parts that it has spell
spelled_as : {X : Type 0} (P : Sexp → X → Type 0) (at h : Span) (word : List ℕ) (parts items : List Sexp) (x y : X) → x ≡ y → parts ≡ items → P (Parens at (Word h word ∷ items)) x → P (Parens at (Word h word ∷ parts)) y
spelled_as P at h word parts items x y made e rule =
    subst (λ (ps : List Sexp). P (Parens at (Word h word ∷ ps)) y) (sym e) (subst (P (Parens at (Word h word ∷ items))) made rule)

-- documents

doc_sound : (at h : Span) (head : DocHead) (parts : List Sexp) → Each AllSpelled parts → (d : Doc) → form_as at.from (doc_form head) (map reading parts) ≡ Ok d → SpellsDoc (Parens at (Word h (doc_word head) ∷ parts)) d
doc_sound at h doc_head.Text parts each d e =
    let back = two_back at.from grammar.a_name grammar.a_string doc.Text parts d e in
    let name = name_back back.a back.v back.first in
    let string = string_back back.b back.w back.second in
    spelled_as SpellsDoc at h (codes "text") parts _ _ d back.made (back.is ∙ cons_is name.is (cons_is string.is refl))
    (a_text at h name.at string.at back.v back.w name.holds)
doc_sound at h doc_head.Link parts each d e =
    let back = three_back at.from grammar.a_name grammar.an_address grammar.a_string doc.Link parts d e in
    let name = name_back back.a back.v back.first in
    let address = address_back back.b back.w back.second in
    let string = string_back back.c back.y back.third in
    spelled_as SpellsDoc at h (codes "link") parts _ _ d back.made (back.is ∙ cons_is name.is (cons_is address.is (cons_is string.is refl)))
    (a_link at h name.at address.at string.at back.v address.word back.w back.y name.holds address.spells)
doc_sound at h doc_head.TextBox parts each d e =
    let back = two_all_back at.from grammar.a_name grammar.a_string grammar.a_handler doc.TextBox parts d e in
    let name = name_back back.a back.v back.first in
    let string = string_back back.b back.w back.second in
    let inner : Each AllSpelled (back.a ∷ back.b ∷ back.rest) = subst (Each AllSpelled) back.is each in
    let handlers = handlers_sound back.rest inner.1.1 back.values back.each in
    let few : length back.values ≤ MOST_HANDLERS = omega (arith, same_handlers back.rest back.values handlers, back.few) in
    spelled_as SpellsDoc at h (codes "box") parts _ _ d back.made (back.is ∙ cons_is name.is (cons_is string.is refl))
    (a_text_box at h name.at string.at back.v back.w back.rest back.values name.holds handlers few)
doc_sound at h doc_head.Button parts each d e =
    let back = two_all_back at.from grammar.a_name grammar.a_string grammar.a_handler doc.Button parts d e in
    let name = name_back back.a back.v back.first in
    let string = string_back back.b back.w back.second in
    let inner : Each AllSpelled (back.a ∷ back.b ∷ back.rest) = subst (Each AllSpelled) back.is each in
    let handlers = handlers_sound back.rest inner.1.1 back.values back.each in
    let few : length back.values ≤ MOST_HANDLERS = omega (arith, same_handlers back.rest back.values handlers, back.few) in
    spelled_as SpellsDoc at h (codes "button") parts _ _ d back.made (back.is ∙ cons_is name.is (cons_is string.is refl))
    (a_button at h name.at string.at back.v back.w back.rest back.values name.holds handlers few)
doc_sound at h doc_head.Script parts each d e =
    let back = two_back at.from grammar.a_name grammar.an_expression doc.Script parts d e in
    let name = name_back back.a back.v back.first in
    let inner : Each AllSpelled (back.a ∷ back.b ∷ []) = subst (Each AllSpelled) back.is each in
    spelled_as SpellsDoc at h (codes "script") parts _ _ d back.made (back.is ∙ cons_is name.is refl)
    (a_script at h name.at back.v back.b back.w name.holds (inner.1.0.exprs back.w back.second))
doc_sound at h doc_head.Src parts each d e =
    let back = two_back at.from grammar.a_name grammar.an_address doc.Src parts d e in
    let name = name_back back.a back.v back.first in
    let address = address_back back.b back.w back.second in
    spelled_as SpellsDoc at h (codes "src") parts _ _ d back.made (back.is ∙ cons_is name.is (cons_is address.is refl))
    (a_source at h name.at address.at back.v address.word back.w name.holds address.spells)
doc_sound at h doc_head.Div parts each d e =
    let back = and_all_back at.from grammar.a_name grammar.a_document doc.Div parts d e in
    let name = name_back back.a back.v back.first in
    let inner : Each AllSpelled (back.a ∷ back.rest) = subst (Each AllSpelled) back.is each in
    spelled_as SpellsDoc at h (codes "div") parts _ _ d back.made (back.is ∙ cons_is name.is refl)
    (a_division at h name.at back.v back.rest back.values name.holds (docs_sound back.rest inner.1 back.values back.each))

-- handlers

handler_sound : (at h : Span) (head : HandlerHead) (parts : List Sexp) → Each AllSpelled parts → (d : Handler) → form_as at.from (handler_form head) (map reading parts) ≡ Ok d → SpellsHandler (Parens at (Word h (handler_word head) ∷ parts)) d
handler_sound at h handler_head.Make parts each d e =
    let back = two_back at.from grammar.one_parameter grammar.an_expression handler parts d e in
    let list = one_parameter_back back.a back.v back.first in
    let inner : Each AllSpelled (back.a ∷ back.b ∷ []) = subst (Each AllSpelled) back.is each in
    spelled_as SpellsHandler at h (codes "fn") parts _ _ d back.made (back.is ∙ cons_is (list.is ∙ ap (Parens list.at) list.holds.is) refl)
    (a_handler_list at h list.at list.holds.at back.v back.b back.w list.holds.holds (inner.1.0.exprs back.w back.second))

-- expressions

two_exprs : (at h : Span) (head : ExprHead) (makes : Expr → Expr → Expr) (parts : List Sexp) → Each AllSpelled parts → (x : Expr) → form_as at.from (grammar.form (grammar.an_expression ∷ grammar.an_expression ∷ []) grammar.nothing makes) (map reading parts) ≡ Ok x
    → ((item item' : Sexp) (e f : Expr) → SpellsExpr item e → SpellsExpr item' f → SpellsExpr (Parens at (Word h (expr_word head) ∷ item ∷ item' ∷ [])) (makes e f))
    → SpellsExpr (Parens at (Word h (expr_word head) ∷ parts)) x
two_exprs at h head makes parts each x e rule =
    let back = two_back at.from grammar.an_expression grammar.an_expression makes parts x e in
    let inner : Each AllSpelled (back.a ∷ back.b ∷ []) = subst (Each AllSpelled) back.is each in
    spelled_as SpellsExpr at h (expr_word head) parts _ _ x back.made back.is
    (rule back.a back.b back.v back.w (inner.0.exprs back.v back.first) (inner.1.0.exprs back.w back.second))

expr_sound : (at h : Span) (head : ExprHead) (parts : List Sexp) → Each AllSpelled parts → (x : Expr) → form_as at.from (expr_form head) (map reading parts) ≡ Ok x → SpellsExpr (Parens at (Word h (expr_word head) ∷ parts)) x
expr_sound at h expr_head.Let parts each x e =
    let back = two_back at.from grammar.a_variable grammar.an_expression expr.Let parts x e in
    let name = variable_back back.a back.v back.first in
    let inner : Each AllSpelled (back.a ∷ back.b ∷ []) = subst (Each AllSpelled) back.is each in
    spelled_as SpellsExpr at h (codes "let") parts _ _ x back.made (back.is ∙ cons_is name.is refl)
    (a_let at h name.at back.v back.b back.w name.holds (inner.1.0.exprs back.w back.second))
expr_sound at h expr_head.Set parts each x e =
    let back = two_back at.from grammar.a_variable grammar.an_expression expr.Set parts x e in
    let name = variable_back back.a back.v back.first in
    let inner : Each AllSpelled (back.a ∷ back.b ∷ []) = subst (Each AllSpelled) back.is each in
    spelled_as SpellsExpr at h (codes "set") parts _ _ x back.made (back.is ∙ cons_is name.is refl)
    (a_set at h name.at back.v back.b back.w name.holds (inner.1.0.exprs back.w back.second))
expr_sound at h expr_head.If parts each x e =
    let back = three_back at.from grammar.an_expression grammar.an_expression grammar.an_expression expr.If parts x e in
    let inner : Each AllSpelled (back.a ∷ back.b ∷ back.c ∷ []) = subst (Each AllSpelled) back.is each in
    spelled_as SpellsExpr at h (codes "if") parts _ _ x back.made back.is
    (an_if at h back.a back.b back.c back.v back.w back.y (inner.0.exprs back.v back.first) (inner.1.0.exprs back.w back.second) (inner.1.1.0.exprs back.y back.third))
expr_sound at h expr_head.While parts each x e = two_exprs at h expr_head.While expr.While parts each x e (a_while at h)
expr_sound at h expr_head.Do parts each x e =
    let back = all_back at.from any grammar.an_expression expr.Do parts x e in
    spelled_as SpellsExpr at h (codes "do") parts _ _ x back.made refl
    (a_do at h parts back.values (exprs_sound parts each back.values back.each))
expr_sound at h expr_head.And parts each x e = two_exprs at h expr_head.And expr.And parts each x e (an_and at h)
expr_sound at h expr_head.Or parts each x e = two_exprs at h expr_head.Or expr.Or parts each x e (an_or at h)
expr_sound at h expr_head.Make parts each x e =
    let back = two_back at.from grammar.parameters grammar.an_expression expr.Make parts x e in
    let list = parameters_back back.a back.v back.first in
    let inner : Each AllSpelled (back.a ∷ back.b ∷ []) = subst (Each AllSpelled) back.is each in
    spelled_as SpellsExpr at h (codes "fn") parts _ _ x back.made (back.is ∙ cons_is list.is refl)
    (a_function at h list.at list.parts back.v back.b back.w list.holds.words list.holds.params (inner.1.0.exprs back.w back.second))
expr_sound at h expr_head.Apply parts each x e =
    let back = and_all_back at.from grammar.an_expression grammar.an_expression expr.Apply parts x e in
    let inner : Each AllSpelled (back.a ∷ back.rest) = subst (Each AllSpelled) back.is each in
    spelled_as SpellsExpr at h (codes "call") parts _ _ x back.made back.is
    (a_call at h back.a back.rest back.v back.values (inner.0.exprs back.v back.first) (exprs_sound back.rest inner.1 back.values back.each))
expr_sound at h expr_head.Tree parts each x e =
    let back = one_back at.from grammar.a_document expr.Tree parts x e in
    let inner : Each AllSpelled (back.a ∷ []) = subst (Each AllSpelled) back.is each in
    spelled_as SpellsExpr at h (codes "new") parts _ _ x back.made back.is
    (a_tree at h back.a back.v (inner.0.docs back.v back.first))
expr_sound at h (expr_head.Prim op) parts each x e =
    let back = all_back at.from (λ n. n == arity_of op) grammar.an_expression (expr.Prim op) parts x e in
    let spelled = exprs_sound parts each back.values back.each in
    let few : (length parts == arity_of op) ≡ true = back.few in
    let count : length parts ≡ arity_of op = grind (arith, nat_tests) in
    spelled_as SpellsExpr at h (expr_word (expr_head.Prim op)) parts _ _ x back.made refl
    (an_operation at h op parts back.values spelled (same_exprs parts back.values spelled ∙ count))

-- words where an expression is wanted

word_sound : (at : Span) (word : List ℕ) (x : Expr) → word_as_expression at.from word ≡ Ok x → SpellsExpr (Word at word) x
word_sound at word x e = null (bytes_eq word (codes "null")) refl e where
  as_name : bytes_eq word (codes "null") ≡ false → bytes_eq word (codes "true") ≡ false → bytes_eq word (codes "false") ≡ false → name_as_expression at.from word ≡ Ok x → SpellsExpr (Word at word) x
  as_name n t f g =
      let test = passed (is_name word) (Ok (expr.Var word)) (fault.Name at.from) x g in
      let other : is_literal word ≡ false = rw n (rw t f) in
      subst (SpellsExpr (Word at word)) (ok_value (expr.Var word) x test.1) (a_name_of_variable at word (IsVar-from_tests word test.0 other))

  as_number : number_as at.from word ≡ Ok x → SpellsExpr (Word at word) x
  as_number g =
      let back = came_from (ok_or (read_num word) (fault.Number at.from)) (λ n. Ok (expr.Lit (lit.Num n))) x g in
      let spelled = number_spelled word back.0 (some_from (read_num word) (fault.Number at.from) back.0 back.1) in
      subst (SpellsExpr (Word at word)) (ok_value (expr.Lit (lit.Num back.0)) x back.2)
      (subst (λ w. SpellsExpr (Word at w) (expr.Lit (lit.Num back.0))) (sym spelled.1) (a_number at back.0 spelled.0))

  number : (b : Bool) → looks_like_number word ≡ b → bytes_eq word (codes "null") ≡ false → bytes_eq word (codes "true") ≡ false → bytes_eq word (codes "false") ≡ false
      → cond b (number_as at.from word) (name_as_expression at.from word) ≡ Ok x → SpellsExpr (Word at word) x
  number true q n t f g = as_number g
  number false q n t f g = as_name n t f g

  falsehood : (b : Bool) → bytes_eq word (codes "false") ≡ b → bytes_eq word (codes "null") ≡ false → bytes_eq word (codes "true") ≡ false
      → cond b (Ok (expr.Lit (lit.Bool false))) (cond (looks_like_number word) (number_as at.from word) (name_as_expression at.from word)) ≡ Ok x → SpellsExpr (Word at word) x
  falsehood true f n t g =
      subst (λ w. SpellsExpr (Word at w) x) (sym ((bytes_eq-Decides word (codes "false")).0 f)) (subst (SpellsExpr (Word at (codes "false"))) (ok_value (expr.Lit (lit.Bool false)) x g) (a_false at))
  falsehood false f n t g = number (looks_like_number word) refl n t f g

  truth : (b : Bool) → bytes_eq word (codes "true") ≡ b → bytes_eq word (codes "null") ≡ false
      → cond b (Ok (expr.Lit (lit.Bool true))) (cond (bytes_eq word (codes "false")) (Ok (expr.Lit (lit.Bool false))) (cond (looks_like_number word) (number_as at.from word) (name_as_expression at.from word))) ≡ Ok x
      → SpellsExpr (Word at word) x
  truth true t n g =
      subst (λ w. SpellsExpr (Word at w) x) (sym ((bytes_eq-Decides word (codes "true")).0 t)) (subst (SpellsExpr (Word at (codes "true"))) (ok_value (expr.Lit (lit.Bool true)) x g) (a_true at))
  truth false t n g = falsehood (bytes_eq word (codes "false")) refl n t g

  null : (b : Bool) → bytes_eq word (codes "null") ≡ b
      → cond b (Ok (expr.Lit lit.Null)) (cond (bytes_eq word (codes "true")) (Ok (expr.Lit (lit.Bool true))) (cond (bytes_eq word (codes "false")) (Ok (expr.Lit (lit.Bool false))) (cond (looks_like_number word) (number_as at.from word) (name_as_expression at.from word)))) ≡ Ok x
      → SpellsExpr (Word at word) x
  null true n g =
      subst (λ w. SpellsExpr (Word at w) x) (sym ((bytes_eq-Decides word (codes "null")).0 n)) (subst (SpellsExpr (Word at (codes "null"))) (ok_value (expr.Lit lit.Null) x g) (a_null at))
  null false n g = truth (bytes_eq word (codes "true")) refl n g

-- items

words_spelled : (at : Span) (word : List ℕ) → AllSpelled (Word at word)
words_spelled at word = record {
  docs = λ d e. absurd (err_value (fault.Place at.from) d (sym (reading-Word at word grammar.a_document) ∙ e));
  exprs = λ x e. word_sound at word x (sym (reading-Word at word grammar.an_expression) ∙ e);
  handlers = λ h e. absurd (err_value (fault.Place at.from) h (sym (reading-Word at word grammar.a_handler) ∙ e));
}

strings_spelled : (at : Span) (text : List ℕ) → AllSpelled (Str at text)
strings_spelled at text = record {
  docs = λ d e. absurd (err_value (fault.Place at.from) d (sym (reading-Str at text grammar.a_document) ∙ e));
  exprs = λ x e. subst (SpellsExpr (Str at text)) (ok_value (expr.Lit (lit.Str text)) x (sym (reading-Str at text grammar.an_expression) ∙ e)) (a_text_literal at text);
  handlers = λ h e. absurd (err_value (fault.Place at.from) h (sym (reading-Str at text grammar.a_handler) ∙ e));
}

lists_spelled : (at : Span) (parts : List Sexp) → Each AllSpelled parts → AllSpelled (Parens at parts)
lists_spelled at parts each = record {
  docs = λ d e.
      let back = list_back doc_word doc_heads doc_form at.from parts d (sym (reading-List at parts grammar.a_document) ∙ e) in
      let inner : Each AllSpelled (Word back.h (doc_word back.head) ∷ back.parts) = subst (Each AllSpelled) back.is each in
      subst (λ (ps : List Sexp). SpellsDoc (Parens at ps) d) (sym back.is) (doc_sound at back.h back.head back.parts inner.1 d back.formed);
  exprs = λ x e.
      let back = list_back expr_word expr_heads expr_form at.from parts x (sym (reading-List at parts grammar.an_expression) ∙ e) in
      let inner : Each AllSpelled (Word back.h (expr_word back.head) ∷ back.parts) = subst (Each AllSpelled) back.is each in
      subst (λ (ps : List Sexp). SpellsExpr (Parens at ps) x) (sym back.is) (expr_sound at back.h back.head back.parts inner.1 x back.formed);
  handlers = λ h e.
      let back = list_back handler_word handler_heads handler_form at.from parts h (sym (reading-List at parts grammar.a_handler) ∙ e) in
      let inner : Each AllSpelled (Word back.h (handler_word back.head) ∷ back.parts) = subst (Each AllSpelled) back.is each in
      subst (λ (ps : List Sexp). SpellsHandler (Parens at ps) h) (sym back.is) (handler_sound at back.h back.head back.parts inner.1 h back.formed);
}

all_spelled : (item : Sexp) → AllSpelled item
all_spelled item = items_ind AllSpelled words_spelled strings_spelled lists_spelled item

pub spelled_doc : (item : Sexp) (d : Doc) → reading item grammar.a_document ≡ Ok d → SpellsDoc item d
spelled_doc item = (all_spelled item).docs

pub spelled_handler : (item : Sexp) (h : Handler) → reading item grammar.a_handler ≡ Ok h → SpellsHandler item h
spelled_handler item = (all_spelled item).handlers

pub spelled_expr : (item : Sexp) (e : Expr) → reading item grammar.an_expression ≡ Ok e → SpellsExpr item e
spelled_expr item = (all_spelled item).exprs

each_spelled : (items : List Sexp) → Each AllSpelled items
each_spelled [] = tt
each_spelled (item ∷ items) = (all_spelled item, each_spelled items)

-- cookies and responses

cookie_sound : (item : Sexp) → IsOne item → (entry : CookieOp) → reading item grammar.a_cookie ≡ Ok entry → SpellsCookie item entry
cookie_sound _ (is_word at word) entry e = absurd (err_value (fault.Place at.from) entry (sym (reading-Word at word grammar.a_cookie) ∙ e))
cookie_sound _ (is_string at text) entry e = absurd (err_value (fault.Place at.from) entry (sym (reading-Str at text grammar.a_cookie) ∙ e))
cookie_sound _ (is_list at parts) entry e =
    let back = list_back cookie_word cookie_heads cookie_form at.from parts entry (sym (reading-List at parts grammar.a_cookie) ∙ e) in
    subst (λ (ps : List Sexp). SpellsCookie (Parens at ps) entry) (sym back.is) (by_head back.h back.head back.parts back.formed) where
      by_head : (h : Span) (head : CookieHead) (items : List Sexp) → form_as at.from (cookie_form head) (map reading items) ≡ Ok entry → SpellsCookie (Parens at (Word h (cookie_word head) ∷ items)) entry
      by_head h cookie_head.Put items f =
          let back = two_back at.from grammar.a_string grammar.a_string cookie.Put items entry f in
          let key = string_back back.a back.v back.first in
          let value = string_back back.b back.w back.second in
          spelled_as SpellsCookie at h (codes "set") items _ _ entry back.made (back.is ∙ cons_is key.is (cons_is value.is refl))
          (a_put at h key.at value.at back.v back.w)
      by_head h cookie_head.Drop items f =
          let back = one_back at.from grammar.a_string cookie.Drop items entry f in
          let key = string_back back.a back.v back.first in
          spelled_as SpellsCookie at h (codes "del") items _ _ entry back.made (back.is ∙ cons_is key.is refl)
          (a_drop at h key.at back.v)

pub spelled_cookie : (item : Sexp) (entry : CookieOp) → reading item grammar.a_cookie ≡ Ok entry → SpellsCookie item entry
spelled_cookie item entry e = cookie_sound item (item_cases item) entry e

cookies_sound : (items : List Sexp) (entries : List CookieOp) → each_as grammar.a_cookie (map reading items) ≡ Ok entries → SpellsCookies items entries
cookies_sound [] entries e = subst (SpellsCookies []) (ok_value [] entries e) no_cookies
cookies_sound (item ∷ items) entries e =
    let parts = each_first grammar.a_cookie item items entries e in
    subst (SpellsCookies (item ∷ items)) parts.4
    (one_more_cookie item parts.0 items parts.1 (cookie_sound item (item_cases item) parts.0 parts.2) (cookies_sound items parts.1 parts.3))

cookies_back : (item : Sexp) → IsOne item → (entries : List CookieOp) → reading item grammar.cookies ≡ Ok entries → IsListThat SpellsCookies item entries
cookies_back _ (is_word at word) entries e = absurd (err_value (fault.Place at.from) entries (sym (reading-Word at word grammar.cookies) ∙ e))
cookies_back _ (is_string at text) entries e = absurd (err_value (fault.Place at.from) entries (sym (reading-Str at text grammar.cookies) ∙ e))
cookies_back _ (is_list at parts) entries e = record { at = at; parts = parts; is = refl; holds = cookies_sound parts entries (sym (reading-List at parts grammar.cookies) ∙ e) }

pub spelled_cookies : (item : Sexp) (entries : List CookieOp) → reading item grammar.cookies ≡ Ok entries → IsListThat SpellsCookies item entries
spelled_cookies item entries e = cookies_back item (item_cases item) entries e

resp_sound : (at h : Span) (head : RespHead) (parts : List Sexp) (r : Resp) → form_as at.from (resp_form head) (map reading parts) ≡ Ok r → SpellsResp (Parens at (Word h (resp_word head) ∷ parts)) r
resp_sound at h resp_head.Page parts r e =
    let back = and_all_back at.from grammar.cookies grammar.a_document resp.Page parts r e in
    let list = cookies_back back.a (item_cases back.a) back.v back.first in
    spelled_as SpellsResp at h (codes "doc") parts _ _ r back.made (back.is ∙ cons_is list.is refl)
    (a_page at h list.at list.parts back.v back.rest back.values list.holds (docs_sound back.rest (each_spelled back.rest) back.values back.each))
resp_sound at h resp_head.Script parts r e =
    let back = two_back at.from grammar.cookies grammar.an_expression resp.Script parts r e in
    let list = cookies_back back.a (item_cases back.a) back.v back.first in
    spelled_as SpellsResp at h (codes "script") parts _ _ r back.made (back.is ∙ cons_is list.is refl)
    (a_script_sent at h list.at list.parts back.v back.b back.w list.holds (spelled_expr back.b back.w back.second))
resp_sound at h resp_head.Data parts r e =
    let back = two_back at.from grammar.cookies grammar.a_string resp.Data parts r e in
    let list = cookies_back back.a (item_cases back.a) back.v back.first in
    let string = string_back back.b back.w back.second in
    spelled_as SpellsResp at h (codes "data") parts _ _ r back.made (back.is ∙ cons_is list.is (cons_is string.is refl))
    (some_data at h list.at string.at list.parts back.v back.w list.holds)

resp_case : (item : Sexp) → IsOne item → (r : Resp) → reading item grammar.a_response ≡ Ok r → SpellsResp item r
resp_case _ (is_word at word) r e = absurd (err_value (fault.Place at.from) r (sym (reading-Word at word grammar.a_response) ∙ e))
resp_case _ (is_string at text) r e = absurd (err_value (fault.Place at.from) r (sym (reading-Str at text grammar.a_response) ∙ e))
resp_case _ (is_list at parts) r e =
    let back = list_back resp_word resp_heads resp_form at.from parts r (sym (reading-List at parts grammar.a_response) ∙ e) in
    subst (λ (ps : List Sexp). SpellsResp (Parens at ps) r) (sym back.is) (resp_sound at back.h back.head back.parts r back.formed)

pub spelled_resp : (item : Sexp) (r : Resp) → reading item grammar.a_response ≡ Ok r → SpellsResp item r
spelled_resp item r e = resp_case item (item_cases item) r e
