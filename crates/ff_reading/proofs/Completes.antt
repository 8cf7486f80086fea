-- What is spelled is read, with the value that is spelled.
use Rattle.std.proofs.Common.{◌≡◌, ◌==◌, ◌||◌, ◌&&◌, ◌≤◌, ℕ, suc, ℤ, true, false, List, [], ◌∷◌, map, length, Some, codes, Ok, Err, cond, FitsSigned, refl, ap, ◌∙◌, arith}
use Rattle.std.specs.Int.{w64}
use Rattle.std.specs.Char.{is_ascii_digit}
use Rattle.std.specs.Str.{bytes_eq}
use Rattle.std.proofs.lemmas.Bool.{and_parts}
use Rattle.std.proofs.lemmas.Bool.Decides.{nat_tests}
use Rattle.ff_name.specs.Spelling.{IsName, begins_name, stands_in_name}
use Rattle.std.specs.List.{list_all}
use Rattle.ff_number.specs.Decimal.{num_text}
use Rattle.ff_number.proofs.Texts.{BeginsNumber, digit, minus, BeginsNumber-num_text}
use Rattle.ff_tree.specs.Ops.{arity_of}
use Rattle.ff_tree.specs.Spelled.{IsVar}
use Rattle.ff_tree.specs.declared.op.Op.{Op}
use Rattle.ff_tree.specs.declared.tree.Lit.TheVariants as lit
use Rattle.ff_tree.specs.declared.tree.Doc.{Doc}
use Rattle.ff_tree.specs.declared.tree.Doc.TheVariants as doc
use Rattle.ff_tree.specs.declared.tree.Expr.{Expr}
use Rattle.ff_tree.specs.declared.tree.Expr.TheVariants as expr
use Rattle.ff_tree.specs.declared.tree.Handler.{Handler}
use Rattle.ff_value.specs.declared.reply.CookieOp.{CookieOp}
use Rattle.ff_value.specs.declared.reply.CookieOp.TheVariants as cookie
use Rattle.ff_value.specs.declared.reply.Resp.{Resp}
use Rattle.ff_value.specs.declared.reply.Resp.TheVariants as resp
use Rattle.ff_text.specs.declared.items.Span.{Span}
use Rattle.ff_text.specs.declared.items.Sexp.{Sexp}
use Rattle.ff_text.specs.declared.items.Sexp.TheVariants.{Word, Str, List as Parens}
use Rattle.ff_tree.specs.declared.limits.TheConstants.{MOST_HANDLERS}
use Rattle.ff_forms.specs.Words.{is_literal, looks_like_number, begins_with_digit}
use Rattle.ff_forms.specs.Grammar as grammar
use Rattle.ff_forms.specs.Grammar.{reading, each_as, form_as, handler, doc_form, expr_form, resp_form, cookie_form, handler_form, word_as_expression, number_as, any}
use Rattle.ff_forms.specs.Heads.{doc_own, expr_own, handler_own, resp_own, cookie_own, doc_word, expr_word, resp_word, cookie_word, handler_word, handler_heads, doc_heads, expr_heads, resp_heads, cookie_heads}
use Rattle.ff_forms.specs.Spellings.{SpellsDoc, a_text, a_link, a_text_box, a_button, a_script, a_source, a_division, SpellsDocs, no_docs, one_more_doc, SpellsHandler, a_handler_list, SpellsHandlers, no_handlers, one_more_handler, SpellsExpr, a_null, a_true, a_false, a_number, a_text_literal, a_name_of_variable, a_let, a_set, an_if, a_while, a_do, an_and, an_or, a_function, a_call, a_tree, an_operation, SpellsExprs, no_exprs, one_more_expr, SpellsCookie, a_put, a_drop, SpellsCookies, no_cookies, one_more_cookie, SpellsResp, a_page, a_script_sent, some_data}
use Rattle.ff_forms.specs.declared.heads.DocHead.{DocHead}
use Rattle.ff_forms.specs.declared.heads.DocHead.TheVariants as doc_head
use Rattle.ff_forms.specs.declared.heads.ExprHead.{ExprHead}
use Rattle.ff_forms.specs.declared.heads.ExprHead.TheVariants as expr_head
use Rattle.ff_forms.specs.declared.heads.HandlerHead.{HandlerHead}
use Rattle.ff_forms.specs.declared.heads.HandlerHead.TheVariants as handler_head
use Rattle.ff_forms.specs.declared.heads.RespHead.{RespHead}
use Rattle.ff_forms.specs.declared.heads.RespHead.TheVariants as resp_head
use Rattle.ff_forms.specs.declared.heads.CookieHead.{CookieHead}
use Rattle.ff_forms.specs.declared.heads.CookieHead.TheVariants as cookie_head
use Rattle.ff_forms.specs.declared.fault.SyntaxFault.TheVariants as fault
use Rattle.ff_reading.proofs.Layers.{reading-Word, reading-Str, reading-List}
use Rattle.ff_reading.proofs.Numbering.{number_found, number_answers}
use Rattle.ff_reading.proofs.Given.{not_literal, or_parts, name_item, variable_item, address_item, string_item, one_parameter_item, parameters_item, headed_list, one_read, two_read, three_read, all_read, and_all_read, two_all_read, each_read}
use Rattle.ff_name.proofs.Reading.{is_name-from}

-- the lists that begin with the word of a form

pub doc_list : (at h : Span) (head : DocHead) (parts : List Sexp) → reading (Parens at (Word h (doc_word head) ∷ parts)) grammar.a_document ≡ form_as at.from (doc_form head) (map reading parts)
doc_list at h head parts = reading-List at (Word h (doc_word head) ∷ parts) grammar.a_document ∙ headed_list doc_word doc_heads doc_form at.from h head parts (doc_own head)

pub expr_list : (at h : Span) (head : ExprHead) (parts : List Sexp) → reading (Parens at (Word h (expr_word head) ∷ parts)) grammar.an_expression ≡ form_as at.from (expr_form head) (map reading parts)
expr_list at h head parts = reading-List at (Word h (expr_word head) ∷ parts) grammar.an_expression ∙ headed_list expr_word expr_heads expr_form at.from h head parts (expr_own head)

pub resp_list : (at h : Span) (head : RespHead) (parts : List Sexp) → reading (Parens at (Word h (resp_word head) ∷ parts)) grammar.a_response ≡ form_as at.from (resp_form head) (map reading parts)
resp_list at h head parts = reading-List at (Word h (resp_word head) ∷ parts) grammar.a_response ∙ headed_list resp_word resp_heads resp_form at.from h head parts (resp_own head)

pub cookie_list : (at h : Span) (head : CookieHead) (parts : List Sexp) → reading (Parens at (Word h (cookie_word head) ∷ parts)) grammar.a_cookie ≡ form_as at.from (cookie_form head) (map reading parts)
cookie_list at h head parts = reading-List at (Word h (cookie_word head) ∷ parts) grammar.a_cookie ∙ headed_list cookie_word cookie_heads cookie_form at.from h head parts (cookie_own head)

pub handler_list : (at h : Span) (head : HandlerHead) (parts : List Sexp) → reading (Parens at (Word h (handler_word head) ∷ parts)) grammar.a_handler ≡ form_as at.from (handler_form head) (map reading parts)
handler_list at h head parts = reading-List at (Word h (handler_word head) ∷ parts) grammar.a_handler ∙ headed_list handler_word handler_heads handler_form at.from h head parts (handler_own head)

-- words where an expression is wanted

not_digit : (b : ℕ) → begins_name b ≡ true → is_ascii_digit b || (b == 45) ≡ false
not_digit b h = grind (arith, nat_tests)

name_looks : (x : List ℕ) → IsName x → looks_like_number x ≡ false
name_looks [] name = refl
name_looks (b ∷ x) name =
    let tests = or_parts (is_ascii_digit b) (b == 45) (not_digit b (and_parts (begins_name b) (list_all stands_in_name x) name.0).0) in
    ap (λ t. t || ((b == 45) && begins_with_digit x)) tests.0 ∙ ap (λ t. t && begins_with_digit x) tests.1

pub after_literals : (at : ℕ) (x : List ℕ) → is_literal x ≡ false
    → word_as_expression at x ≡ cond (looks_like_number x) (number_as at x) (grammar.name_as_expression at x)
after_literals at x e =
    let tests = or_parts (bytes_eq x (codes "null") || bytes_eq x (codes "true")) (bytes_eq x (codes "false")) e in
    let others = or_parts (bytes_eq x (codes "null")) (bytes_eq x (codes "true")) tests.0 in
    rw others.0 (rw others.1 (rw tests.1 refl))

variable_word : (at : Span) (x : List ℕ) → IsVar x → reading (Word at x) grammar.an_expression ≡ Ok (expr.Var x)
variable_word at x v =
    reading-Word at x grammar.an_expression ∙ after_literals at.from x (not_literal x v)
    ∙ ap (λ t. cond t (number_as at.from x) (grammar.name_as_expression at.from x)) (name_looks x v.name)
    ∙ ap (λ t. cond t (Ok (expr.Var x)) (Err (fault.Name at.from))) (is_name-from x v.name)

digit_looks : (b : ℕ) (x : List ℕ) → is_ascii_digit b ≡ true → (is_literal (b ∷ x) ≡ false) × (looks_like_number (b ∷ x) ≡ true)
digit_looks b x h =
    let n : (b == 110) ≡ false = grind (arith, nat_tests) in
    let t : (b == 116) ≡ false = grind (arith, nat_tests) in
    let f : (b == 102) ≡ false = grind (arith, nat_tests) in
    (rw n (rw t (rw f refl)), rw h refl)

number_looks : (word : List ℕ) → BeginsNumber word → (is_literal word ≡ false) × (looks_like_number word ≡ true)
number_looks word (digit d) =
    let looks = digit_looks d.first d.rest d.digit in
    (ap is_literal d.parts ∙ looks.0, ap looks_like_number d.parts ∙ looks.1)
number_looks word (minus digits d e) =
    let digit_first : begins_with_digit digits ≡ true = ap begins_with_digit d.parts ∙ d.digit in
    (ap is_literal e, ap looks_like_number e ∙ digit_first)

number_word : (at : Span) (n : ℤ) → FitsSigned w64 n → reading (Word at (num_text n)) grammar.an_expression ≡ Ok (expr.Lit (lit.Num n))
number_word at n h =
    let looks = number_looks (num_text n) (BeginsNumber-num_text n h) in
    reading-Word at (num_text n) grammar.an_expression ∙ after_literals at.from (num_text n) looks.0
    ∙ ap (λ t. cond t (number_as at.from (num_text n)) (grammar.name_as_expression at.from (num_text n))) looks.1
    ∙ number_answers at.from (num_text n) (Some n) (number_found n h)

-- as many values as items

same_count_handlers : (items : List Sexp) (handlers : List Handler) → SpellsHandlers items handlers → length items ≡ length handlers
same_count_handlers _ _ no_handlers = refl
same_count_handlers _ _ (one_more_handler item d items handlers one each) = ap suc (same_count_handlers items handlers each)

few_items : (items : List Sexp) (handlers : List Handler) → SpellsHandlers items handlers → length handlers ≤ MOST_HANDLERS → length items ≤ MOST_HANDLERS
few_items items handlers each few = omega (arith, same_count_handlers items handlers each)

same_count_exprs : (items : List Sexp) (es : List Expr) → SpellsExprs items es → length items ≡ length es
same_count_exprs _ _ no_exprs = refl
same_count_exprs _ _ (one_more_expr item e items es one each) = ap suc (same_count_exprs items es each)

so_many_items : (o : Op) (items : List Sexp) (es : List Expr) → SpellsExprs items es → length es ≡ arity_of o → (length items == arity_of o) ≡ true
so_many_items o items es each count =
    let same : length items ≡ arity_of o = same_count_exprs items es each ∙ count in
    grind (arith, nat_tests)

-- each form

mutual
  pub doc_complete : (item : Sexp) (d : Doc) → SpellsDoc item d → reading item grammar.a_document ≡ Ok d
  doc_complete _ _ (a_text at h n t x text is) =
      doc_list at h doc_head.Text (Word n x ∷ Str t text ∷ [])
      ∙ two_read at.from grammar.a_name grammar.a_string doc.Text (Word n x) (Str t text) x text (name_item n x is) (string_item t text)
  doc_complete _ _ (a_link at h n u t x address url label is spells) =
      doc_list at h doc_head.Link (Word n x ∷ Word u address ∷ Str t label ∷ [])
      ∙ three_read at.from grammar.a_name grammar.an_address grammar.a_string doc.Link (Word n x) (Word u address) (Str t label) x url label (name_item n x is) (address_item u address url spells) (string_item t label)
  doc_complete _ _ (a_text_box at h n t x text items handlers is each few) =
      doc_list at h doc_head.TextBox (Word n x ∷ Str t text ∷ items)
      ∙ two_all_read at.from grammar.a_name grammar.a_string grammar.a_handler doc.TextBox (Word n x) (Str t text) items x text handlers (few_items items handlers each few) (name_item n x is) (string_item t text) (handlers_complete items handlers each)
  doc_complete _ _ (a_button at h n t x label items handlers is each few) =
      doc_list at h doc_head.Button (Word n x ∷ Str t label ∷ items)
      ∙ two_all_read at.from grammar.a_name grammar.a_string grammar.a_handler doc.Button (Word n x) (Str t label) items x label handlers (few_items items handlers each few) (name_item n x is) (string_item t label) (handlers_complete items handlers each)
  doc_complete _ _ (a_script at h n x item body is spells) =
      doc_list at h doc_head.Script (Word n x ∷ item ∷ [])
      ∙ two_read at.from grammar.a_name grammar.an_expression doc.Script (Word n x) item x body (name_item n x is) (expr_complete item body spells)
  doc_complete _ _ (a_source at h n u x address url is spells) =
      doc_list at h doc_head.Src (Word n x ∷ Word u address ∷ [])
      ∙ two_read at.from grammar.a_name grammar.an_address doc.Src (Word n x) (Word u address) x url (name_item n x is) (address_item u address url spells)
  doc_complete _ _ (a_division at h n x items docs is each) =
      doc_list at h doc_head.Div (Word n x ∷ items)
      ∙ and_all_read at.from grammar.a_name grammar.a_document doc.Div (Word n x) items x docs (name_item n x is) (docs_complete items docs each)

  pub docs_complete : (items : List Sexp) (docs : List Doc) → SpellsDocs items docs → each_as grammar.a_document (map reading items) ≡ Ok docs
  docs_complete _ _ no_docs = refl
  docs_complete _ _ (one_more_doc item d items docs one each) = each_read grammar.a_document item items d docs (doc_complete item d one) (docs_complete items docs each)

  pub handler_complete : (item : Sexp) (one : Handler) → SpellsHandler item one → reading item grammar.a_handler ≡ Ok one
  handler_complete _ _ (a_handler_list at h p x param item body is spells) =
      handler_list at h handler_head.Make (Parens p (Word x param ∷ []) ∷ item ∷ [])
      ∙ two_read at.from grammar.one_parameter grammar.an_expression handler (Parens p (Word x param ∷ [])) item param body (one_parameter_item p x param is) (expr_complete item body spells)

  pub handlers_complete : (items : List Sexp) (handlers : List Handler) → SpellsHandlers items handlers → each_as grammar.a_handler (map reading items) ≡ Ok handlers
  handlers_complete _ _ no_handlers = refl
  handlers_complete _ _ (one_more_handler item d items handlers one each) = each_read grammar.a_handler item items d handlers (handler_complete item d one) (handlers_complete items handlers each)

  pub expr_complete : (item : Sexp) (e : Expr) → SpellsExpr item e → reading item grammar.an_expression ≡ Ok e
  expr_complete _ _ (a_null at) = reading-Word at (codes "null") grammar.an_expression
  expr_complete _ _ (a_true at) = reading-Word at (codes "true") grammar.an_expression
  expr_complete _ _ (a_false at) = reading-Word at (codes "false") grammar.an_expression
  expr_complete _ _ (a_number at n fits) = number_word at n fits
  expr_complete _ _ (a_text_literal at text) = reading-Str at text grammar.an_expression
  expr_complete _ _ (a_name_of_variable at x is) = variable_word at x is
  expr_complete _ _ (a_let at h n x item e is spells) =
      expr_list at h expr_head.Let (Word n x ∷ item ∷ [])
      ∙ two_read at.from grammar.a_variable grammar.an_expression expr.Let (Word n x) item x e (variable_item n x is) (expr_complete item e spells)
  expr_complete _ _ (a_set at h n x item e is spells) =
      expr_list at h expr_head.Set (Word n x ∷ item ∷ [])
      ∙ two_read at.from grammar.a_variable grammar.an_expression expr.Set (Word n x) item x e (variable_item n x is) (expr_complete item e spells)
  expr_complete _ _ (an_if at h item item' item'' e f g one two three) =
      expr_list at h expr_head.If (item ∷ item' ∷ item'' ∷ [])
      ∙ three_read at.from grammar.an_expression grammar.an_expression grammar.an_expression expr.If item item' item'' e f g (expr_complete item e one) (expr_complete item' f two) (expr_complete item'' g three)
  expr_complete _ _ (a_while at h item item' e f one two) =
      expr_list at h expr_head.While (item ∷ item' ∷ [])
      ∙ two_read at.from grammar.an_expression grammar.an_expression expr.While item item' e f (expr_complete item e one) (expr_complete item' f two)
  expr_complete _ _ (a_do at h items es each) =
      expr_list at h expr_head.Do items ∙ all_read at.from any grammar.an_expression expr.Do items es refl (exprs_complete items es each)
  expr_complete _ _ (an_and at h item item' e f one two) =
      expr_list at h expr_head.And (item ∷ item' ∷ [])
      ∙ two_read at.from grammar.an_expression grammar.an_expression expr.And item item' e f (expr_complete item e one) (expr_complete item' f two)
  expr_complete _ _ (an_or at h item item' e f one two) =
      expr_list at h expr_head.Or (item ∷ item' ∷ [])
      ∙ two_read at.from grammar.an_expression grammar.an_expression expr.Or item item' e f (expr_complete item e one) (expr_complete item' f two)
  expr_complete _ _ (a_function at h p items params item e words are spells) =
      expr_list at h expr_head.Make (Parens p items ∷ item ∷ [])
      ∙ two_read at.from grammar.parameters grammar.an_expression expr.Make (Parens p items) item params e (parameters_item p items params words are) (expr_complete item e spells)
  expr_complete _ _ (a_call at h item items e es one each) =
      expr_list at h expr_head.Apply (item ∷ items)
      ∙ and_all_read at.from grammar.an_expression grammar.an_expression expr.Apply item items e es (expr_complete item e one) (exprs_complete items es each)
  expr_complete _ _ (a_tree at h item tree spells) =
      expr_list at h expr_head.Tree (item ∷ []) ∙ one_read at.from grammar.a_document expr.Tree item tree (doc_complete item tree spells)
  expr_complete _ _ (an_operation at h o items es each count) =
      expr_list at h (expr_head.Prim o) items
      ∙ all_read at.from (λ n. n == arity_of o) grammar.an_expression (expr.Prim o) items es (so_many_items o items es each count) (exprs_complete items es each)

  pub exprs_complete : (items : List Sexp) (es : List Expr) → SpellsExprs items es → each_as grammar.an_expression (map reading items) ≡ Ok es
  exprs_complete _ _ no_exprs = refl
  exprs_complete _ _ (one_more_expr item e items es one each) = each_read grammar.an_expression item items e es (expr_complete item e one) (exprs_complete items es each)

pub cookie_complete : (item : Sexp) (entry : CookieOp) → SpellsCookie item entry → reading item grammar.a_cookie ≡ Ok entry
cookie_complete _ _ (a_put at h k v key value) =
    cookie_list at h cookie_head.Put (Str k key ∷ Str v value ∷ [])
    ∙ two_read at.from grammar.a_string grammar.a_string cookie.Put (Str k key) (Str v value) key value (string_item k key) (string_item v value)
cookie_complete _ _ (a_drop at h k key) =
    cookie_list at h cookie_head.Drop (Str k key ∷ []) ∙ one_read at.from grammar.a_string cookie.Drop (Str k key) key (string_item k key)

pub cookies_complete : (items : List Sexp) (entries : List CookieOp) → SpellsCookies items entries → each_as grammar.a_cookie (map reading items) ≡ Ok entries
cookies_complete _ _ no_cookies = refl
cookies_complete _ _ (one_more_cookie item entry items entries one each) = each_read grammar.a_cookie item items entry entries (cookie_complete item entry one) (cookies_complete items entries each)

cookies_item : (at : Span) (items : List Sexp) (entries : List CookieOp) → SpellsCookies items entries → reading (Parens at items) grammar.cookies ≡ Ok entries
cookies_item at items entries each = reading-List at items grammar.cookies ∙ cookies_complete items entries each

pub resp_complete : (item : Sexp) (r : Resp) → SpellsResp item r → reading item grammar.a_response ≡ Ok r
resp_complete _ _ (a_page at h c entries cookies items docs each all) =
    resp_list at h resp_head.Page (Parens c entries ∷ items)
    ∙ and_all_read at.from grammar.cookies grammar.a_document resp.Page (Parens c entries) items cookies docs (cookies_item c entries cookies each) (docs_complete items docs all)
resp_complete _ _ (a_script_sent at h c entries cookies item e each spells) =
    resp_list at h resp_head.Script (Parens c entries ∷ item ∷ [])
    ∙ two_read at.from grammar.cookies grammar.an_expression resp.Script (Parens c entries) item cookies e (cookies_item c entries cookies each) (expr_complete item e spells)
resp_complete _ _ (some_data at h c t entries cookies text each) =
    resp_list at h resp_head.Data (Parens c entries ∷ Str t text ∷ [])
    ∙ two_read at.from grammar.cookies grammar.a_string resp.Data (Parens c entries) (Str t text) cookies text (cookies_item c entries cookies each) (string_item t text)
