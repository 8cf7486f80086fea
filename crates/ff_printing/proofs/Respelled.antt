-- Whatever has the content of a value's item spells the value, wherever it stands.
use Rattle.std.proofs.Common.{◌≡◌, ℕ, true, false, List, [], ◌∷◌, map, codes, sym, ap, ◌∙◌, subst}
use Rattle.std.specs.List.{AllByRecursion}
use Rattle.ff_number.specs.Decimal.{num_text}
use Rattle.ff_name.specs.Address.{printed, as_printed}
use Rattle.ff_name.specs.declared.urls.Url.{Url}
use Rattle.ff_tree.specs.Ops.{word_of}
use Rattle.ff_tree.specs.Spelled.{IsVar, IsLit, IsSpelledDoc, IsSpelledExpr, IsSpelledHandler, handler_spelled}
use Rattle.ff_tree.specs.declared.op.Op.{Op}
use Rattle.ff_tree.specs.declared.tree.Lit.{Lit}
use Rattle.ff_tree.specs.declared.tree.Lit.TheVariants as lit
use Rattle.ff_tree.specs.declared.tree.Doc.{Doc}
use Rattle.ff_tree.specs.declared.tree.Doc.TheVariants as doc
use Rattle.ff_tree.specs.declared.tree.Expr.{Expr}
use Rattle.ff_tree.specs.declared.tree.Expr.TheVariants as expr
use Rattle.ff_tree.specs.declared.tree.Handler.{Handler, out-roll-Handler}
use Rattle.ff_tree.proofs.Layers.{IsSpelledHandler-out, IsSpelledExpr-Lit, IsSpelledExpr-Var, IsSpelledExpr-Let, IsSpelledExpr-Set, IsSpelledExpr-If, IsSpelledExpr-While, IsSpelledExpr-Do, IsSpelledExpr-And, IsSpelledExpr-Or, IsSpelledExpr-Make, IsSpelledExpr-Apply, IsSpelledExpr-Tree, IsSpelledExpr-Prim, IsSpelledDoc-Text, IsSpelledDoc-Link, IsSpelledDoc-TextBox, IsSpelledDoc-Button, IsSpelledDoc-Script, IsSpelledDoc-Src, IsSpelledDoc-Div}
use Rattle.ff_value.specs.Spelled.{IsSpelledResp}
use Rattle.ff_value.specs.declared.reply.CookieOp.{CookieOp}
use Rattle.ff_value.specs.declared.reply.CookieOp.TheVariants as cookie
use Rattle.ff_value.specs.declared.reply.Resp.{Resp}
use Rattle.ff_value.specs.declared.reply.Resp.TheVariants as resp
use Rattle.ff_text.specs.Printed.{bare}
use Rattle.ff_text.specs.declared.items.Span.{Span}
use Rattle.ff_text.specs.declared.items.Sexp.{Sexp}
use Rattle.ff_text.specs.declared.items.Sexp.TheVariants.{Word, Str, List as Parens}
use Rattle.ff_forms.specs.Canonical.{word, string, parens, address, lit_item, expr_item, handler_item, doc_item, cookie_item, resp_item}
use Rattle.ff_forms.specs.Grammar.{handler}
use Rattle.ff_forms.specs.Spellings.{AreWords, no_words, a_word, SpellsDoc, a_text, a_link, a_text_box, a_button, a_script, a_source, a_division, SpellsDocs, no_docs, one_more_doc, SpellsHandler, a_handler_list, SpellsHandlers, no_handlers, one_more_handler, SpellsExpr, a_null, a_true, a_false, a_number, a_text_literal, a_name_of_variable, a_let, a_set, an_if, a_while, a_do, an_and, an_or, a_function, a_call, a_tree, an_operation, SpellsExprs, no_exprs, one_more_expr, SpellsCookie, a_put, a_drop, SpellsCookies, no_cookies, one_more_cookie, SpellsResp, a_page, a_script_sent, some_data}
use Rattle.ff_printing.proofs.Bare.{word_item, string_item, list_item, cut, none}
use Rattle.ff_printing.proofs.Items.{expr_item-Lit, expr_item-Var, expr_item-Let, expr_item-Set, expr_item-If, expr_item-While, expr_item-Do, expr_item-And, expr_item-Or, expr_item-Make, expr_item-Apply, expr_item-Tree, expr_item-Prim, doc_item-Text, doc_item-Link, doc_item-TextBox, doc_item-Button, doc_item-Script, doc_item-Src, doc_item-Div, handler_item-is}
use Rattle.ff_printing.proofs.Trees.{Each, ByForms, doc_by_forms, expr_by_forms}

-- Lists by what stands first in them.

record Headed (item : Sexp) (head : List ℕ) (contents : List Sexp) : Type 0 where
  at : Span
  h : Span
  parts : List Sexp
  is : item ≡ Parens at (Word h head ∷ parts)
  same : map bare parts ≡ map bare contents

headed : (item : Sexp) (head : List ℕ) (contents : List Sexp) → bare item ≡ bare (parens (word head ∷ contents)) → Headed item head contents
headed item head contents e =
    let l = list_item item (word head ∷ contents) e in
    let c = cut l.parts (word head) contents l.same in
    let w = word_item c.first head c.first_same in
    record { at = l.at; h = w.at; parts = c.others; is = l.is ∙ ap (Parens l.at) (c.is ∙ ap (λ (f : Sexp). f ∷ c.others) w.is); same = c.others_same }

record Named (item : Sexp) (head name : List ℕ) (contents : List Sexp) : Type 0 where
  at : Span
  h : Span
  n : Span
  parts : List Sexp
  is : item ≡ Parens at (Word h head ∷ Word n name ∷ parts)
  same : map bare parts ≡ map bare contents

named : (item : Sexp) (head name : List ℕ) (contents : List Sexp) → bare item ≡ bare (parens (word head ∷ word name ∷ contents)) → Named item head name contents
named item head name contents e =
    let l = headed item head (word name ∷ contents) e in
    let c = cut l.parts (word name) contents l.same in
    let w = word_item c.first name c.first_same in
    record { at = l.at; h = l.h; n = w.at; parts = c.others; is = l.is ∙ ap (λ ps. Parens l.at (Word l.h head ∷ ps)) (c.is ∙ ap (λ (f : Sexp). f ∷ c.others) w.is); same = c.others_same }

record Labelled (item : Sexp) (head name label : List ℕ) (contents : List Sexp) : Type 0 where
  at : Span
  h : Span
  n : Span
  t : Span
  parts : List Sexp
  is : item ≡ Parens at (Word h head ∷ Word n name ∷ Str t label ∷ parts)
  same : map bare parts ≡ map bare contents

labelled : (item : Sexp) (head name label : List ℕ) (contents : List Sexp) → bare item ≡ bare (parens (word head ∷ word name ∷ string label ∷ contents)) → Labelled item head name label contents
labelled item head name label contents e =
    let l = named item head name (string label ∷ contents) e in
    let c = cut l.parts (string label) contents l.same in
    let w = string_item c.first label c.first_same in
    record { at = l.at; h = l.h; n = l.n; t = w.at; parts = c.others; is = l.is ∙ ap (λ ps. Parens l.at (Word l.h head ∷ Word l.n name ∷ ps)) (c.is ∙ ap (λ (f : Sexp). f ∷ c.others) w.is); same = c.others_same }

-- a list whose first part is a list
record Nested (item : Sexp) (head : List ℕ) (inner contents : List Sexp) : Type 0 where
  at : Span
  h : Span
  c : Span
  inside : List Sexp
  parts : List Sexp
  is : item ≡ Parens at (Word h head ∷ Parens c inside ∷ parts)
  inside_same : map bare inside ≡ map bare inner
  same : map bare parts ≡ map bare contents

nested : (item : Sexp) (head : List ℕ) (inner contents : List Sexp) → bare item ≡ bare (parens (word head ∷ parens inner ∷ contents)) → Nested item head inner contents
nested item head inner contents e =
    let l = headed item head (parens inner ∷ contents) e in
    let c = cut l.parts (parens inner) contents l.same in
    let w = list_item c.first inner c.first_same in
    record {
      at = l.at;
      h = l.h;
      c = w.at;
      inside = w.parts;
      parts = c.others;
      is = l.is ∙ ap (λ ps. Parens l.at (Word l.h head ∷ ps)) (c.is ∙ ap (λ (f : Sexp). f ∷ c.others) w.is);
      inside_same = w.same;
      same = c.others_same;
    }

-- So many parts.

record One (parts : List Sexp) (a : Sexp) : Type 0 where
  first : Sexp
  is : parts ≡ first ∷ []
  first_same : bare first ≡ bare a

one : (parts : List Sexp) (a : Sexp) → map bare parts ≡ map bare (a ∷ []) → One parts a
one parts a e = let c = cut parts a [] e in record { first = c.first; is = c.is ∙ ap (λ ps. c.first ∷ ps) (none c.others c.others_same); first_same = c.first_same }

record Two (parts : List Sexp) (a b : Sexp) : Type 0 where
  first : Sexp
  second : Sexp
  is : parts ≡ first ∷ second ∷ []
  first_same : bare first ≡ bare a
  second_same : bare second ≡ bare b

two : (parts : List Sexp) (a b : Sexp) → map bare parts ≡ map bare (a ∷ b ∷ []) → Two parts a b
two parts a b e =
    let c = cut parts a (b ∷ []) e in
    let o = one c.others b c.others_same in
    record { first = c.first; second = o.first; is = c.is ∙ ap (λ ps. c.first ∷ ps) o.is; first_same = c.first_same; second_same = o.first_same }

record Three (parts : List Sexp) (a b c : Sexp) : Type 0 where
  first : Sexp
  second : Sexp
  third : Sexp
  is : parts ≡ first ∷ second ∷ third ∷ []
  first_same : bare first ≡ bare a
  second_same : bare second ≡ bare b
  third_same : bare third ≡ bare c

three : (parts : List Sexp) (a b c : Sexp) → map bare parts ≡ map bare (a ∷ b ∷ c ∷ []) → Three parts a b c
three parts a b c e =
    let f = cut parts a (b ∷ c ∷ []) e in
    let o = two f.others b c f.others_same in
    record { first = f.first; second = o.first; third = o.second; is = f.is ∙ ap (λ ps. f.first ∷ ps) o.is; first_same = f.first_same; second_same = o.first_same; third_same = o.second_same }

pub words_same : (items : List Sexp) (xs : List (List ℕ)) → map bare items ≡ map bare (map word xs) → AreWords items xs
words_same items [] e = subst (λ is. AreWords is []) (sym (none items e)) no_words
words_same items (x ∷ xs) e =
    let c = cut items (word x) (map word xs) e in
    let w = word_item c.first x c.first_same in
    subst (λ is. AreWords is (x ∷ xs)) (sym (c.is ∙ ap (λ (f : Sexp). f ∷ c.others) w.is)) (a_word w.at x c.others xs (words_same c.others xs c.others_same))

-- The claims.

rule : {A B : Type 0} → A ≡ B → A → B
rule e a = subst (λ (T : Type 0). T) e a

abbrev DocClaim : Doc → Type 0
DocClaim d = IsSpelledDoc d → (item : Sexp) → bare item ≡ bare (doc_item d) → SpellsDoc item d

abbrev ExprClaim : Expr → Type 0
ExprClaim e = IsSpelledExpr e → (item : Sexp) → bare item ≡ bare (expr_item e) → SpellsExpr item e

abbrev HandlerClaim : Handler → Type 0
HandlerClaim h = IsSpelledHandler h → (item : Sexp) → bare item ≡ bare (handler_item h) → SpellsHandler item h

exprs_same : (es : List Expr) → Each ExprClaim es → AllByRecursion IsSpelledExpr es → (items : List Sexp) → map bare items ≡ map bare (map expr_item es) → SpellsExprs items es
exprs_same [] claims spelled items same = subst (λ is. SpellsExprs is []) (sym (none items same)) no_exprs
exprs_same (e ∷ es) claims spelled items same =
    let c = cut items (expr_item e) (map expr_item es) same in
    subst (λ is. SpellsExprs is (e ∷ es)) (sym c.is) (one_more_expr c.first e c.others es (claims.0 spelled.0 c.first c.first_same) (exprs_same es claims.1 spelled.1 c.others c.others_same))

handlers_same : (hs : List Handler) → Each HandlerClaim hs → AllByRecursion IsSpelledHandler hs → (items : List Sexp) → map bare items ≡ map bare (map handler_item hs) → SpellsHandlers items hs
handlers_same [] claims spelled items same = subst (λ is. SpellsHandlers is []) (sym (none items same)) no_handlers
handlers_same (h ∷ hs) claims spelled items same =
    let c = cut items (handler_item h) (map handler_item hs) same in
    subst (λ is. SpellsHandlers is (h ∷ hs)) (sym c.is) (one_more_handler c.first h c.others hs (claims.0 spelled.0 c.first c.first_same) (handlers_same hs claims.1 spelled.1 c.others c.others_same))

docs_same : (ds : List Doc) → Each DocClaim ds → AllByRecursion IsSpelledDoc ds → (items : List Sexp) → map bare items ≡ map bare (map doc_item ds) → SpellsDocs items ds
docs_same [] claims spelled items same = subst (λ is. SpellsDocs is []) (sym (none items same)) no_docs
docs_same (d ∷ ds) claims spelled items same =
    let c = cut items (doc_item d) (map doc_item ds) same in
    subst (λ is. SpellsDocs is (d ∷ ds)) (sym c.is) (one_more_doc c.first d c.others ds (claims.0 spelled.0 c.first c.first_same) (docs_same ds claims.1 spelled.1 c.others c.others_same))

lit_same : (l : Lit) → IsLit l → (item : Sexp) → bare item ≡ bare (lit_item l) → SpellsExpr item (expr.Lit l)
lit_same lit.Null is item e = let w = word_item item (codes "null") e in subst (λ i. SpellsExpr i (expr.Lit lit.Null)) (sym w.is) (a_null w.at)
lit_same (lit.Bool true) is item e = let w = word_item item (codes "true") e in subst (λ i. SpellsExpr i (expr.Lit (lit.Bool true))) (sym w.is) (a_true w.at)
lit_same (lit.Bool false) is item e = let w = word_item item (codes "false") e in subst (λ i. SpellsExpr i (expr.Lit (lit.Bool false))) (sym w.is) (a_false w.at)
lit_same (lit.Num n) is item e = let w = word_item item (num_text n) e in subst (λ i. SpellsExpr i (expr.Lit (lit.Num n))) (sym w.is) (a_number w.at n is)
lit_same (lit.Str text) is item e = let w = string_item item text e in subst (λ i. SpellsExpr i (expr.Lit (lit.Str text))) (sym w.is) (a_text_literal w.at text)

var_same : (x : List ℕ) → ExprClaim (expr.Var x)
var_same x spelled item same =
    let s = rule (IsSpelledExpr-Var x) spelled in
    let w = word_item item x (same ∙ ap bare (expr_item-Var x)) in
    subst (λ i. SpellsExpr i (expr.Var x)) (sym w.is) (a_name_of_variable w.at x s)

handler_parts : (x : List ℕ) (e : Expr) → IsSpelledHandler (handler x e) → IsVar x × IsSpelledExpr e
handler_parts x e spelled =
    rule (IsSpelledHandler-out (handler x e) ∙ ap (handler_spelled Doc Expr Handler IsSpelledDoc IsSpelledExpr IsSpelledHandler) (out-roll-Handler (record { param = x; body = e }))) spelled

let_same : (x : List ℕ) (e : Expr) → ExprClaim e → ExprClaim (expr.Let x e)
let_same x e claim spelled item same =
    let s = rule (IsSpelledExpr-Let x e) spelled in
    let l = named item (codes "let") x (expr_item e ∷ []) (same ∙ ap bare (expr_item-Let x e)) in
    let p = one l.parts (expr_item e) l.same in
    subst (λ i. SpellsExpr i (expr.Let x e)) (sym (l.is ∙ ap (λ ps. Parens l.at (Word l.h (codes "let") ∷ Word l.n x ∷ ps)) p.is))
    (a_let l.at l.h l.n x p.first e s.0 (claim s.1 p.first p.first_same))

set_same : (x : List ℕ) (e : Expr) → ExprClaim e → ExprClaim (expr.Set x e)
set_same x e claim spelled item same =
    let s = rule (IsSpelledExpr-Set x e) spelled in
    let l = named item (codes "set") x (expr_item e ∷ []) (same ∙ ap bare (expr_item-Set x e)) in
    let p = one l.parts (expr_item e) l.same in
    subst (λ i. SpellsExpr i (expr.Set x e)) (sym (l.is ∙ ap (λ ps. Parens l.at (Word l.h (codes "set") ∷ Word l.n x ∷ ps)) p.is))
    (a_set l.at l.h l.n x p.first e s.0 (claim s.1 p.first p.first_same))

if_same : (e f g : Expr) → ExprClaim e → ExprClaim f → ExprClaim g → ExprClaim (expr.If e f g)
if_same e f g claim_e claim_f claim_g spelled item same =
    let s = rule (IsSpelledExpr-If e f g) spelled in
    let l = headed item (codes "if") (expr_item e ∷ expr_item f ∷ expr_item g ∷ []) (same ∙ ap bare (expr_item-If e f g)) in
    let p = three l.parts (expr_item e) (expr_item f) (expr_item g) l.same in
    subst (λ i. SpellsExpr i (expr.If e f g)) (sym (l.is ∙ ap (λ ps. Parens l.at (Word l.h (codes "if") ∷ ps)) p.is))
    (an_if l.at l.h p.first p.second p.third e f g (claim_e s.0 p.first p.first_same) (claim_f s.1 p.second p.second_same) (claim_g s.2 p.third p.third_same))

while_same : (e f : Expr) → ExprClaim e → ExprClaim f → ExprClaim (expr.While e f)
while_same e f claim_e claim_f spelled item same =
    let s = rule (IsSpelledExpr-While e f) spelled in
    let l = headed item (codes "while") (expr_item e ∷ expr_item f ∷ []) (same ∙ ap bare (expr_item-While e f)) in
    let p = two l.parts (expr_item e) (expr_item f) l.same in
    subst (λ i. SpellsExpr i (expr.While e f)) (sym (l.is ∙ ap (λ ps. Parens l.at (Word l.h (codes "while") ∷ ps)) p.is))
    (a_while l.at l.h p.first p.second e f (claim_e s.0 p.first p.first_same) (claim_f s.1 p.second p.second_same))

and_same : (e f : Expr) → ExprClaim e → ExprClaim f → ExprClaim (expr.And e f)
and_same e f claim_e claim_f spelled item same =
    let s = rule (IsSpelledExpr-And e f) spelled in
    let l = headed item (codes "and") (expr_item e ∷ expr_item f ∷ []) (same ∙ ap bare (expr_item-And e f)) in
    let p = two l.parts (expr_item e) (expr_item f) l.same in
    subst (λ i. SpellsExpr i (expr.And e f)) (sym (l.is ∙ ap (λ ps. Parens l.at (Word l.h (codes "and") ∷ ps)) p.is))
    (an_and l.at l.h p.first p.second e f (claim_e s.0 p.first p.first_same) (claim_f s.1 p.second p.second_same))

or_same : (e f : Expr) → ExprClaim e → ExprClaim f → ExprClaim (expr.Or e f)
or_same e f claim_e claim_f spelled item same =
    let s = rule (IsSpelledExpr-Or e f) spelled in
    let l = headed item (codes "or") (expr_item e ∷ expr_item f ∷ []) (same ∙ ap bare (expr_item-Or e f)) in
    let p = two l.parts (expr_item e) (expr_item f) l.same in
    subst (λ i. SpellsExpr i (expr.Or e f)) (sym (l.is ∙ ap (λ ps. Parens l.at (Word l.h (codes "or") ∷ ps)) p.is))
    (an_or l.at l.h p.first p.second e f (claim_e s.0 p.first p.first_same) (claim_f s.1 p.second p.second_same))

do_same : (es : List Expr) → Each ExprClaim es → ExprClaim (expr.Do es)
do_same es claims spelled item same =
    let s = rule (IsSpelledExpr-Do es) spelled in
    let l = headed item (codes "do") (map expr_item es) (same ∙ ap bare (expr_item-Do es)) in
    subst (λ i. SpellsExpr i (expr.Do es)) (sym l.is) (a_do l.at l.h l.parts es (exprs_same es claims s l.parts l.same))

make_same : (params : List (List ℕ)) (e : Expr) → ExprClaim e → ExprClaim (expr.Make params e)
make_same params e claim spelled item same =
    let s = rule (IsSpelledExpr-Make params e) spelled in
    let l = nested item (codes "fn") (map word params) (expr_item e ∷ []) (same ∙ ap bare (expr_item-Make params e)) in
    let p = one l.parts (expr_item e) l.same in
    subst (λ i. SpellsExpr i (expr.Make params e)) (sym (l.is ∙ ap (λ ps. Parens l.at (Word l.h (codes "fn") ∷ Parens l.c l.inside ∷ ps)) p.is))
    (a_function l.at l.h l.c l.inside params p.first e (words_same l.inside params l.inside_same) s.0 (claim s.1 p.first p.first_same))

apply_same : (e : Expr) (es : List Expr) → ExprClaim e → Each ExprClaim es → ExprClaim (expr.Apply e es)
apply_same e es claim claims spelled item same =
    let s = rule (IsSpelledExpr-Apply e es) spelled in
    let l = headed item (codes "call") (expr_item e ∷ map expr_item es) (same ∙ ap bare (expr_item-Apply e es)) in
    let c = cut l.parts (expr_item e) (map expr_item es) l.same in
    subst (λ i. SpellsExpr i (expr.Apply e es)) (sym (l.is ∙ ap (λ ps. Parens l.at (Word l.h (codes "call") ∷ ps)) c.is))
    (a_call l.at l.h c.first c.others e es (claim s.0 c.first c.first_same) (exprs_same es claims s.1 c.others c.others_same))

tree_same : (d : Doc) → DocClaim d → ExprClaim (expr.Tree d)
tree_same d claim spelled item same =
    let s = rule (IsSpelledExpr-Tree d) spelled in
    let l = headed item (codes "new") (doc_item d ∷ []) (same ∙ ap bare (expr_item-Tree d)) in
    let p = one l.parts (doc_item d) l.same in
    subst (λ i. SpellsExpr i (expr.Tree d)) (sym (l.is ∙ ap (λ ps. Parens l.at (Word l.h (codes "new") ∷ ps)) p.is)) (a_tree l.at l.h p.first d (claim s p.first p.first_same))

prim_same : (op : Op) (es : List Expr) → Each ExprClaim es → ExprClaim (expr.Prim op es)
prim_same op es claims spelled item same =
    let s = rule (IsSpelledExpr-Prim op es) spelled in
    let l = headed item (word_of op) (map expr_item es) (same ∙ ap bare (expr_item-Prim op es)) in
    subst (λ i. SpellsExpr i (expr.Prim op es)) (sym l.is) (an_operation l.at l.h op l.parts es (exprs_same es claims s.1 l.parts l.same) s.0)

handler_same : (x : List ℕ) (e : Expr) → ExprClaim e → HandlerClaim (handler x e)
handler_same x e claim spelled item same =
    let s = handler_parts x e spelled in
    let l = nested item (codes "fn") (word x ∷ []) (expr_item e ∷ []) (same ∙ ap bare (handler_item-is x e)) in
    let w = one l.inside (word x) l.inside_same in
    let name = word_item w.first x w.first_same in
    let p = one l.parts (expr_item e) l.same in
    subst (λ i. SpellsHandler i (handler x e))
    (sym (l.is ∙ ap (λ ps. Parens l.at (Word l.h (codes "fn") ∷ Parens l.c ps ∷ l.parts)) (w.is ∙ ap (λ (f : Sexp). f ∷ []) name.is)
    ∙ ap (λ ps. Parens l.at (Word l.h (codes "fn") ∷ Parens l.c (Word name.at x ∷ []) ∷ ps)) p.is))
    (a_handler_list l.at l.h l.c name.at x p.first e s.0 (claim s.1 p.first p.first_same))

text_same : (x text : List ℕ) → DocClaim (doc.Text x text)
text_same x text spelled item same =
    let s = rule (IsSpelledDoc-Text x text) spelled in
    let l = labelled item (codes "text") x text [] (same ∙ ap bare (doc_item-Text x text)) in
    subst (λ i. SpellsDoc i (doc.Text x text)) (sym (l.is ∙ ap (λ ps. Parens l.at (Word l.h (codes "text") ∷ Word l.n x ∷ Str l.t text ∷ ps)) (none l.parts l.same)))
    (a_text l.at l.h l.n l.t x text s.0)

link_same : (x : List ℕ) (url : Url) (label : List ℕ) → DocClaim (doc.Link x url label)
link_same x url label spelled item same =
    let s = rule (IsSpelledDoc-Link x url label) spelled in
    let l = named item (codes "link") x (address url ∷ string label ∷ []) (same ∙ ap bare (doc_item-Link x url label)) in
    let p = two l.parts (address url) (string label) l.same in
    let u = word_item p.first (printed url) p.first_same in
    let t = string_item p.second label p.second_same in
    subst (λ i. SpellsDoc i (doc.Link x url label))
    (sym (l.is ∙ ap (λ ps. Parens l.at (Word l.h (codes "link") ∷ Word l.n x ∷ ps)) (p.is ∙ ap (λ (f : Sexp). f ∷ p.second ∷ []) u.is ∙ ap (λ (f : Sexp). Word u.at (printed url) ∷ f ∷ []) t.is)))
    (a_link l.at l.h l.n u.at t.at x (printed url) url label s.0 (as_printed url s.1))

box_same : (x text : List ℕ) (hs : List Handler) → Each HandlerClaim hs → DocClaim (doc.TextBox x text hs)
box_same x text hs claims spelled item same =
    let s = rule (IsSpelledDoc-TextBox x text hs) spelled in
    let l = labelled item (codes "box") x text (map handler_item hs) (same ∙ ap bare (doc_item-TextBox x text hs)) in
    subst (λ i. SpellsDoc i (doc.TextBox x text hs)) (sym l.is) (a_text_box l.at l.h l.n l.t x text l.parts hs s.0 (handlers_same hs claims s.3 l.parts l.same) s.2)

button_same : (x text : List ℕ) (hs : List Handler) → Each HandlerClaim hs → DocClaim (doc.Button x text hs)
button_same x text hs claims spelled item same =
    let s = rule (IsSpelledDoc-Button x text hs) spelled in
    let l = labelled item (codes "button") x text (map handler_item hs) (same ∙ ap bare (doc_item-Button x text hs)) in
    subst (λ i. SpellsDoc i (doc.Button x text hs)) (sym l.is) (a_button l.at l.h l.n l.t x text l.parts hs s.0 (handlers_same hs claims s.3 l.parts l.same) s.2)

script_same : (x : List ℕ) (e : Expr) → ExprClaim e → DocClaim (doc.Script x e)
script_same x e claim spelled item same =
    let s = rule (IsSpelledDoc-Script x e) spelled in
    let l = named item (codes "script") x (expr_item e ∷ []) (same ∙ ap bare (doc_item-Script x e)) in
    let p = one l.parts (expr_item e) l.same in
    subst (λ i. SpellsDoc i (doc.Script x e)) (sym (l.is ∙ ap (λ ps. Parens l.at (Word l.h (codes "script") ∷ Word l.n x ∷ ps)) p.is))
    (a_script l.at l.h l.n x p.first e s.0 (claim s.1 p.first p.first_same))

src_same : (x : List ℕ) (url : Url) → DocClaim (doc.Src x url)
src_same x url spelled item same =
    let s = rule (IsSpelledDoc-Src x url) spelled in
    let l = named item (codes "src") x (address url ∷ []) (same ∙ ap bare (doc_item-Src x url)) in
    let p = one l.parts (address url) l.same in
    let u = word_item p.first (printed url) p.first_same in
    subst (λ i. SpellsDoc i (doc.Src x url)) (sym (l.is ∙ ap (λ ps. Parens l.at (Word l.h (codes "src") ∷ Word l.n x ∷ ps)) (p.is ∙ ap (λ (f : Sexp). f ∷ []) u.is)))
    (a_source l.at l.h l.n u.at x (printed url) url s.0 (as_printed url s.1))

div_same : (x : List ℕ) (ds : List Doc) → Each DocClaim ds → DocClaim (doc.Div x ds)
div_same x ds claims spelled item same =
    let s = rule (IsSpelledDoc-Div x ds) spelled in
    let l = named item (codes "div") x (map doc_item ds) (same ∙ ap bare (doc_item-Div x ds)) in
    subst (λ i. SpellsDoc i (doc.Div x ds)) (sym l.is) (a_division l.at l.h l.n x l.parts ds s.0 (docs_same ds claims s.1 l.parts l.same))

by_forms : ByForms DocClaim ExprClaim HandlerClaim
by_forms = record {
  lit = λ l spelled item same. lit_same l (rule (IsSpelledExpr-Lit l) spelled) item (same ∙ ap bare (expr_item-Lit l));
  var = var_same;
  let_form = let_same;
  set_form = set_same;
  if_form = if_same;
  while_form = while_same;
  do_form = do_same;
  and_form = and_same;
  or_form = or_same;
  make_form = make_same;
  apply_form = apply_same;
  tree_form = tree_same;
  prim_form = prim_same;
  handler_form = handler_same;
  text_form = text_same;
  link_form = link_same;
  box_form = box_same;
  button_form = button_same;
  script_form = script_same;
  src_form = src_same;
  div_form = div_same;
}

pub doc_respelled : (d : Doc) → IsSpelledDoc d → (item : Sexp) → bare item ≡ bare (doc_item d) → SpellsDoc item d
doc_respelled = doc_by_forms DocClaim ExprClaim HandlerClaim by_forms

pub expr_respelled : (e : Expr) → IsSpelledExpr e → (item : Sexp) → bare item ≡ bare (expr_item e) → SpellsExpr item e
expr_respelled = expr_by_forms DocClaim ExprClaim HandlerClaim by_forms

docs_respelled : (ds : List Doc) → Each DocClaim ds
docs_respelled [] = tt
docs_respelled (d ∷ ds) = (doc_respelled d, docs_respelled ds)

cookie_respelled : (entry : CookieOp) (item : Sexp) → bare item ≡ bare (cookie_item entry) → SpellsCookie item entry
cookie_respelled (cookie.Put key value) item same =
    let l = headed item (codes "set") (string key ∷ string value ∷ []) same in
    let p = two l.parts (string key) (string value) l.same in
    let k = string_item p.first key p.first_same in
    let v = string_item p.second value p.second_same in
    subst (λ i. SpellsCookie i (cookie.Put key value))
    (sym (l.is ∙ ap (λ ps. Parens l.at (Word l.h (codes "set") ∷ ps)) (p.is ∙ ap (λ (f : Sexp). f ∷ p.second ∷ []) k.is ∙ ap (λ (f : Sexp). Str k.at key ∷ f ∷ []) v.is)))
    (a_put l.at l.h k.at v.at key value)
cookie_respelled (cookie.Drop key) item same =
    let l = headed item (codes "del") (string key ∷ []) same in
    let p = one l.parts (string key) l.same in
    let k = string_item p.first key p.first_same in
    subst (λ i. SpellsCookie i (cookie.Drop key)) (sym (l.is ∙ ap (λ ps. Parens l.at (Word l.h (codes "del") ∷ ps)) (p.is ∙ ap (λ (f : Sexp). f ∷ []) k.is))) (a_drop l.at l.h k.at key)

cookies_respelled : (cookies : List CookieOp) (items : List Sexp) → map bare items ≡ map bare (map cookie_item cookies) → SpellsCookies items cookies
cookies_respelled [] items same = subst (λ is. SpellsCookies is []) (sym (none items same)) no_cookies
cookies_respelled (entry ∷ cookies) items same =
    let c = cut items (cookie_item entry) (map cookie_item cookies) same in
    subst (λ is. SpellsCookies is (entry ∷ cookies)) (sym c.is) (one_more_cookie c.first entry c.others cookies (cookie_respelled entry c.first c.first_same) (cookies_respelled cookies c.others c.others_same))

pub resp_respelled : (r : Resp) → IsSpelledResp r → (item : Sexp) → bare item ≡ bare (resp_item r) → SpellsResp item r
resp_respelled (resp.Page cookies docs) spelled item same =
    let l = nested item (codes "doc") (map cookie_item cookies) (map doc_item docs) same in
    subst (λ i. SpellsResp i (resp.Page cookies docs)) (sym l.is)
    (a_page l.at l.h l.c l.inside cookies l.parts docs (cookies_respelled cookies l.inside l.inside_same) (docs_same docs (docs_respelled docs) spelled.1 l.parts l.same))
resp_respelled (resp.Script cookies e) spelled item same =
    let l = nested item (codes "script") (map cookie_item cookies) (expr_item e ∷ []) same in
    let p = one l.parts (expr_item e) l.same in
    subst (λ i. SpellsResp i (resp.Script cookies e)) (sym (l.is ∙ ap (λ ps. Parens l.at (Word l.h (codes "script") ∷ Parens l.c l.inside ∷ ps)) p.is))
    (a_script_sent l.at l.h l.c l.inside cookies p.first e (cookies_respelled cookies l.inside l.inside_same) (expr_respelled e spelled.1 p.first p.first_same))
resp_respelled (resp.Data cookies text) spelled item same =
    let l = nested item (codes "data") (map cookie_item cookies) (string text ∷ []) same in
    let p = one l.parts (string text) l.same in
    let t = string_item p.first text p.first_same in
    subst (λ i. SpellsResp i (resp.Data cookies text)) (sym (l.is ∙ ap (λ ps. Parens l.at (Word l.h (codes "data") ∷ Parens l.c l.inside ∷ ps)) (p.is ∙ ap (λ (f : Sexp). f ∷ []) t.is)))
    (some_data l.at l.h l.c t.at l.inside cookies text (cookies_respelled cookies l.inside l.inside_same))
