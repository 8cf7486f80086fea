-- The item of a value that is well spelled is well spelled.
use Rattle.std.proofs.Common.{◌≡◌, ◌<◌, ◌≤◌, ◌+◌, ℕ, suc, max, Bool, true, false, nat_lt, List, [], ◌∷◌, map, codes, refl, ap, ◌∙◌, subst, arith}
use Rattle.std.specs.List.{list_all, AllByRecursion}
use Rattle.std.specs.Str.{IsUtf8}
use Rattle.std.proofs.lemmas.Bool.{and_from}
use Rattle.std.proofs.lemmas.Bool.Decides.{nat_tests}
use Rattle.std.proofs.lemmas.Str.{is_utf8-from_IsUtf8}
use Rattle.ff_number.specs.Decimal.{num_text}
use Rattle.ff_name.specs.Address.{printed}
use Rattle.ff_name.specs.declared.urls.Url.{Url}
use Rattle.ff_tree.specs.Ops.{word_of}
use Rattle.ff_tree.specs.Spelled.{IsVar, IsLit, IsSpelledDoc, IsSpelledExpr, IsSpelledHandler, IsWellSpelledDoc, IsWellSpelledExpr, handler_spelled, doc_depth, expr_depth, handler_depth, most}
use Rattle.ff_tree.specs.declared.op.Op.{Op}
use Rattle.ff_tree.specs.declared.tree.Lit.{Lit}
use Rattle.ff_tree.specs.declared.tree.Lit.TheVariants as lit
use Rattle.ff_tree.specs.declared.tree.Doc.{Doc}
use Rattle.ff_tree.specs.declared.tree.Doc.TheVariants as doc
use Rattle.ff_tree.specs.declared.tree.Expr.{Expr}
use Rattle.ff_tree.specs.declared.tree.Expr.TheVariants as expr
use Rattle.ff_tree.specs.declared.tree.Handler.{Handler, out-roll-Handler}
use Rattle.ff_tree.proofs.Layers.{IsSpelledHandler-out, IsSpelledExpr-Lit, IsSpelledExpr-Var, IsSpelledExpr-Let, IsSpelledExpr-Set, IsSpelledExpr-If, IsSpelledExpr-While, IsSpelledExpr-Do, IsSpelledExpr-And, IsSpelledExpr-Or, IsSpelledExpr-Make, IsSpelledExpr-Apply, IsSpelledExpr-Tree, IsSpelledExpr-Prim, IsSpelledDoc-Text, IsSpelledDoc-Link, IsSpelledDoc-TextBox, IsSpelledDoc-Button, IsSpelledDoc-Script, IsSpelledDoc-Src, IsSpelledDoc-Div}
use Rattle.ff_value.specs.Spelled.{IsCookieOp, IsWellSpelledResp, cookies_depth}
use Rattle.ff_value.specs.declared.reply.CookieOp.{CookieOp}
use Rattle.ff_value.specs.declared.reply.CookieOp.TheVariants as cookie
use Rattle.ff_value.specs.declared.reply.Resp.{Resp}
use Rattle.ff_value.specs.declared.reply.Resp.TheVariants as resp
use Rattle.ff_text.specs.Notation.{span}
use Rattle.ff_text.specs.Printed.{fits_at, is_word, IsWellSpelled}
use Rattle.ff_text.specs.declared.items.Sexp.{Sexp}
use Rattle.ff_text.proofs.Layers.{fits_at-Word, fits_at-Str, fits_at-List}
use Rattle.ff_forms.specs.Canonical.{word, string, parens, address, lit_item, expr_item, handler_item, doc_item, cookie_item, cookies_item, resp_item}
use Rattle.ff_forms.specs.Grammar.{handler}
use Rattle.ff_forms.proofs.Depths as depth
use Rattle.ff_printing.proofs.Items.{expr_item-Lit, expr_item-Var, expr_item-Let, expr_item-Set, expr_item-If, expr_item-While, expr_item-Do, expr_item-And, expr_item-Or, expr_item-Make, expr_item-Apply, expr_item-Tree, expr_item-Prim, doc_item-Text, doc_item-Link, doc_item-TextBox, doc_item-Button, doc_item-Script, doc_item-Src, doc_item-Div, handler_item-is}
use Rattle.ff_printing.proofs.Trees.{Each, ByForms, doc_by_forms, expr_by_forms}
use Rattle.ff_printing.proofs.WordTexts.{name_word, url_word, number_word, operator_word}

-- the item is well spelled where it stands in so many lists
abbrev Fits : Sexp → ℕ → Type 0
Fits item nesting = fits_at item nesting ≡ true

abbrev AllFit : List Sexp → ℕ → Type 0
AllFit items nesting = list_all (λ (part : ℕ → Bool). part nesting) (map fits_at items) ≡ true

and_more : (item : Sexp) (items : List Sexp) (nesting : ℕ) → Fits item nesting → AllFit items nesting → AllFit (item ∷ items) nesting
and_more item items nesting one others = and_from (fits_at item nesting) (list_all (λ (part : ℕ → Bool). part nesting) (map fits_at items)) one others

word_fits : (text : List ℕ) (nesting : ℕ) → is_word text ≡ true → Fits (word text) nesting
word_fits text nesting h = ap (λ f. f nesting) (fits_at-Word (span 0 0) text) ∙ h

string_fits : (value : List ℕ) (nesting : ℕ) → IsUtf8 value → Fits (string value) nesting
string_fits value nesting h = ap (λ f. f nesting) (fits_at-Str (span 0 0) value) ∙ is_utf8-from_IsUtf8 value h

parens_fit : (items : List Sexp) (nesting : ℕ) → nesting < 64 → AllFit items (suc nesting) → Fits (parens items) nesting
parens_fit items nesting room all =
    let test : nat_lt nesting 64 ≡ true = grind (arith, nat_tests) in
    ap (λ f. f nesting) (fits_at-List (span 0 0) items) ∙ and_from (nat_lt nesting 64) (list_all (λ (part : ℕ → Bool). part (suc nesting)) (map fits_at items)) test all

form_fits : (head : List ℕ) (items : List Sexp) (nesting : ℕ) → is_word head ≡ true → nesting < 64 → AllFit items (suc nesting) → Fits (parens (word head ∷ items)) nesting
form_fits head items nesting h room all = parens_fit (word head ∷ items) nesting room (and_more (word head) items (suc nesting) (word_fits head (suc nesting) h) all)

named_fits : (head x : List ℕ) (items : List Sexp) (nesting : ℕ) → is_word head ≡ true → is_word x ≡ true → nesting < 64 → AllFit items (suc nesting) → Fits (parens (word head ∷ word x ∷ items)) nesting
named_fits head x items nesting h name room all = form_fits head (word x ∷ items) nesting h room (and_more (word x) items (suc nesting) (word_fits x (suc nesting) name) all)

one_fits : (item : Sexp) (nesting : ℕ) → Fits item nesting → AllFit (item ∷ []) nesting
one_fits item nesting one = and_more item [] nesting one refl

words_fit : (xs : List (List ℕ)) (nesting : ℕ) → AllByRecursion IsVar xs → AllFit (map word xs) nesting
words_fit [] nesting vars = refl
words_fit (x ∷ xs) nesting vars = and_more (word x) (map word xs) nesting (word_fits x nesting (name_word x vars.0.name)) (words_fit xs nesting vars.1)

rule : {A B : Type 0} → A ≡ B → A → B
rule e a = subst (λ (T : Type 0). T) e a

same_fits : (item other : Sexp) (nesting : ℕ) → item ≡ other → Fits other nesting → Fits item nesting
same_fits item other nesting e fits = ap (λ (i : Sexp). fits_at i nesting) e ∙ fits

-- The claims.

abbrev DocFits : Doc → Type 0
DocFits d = IsSpelledDoc d → (nesting : ℕ) → nesting + doc_depth d ≤ 64 → Fits (doc_item d) nesting

abbrev ExprFits : Expr → Type 0
ExprFits e = IsSpelledExpr e → (nesting : ℕ) → nesting + expr_depth e ≤ 64 → Fits (expr_item e) nesting

abbrev HandlerFits : Handler → Type 0
HandlerFits h = IsSpelledHandler h → (nesting : ℕ) → nesting + handler_depth h ≤ 64 → Fits (handler_item h) nesting

exprs_fit : (es : List Expr) → Each ExprFits es → AllByRecursion IsSpelledExpr es → (nesting : ℕ) → nesting + most (map expr_depth es) ≤ 64 → AllFit (map expr_item es) nesting
exprs_fit [] claims spelled nesting room = refl
exprs_fit (e ∷ es) claims spelled nesting room = and_more (expr_item e) (map expr_item es) nesting (claims.0 spelled.0 nesting (omega arith)) (exprs_fit es claims.1 spelled.1 nesting (omega arith))

handlers_fit : (hs : List Handler) → Each HandlerFits hs → AllByRecursion IsSpelledHandler hs → (nesting : ℕ) → nesting + most (map handler_depth hs) ≤ 64 → AllFit (map handler_item hs) nesting
handlers_fit [] claims spelled nesting room = refl
handlers_fit (h ∷ hs) claims spelled nesting room = and_more (handler_item h) (map handler_item hs) nesting (claims.0 spelled.0 nesting (omega arith)) (handlers_fit hs claims.1 spelled.1 nesting (omega arith))

docs_fit : (ds : List Doc) → Each DocFits ds → AllByRecursion IsSpelledDoc ds → (nesting : ℕ) → nesting + most (map doc_depth ds) ≤ 64 → AllFit (map doc_item ds) nesting
docs_fit [] claims spelled nesting room = refl
docs_fit (d ∷ ds) claims spelled nesting room = and_more (doc_item d) (map doc_item ds) nesting (claims.0 spelled.0 nesting (omega arith)) (docs_fit ds claims.1 spelled.1 nesting (omega arith))

lit_fits : (l : Lit) → IsLit l → (nesting : ℕ) → Fits (lit_item l) nesting
lit_fits lit.Null is nesting = word_fits (codes "null") nesting refl
lit_fits (lit.Bool true) is nesting = word_fits (codes "true") nesting refl
lit_fits (lit.Bool false) is nesting = word_fits (codes "false") nesting refl
lit_fits (lit.Num n) is nesting = word_fits (num_text n) nesting (number_word n is)
lit_fits (lit.Str text) is nesting = string_fits text nesting is

var_fits : (x : List ℕ) → ExprFits (expr.Var x)
var_fits x spelled nesting room = same_fits (expr_item (expr.Var x)) (word x) nesting (expr_item-Var x) (word_fits x nesting (name_word x (rule (IsSpelledExpr-Var x) spelled).name))

let_fits : (x : List ℕ) (e : Expr) → ExprFits e → ExprFits (expr.Let x e)
let_fits x e claim spelled nesting room =
    let s = rule (IsSpelledExpr-Let x e) spelled in
    let deep : suc nesting + expr_depth e ≤ 64 = omega (arith, depth.expr_depth-Let x e) in
    ap (λ (i : Sexp). fits_at i nesting) (expr_item-Let x e)
    ∙ named_fits (codes "let") x (expr_item e ∷ []) nesting refl (name_word x s.0.name) (omega arith) (one_fits (expr_item e) (suc nesting) (claim s.1 (suc nesting) deep))

set_fits : (x : List ℕ) (e : Expr) → ExprFits e → ExprFits (expr.Set x e)
set_fits x e claim spelled nesting room =
    let s = rule (IsSpelledExpr-Set x e) spelled in
    let deep : suc nesting + expr_depth e ≤ 64 = omega (arith, depth.expr_depth-Set x e) in
    ap (λ (i : Sexp). fits_at i nesting) (expr_item-Set x e)
    ∙ named_fits (codes "set") x (expr_item e ∷ []) nesting refl (name_word x s.0.name) (omega arith) (one_fits (expr_item e) (suc nesting) (claim s.1 (suc nesting) deep))

if_fits : (e f g : Expr) → ExprFits e → ExprFits f → ExprFits g → ExprFits (expr.If e f g)
if_fits e f g claim_e claim_f claim_g spelled nesting room =
    let s = rule (IsSpelledExpr-If e f g) spelled in
    let deep : suc nesting + max (expr_depth e) (max (expr_depth f) (expr_depth g)) ≤ 64 = omega (arith, depth.expr_depth-If e f g) in
    ap (λ (i : Sexp). fits_at i nesting) (expr_item-If e f g)
    ∙ form_fits (codes "if") (expr_item e ∷ expr_item f ∷ expr_item g ∷ []) nesting refl (omega arith)
    (and_more (expr_item e) (expr_item f ∷ expr_item g ∷ []) (suc nesting) (claim_e s.0 (suc nesting) (omega arith))
    (and_more (expr_item f) (expr_item g ∷ []) (suc nesting) (claim_f s.1 (suc nesting) (omega arith)) (one_fits (expr_item g) (suc nesting) (claim_g s.2 (suc nesting) (omega arith)))))

while_fits : (e f : Expr) → ExprFits e → ExprFits f → ExprFits (expr.While e f)
while_fits e f claim_e claim_f spelled nesting room =
    let s = rule (IsSpelledExpr-While e f) spelled in
    let deep : suc nesting + max (expr_depth e) (expr_depth f) ≤ 64 = omega (arith, depth.expr_depth-While e f) in
    ap (λ (i : Sexp). fits_at i nesting) (expr_item-While e f)
    ∙ form_fits (codes "while") (expr_item e ∷ expr_item f ∷ []) nesting refl (omega arith)
    (and_more (expr_item e) (expr_item f ∷ []) (suc nesting) (claim_e s.0 (suc nesting) (omega arith)) (one_fits (expr_item f) (suc nesting) (claim_f s.1 (suc nesting) (omega arith))))

and_fits : (e f : Expr) → ExprFits e → ExprFits f → ExprFits (expr.And e f)
and_fits e f claim_e claim_f spelled nesting room =
    let s = rule (IsSpelledExpr-And e f) spelled in
    let deep : suc nesting + max (expr_depth e) (expr_depth f) ≤ 64 = omega (arith, depth.expr_depth-And e f) in
    ap (λ (i : Sexp). fits_at i nesting) (expr_item-And e f)
    ∙ form_fits (codes "and") (expr_item e ∷ expr_item f ∷ []) nesting refl (omega arith)
    (and_more (expr_item e) (expr_item f ∷ []) (suc nesting) (claim_e s.0 (suc nesting) (omega arith)) (one_fits (expr_item f) (suc nesting) (claim_f s.1 (suc nesting) (omega arith))))

or_fits : (e f : Expr) → ExprFits e → ExprFits f → ExprFits (expr.Or e f)
or_fits e f claim_e claim_f spelled nesting room =
    let s = rule (IsSpelledExpr-Or e f) spelled in
    let deep : suc nesting + max (expr_depth e) (expr_depth f) ≤ 64 = omega (arith, depth.expr_depth-Or e f) in
    ap (λ (i : Sexp). fits_at i nesting) (expr_item-Or e f)
    ∙ form_fits (codes "or") (expr_item e ∷ expr_item f ∷ []) nesting refl (omega arith)
    (and_more (expr_item e) (expr_item f ∷ []) (suc nesting) (claim_e s.0 (suc nesting) (omega arith)) (one_fits (expr_item f) (suc nesting) (claim_f s.1 (suc nesting) (omega arith))))

do_fits : (es : List Expr) → Each ExprFits es → ExprFits (expr.Do es)
do_fits es claims spelled nesting room =
    let s = rule (IsSpelledExpr-Do es) spelled in
    let deep : suc nesting + most (map expr_depth es) ≤ 64 = omega (arith, depth.expr_depth-Do es) in
    ap (λ (i : Sexp). fits_at i nesting) (expr_item-Do es) ∙ form_fits (codes "do") (map expr_item es) nesting refl (omega arith) (exprs_fit es claims s (suc nesting) deep)

make_fits : (params : List (List ℕ)) (e : Expr) → ExprFits e → ExprFits (expr.Make params e)
make_fits params e claim spelled nesting room =
    let s = rule (IsSpelledExpr-Make params e) spelled in
    let deep : suc nesting + max 1 (expr_depth e) ≤ 64 = omega (arith, depth.expr_depth-Make params e) in
    ap (λ (i : Sexp). fits_at i nesting) (expr_item-Make params e)
    ∙ form_fits (codes "fn") (parens (map word params) ∷ expr_item e ∷ []) nesting refl (omega arith)
    (and_more (parens (map word params)) (expr_item e ∷ []) (suc nesting) (parens_fit (map word params) (suc nesting) (omega arith) (words_fit params (suc (suc nesting)) s.0.vars))
    (one_fits (expr_item e) (suc nesting) (claim s.1 (suc nesting) (omega arith))))

apply_fits : (e : Expr) (es : List Expr) → ExprFits e → Each ExprFits es → ExprFits (expr.Apply e es)
apply_fits e es claim claims spelled nesting room =
    let s = rule (IsSpelledExpr-Apply e es) spelled in
    let deep : suc nesting + max (expr_depth e) (most (map expr_depth es)) ≤ 64 = omega (arith, depth.expr_depth-Apply e es) in
    ap (λ (i : Sexp). fits_at i nesting) (expr_item-Apply e es)
    ∙ form_fits (codes "call") (expr_item e ∷ map expr_item es) nesting refl (omega arith)
    (and_more (expr_item e) (map expr_item es) (suc nesting) (claim s.0 (suc nesting) (omega arith)) (exprs_fit es claims s.1 (suc nesting) (omega arith)))

tree_fits : (d : Doc) → DocFits d → ExprFits (expr.Tree d)
tree_fits d claim spelled nesting room =
    let s = rule (IsSpelledExpr-Tree d) spelled in
    let deep : suc nesting + doc_depth d ≤ 64 = omega (arith, depth.expr_depth-Tree d) in
    ap (λ (i : Sexp). fits_at i nesting) (expr_item-Tree d) ∙ form_fits (codes "new") (doc_item d ∷ []) nesting refl (omega arith) (one_fits (doc_item d) (suc nesting) (claim s (suc nesting) deep))

prim_fits : (op : Op) (es : List Expr) → Each ExprFits es → ExprFits (expr.Prim op es)
prim_fits op es claims spelled nesting room =
    let s = rule (IsSpelledExpr-Prim op es) spelled in
    let deep : suc nesting + most (map expr_depth es) ≤ 64 = omega (arith, depth.expr_depth-Prim op es) in
    ap (λ (i : Sexp). fits_at i nesting) (expr_item-Prim op es) ∙ form_fits (word_of op) (map expr_item es) nesting (operator_word op) (omega arith) (exprs_fit es claims s.1 (suc nesting) deep)

handler_parts : (x : List ℕ) (e : Expr) → IsSpelledHandler (handler x e) → IsVar x × IsSpelledExpr e
handler_parts x e spelled =
    rule (IsSpelledHandler-out (handler x e) ∙ ap (handler_spelled Doc Expr Handler IsSpelledDoc IsSpelledExpr IsSpelledHandler) (out-roll-Handler (record { param = x; body = e }))) spelled

handler_fits : (x : List ℕ) (e : Expr) → ExprFits e → HandlerFits (handler x e)
handler_fits x e claim spelled nesting room =
    let s = handler_parts x e spelled in
    let deep : suc nesting + max 1 (expr_depth e) ≤ 64 = omega (arith, depth.handler_depth-handler x e) in
    ap (λ (i : Sexp). fits_at i nesting) (handler_item-is x e)
    ∙ form_fits (codes "fn") (parens (word x ∷ []) ∷ expr_item e ∷ []) nesting refl (omega arith)
    (and_more (parens (word x ∷ [])) (expr_item e ∷ []) (suc nesting) (parens_fit (word x ∷ []) (suc nesting) (omega arith) (one_fits (word x) (suc (suc nesting)) (word_fits x (suc (suc nesting)) (name_word x s.0.name))))
    (one_fits (expr_item e) (suc nesting) (claim s.1 (suc nesting) (omega arith))))

text_fits : (x text : List ℕ) → DocFits (doc.Text x text)
text_fits x text spelled nesting room =
    let s = rule (IsSpelledDoc-Text x text) spelled in
    let deep : suc nesting ≤ 64 = omega (arith, depth.doc_depth-Text x text) in
    ap (λ (i : Sexp). fits_at i nesting) (doc_item-Text x text) ∙ named_fits (codes "text") x (string text ∷ []) nesting refl (name_word x s.0) (omega arith) (one_fits (string text) (suc nesting) (string_fits text (suc nesting) s.1))

link_fits : (x : List ℕ) (url : Url) (label : List ℕ) → DocFits (doc.Link x url label)
link_fits x url label spelled nesting room =
    let s = rule (IsSpelledDoc-Link x url label) spelled in
    let deep : suc nesting ≤ 64 = omega (arith, depth.doc_depth-Link x url label) in
    ap (λ (i : Sexp). fits_at i nesting) (doc_item-Link x url label)
    ∙ named_fits (codes "link") x (address url ∷ string label ∷ []) nesting refl (name_word x s.0) (omega arith)
    (and_more (address url) (string label ∷ []) (suc nesting) (word_fits (printed url) (suc nesting) (url_word url s.1)) (one_fits (string label) (suc nesting) (string_fits label (suc nesting) s.2)))

box_fits : (x text : List ℕ) (hs : List Handler) → Each HandlerFits hs → DocFits (doc.TextBox x text hs)
box_fits x text hs claims spelled nesting room =
    let s = rule (IsSpelledDoc-TextBox x text hs) spelled in
    let deep : suc nesting + most (map handler_depth hs) ≤ 64 = omega (arith, depth.doc_depth-TextBox x text hs) in
    ap (λ (i : Sexp). fits_at i nesting) (doc_item-TextBox x text hs)
    ∙ named_fits (codes "box") x (string text ∷ map handler_item hs) nesting refl (name_word x s.0) (omega arith)
    (and_more (string text) (map handler_item hs) (suc nesting) (string_fits text (suc nesting) s.1) (handlers_fit hs claims s.3 (suc nesting) deep))

button_fits : (x text : List ℕ) (hs : List Handler) → Each HandlerFits hs → DocFits (doc.Button x text hs)
button_fits x text hs claims spelled nesting room =
    let s = rule (IsSpelledDoc-Button x text hs) spelled in
    let deep : suc nesting + most (map handler_depth hs) ≤ 64 = omega (arith, depth.doc_depth-Button x text hs) in
    ap (λ (i : Sexp). fits_at i nesting) (doc_item-Button x text hs)
    ∙ named_fits (codes "button") x (string text ∷ map handler_item hs) nesting refl (name_word x s.0) (omega arith)
    (and_more (string text) (map handler_item hs) (suc nesting) (string_fits text (suc nesting) s.1) (handlers_fit hs claims s.3 (suc nesting) deep))

script_fits : (x : List ℕ) (e : Expr) → ExprFits e → DocFits (doc.Script x e)
script_fits x e claim spelled nesting room =
    let s = rule (IsSpelledDoc-Script x e) spelled in
    let deep : suc nesting + expr_depth e ≤ 64 = omega (arith, depth.doc_depth-Script x e) in
    ap (λ (i : Sexp). fits_at i nesting) (doc_item-Script x e)
    ∙ named_fits (codes "script") x (expr_item e ∷ []) nesting refl (name_word x s.0) (omega arith) (one_fits (expr_item e) (suc nesting) (claim s.1 (suc nesting) deep))

src_fits : (x : List ℕ) (url : Url) → DocFits (doc.Src x url)
src_fits x url spelled nesting room =
    let s = rule (IsSpelledDoc-Src x url) spelled in
    let deep : suc nesting ≤ 64 = omega (arith, depth.doc_depth-Src x url) in
    ap (λ (i : Sexp). fits_at i nesting) (doc_item-Src x url)
    ∙ named_fits (codes "src") x (address url ∷ []) nesting refl (name_word x s.0) (omega arith) (one_fits (address url) (suc nesting) (word_fits (printed url) (suc nesting) (url_word url s.1)))

div_fits : (x : List ℕ) (ds : List Doc) → Each DocFits ds → DocFits (doc.Div x ds)
div_fits x ds claims spelled nesting room =
    let s = rule (IsSpelledDoc-Div x ds) spelled in
    let deep : suc nesting + most (map doc_depth ds) ≤ 64 = omega (arith, depth.doc_depth-Div x ds) in
    ap (λ (i : Sexp). fits_at i nesting) (doc_item-Div x ds)
    ∙ named_fits (codes "div") x (map doc_item ds) nesting refl (name_word x s.0) (omega arith) (docs_fit ds claims s.1 (suc nesting) deep)

by_forms : ByForms DocFits ExprFits HandlerFits
by_forms = record {
  lit = λ l spelled nesting room. same_fits (expr_item (expr.Lit l)) (lit_item l) nesting (expr_item-Lit l) (lit_fits l (rule (IsSpelledExpr-Lit l) spelled) nesting);
  var = var_fits;
  let_form = let_fits;
  set_form = set_fits;
  if_form = if_fits;
  while_form = while_fits;
  do_form = do_fits;
  and_form = and_fits;
  or_form = or_fits;
  make_form = make_fits;
  apply_form = apply_fits;
  tree_form = tree_fits;
  prim_form = prim_fits;
  handler_form = handler_fits;
  text_form = text_fits;
  link_form = link_fits;
  box_form = box_fits;
  button_form = button_fits;
  script_form = script_fits;
  src_form = src_fits;
  div_form = div_fits;
}

doc_fits : (d : Doc) → DocFits d
doc_fits = doc_by_forms DocFits ExprFits HandlerFits by_forms

expr_fits : (e : Expr) → ExprFits e
expr_fits = expr_by_forms DocFits ExprFits HandlerFits by_forms

pub doc_item_well_spelled : (d : Doc) → IsWellSpelledDoc d → IsWellSpelled (doc_item d)
doc_item_well_spelled d well = doc_fits d well.spelled 0 (omega (arith, well.shallow))

pub expr_item_well_spelled : (e : Expr) → IsWellSpelledExpr e → IsWellSpelled (expr_item e)
expr_item_well_spelled e well = expr_fits e well.spelled 0 (omega (arith, well.shallow))

each_doc_fits : (ds : List Doc) → Each DocFits ds
each_doc_fits [] = tt
each_doc_fits (d ∷ ds) = (doc_fits d, each_doc_fits ds)

cookie_fits : (entry : CookieOp) → IsCookieOp entry → (nesting : ℕ) → nesting < 64 → Fits (cookie_item entry) nesting
cookie_fits (cookie.Put key value) is nesting room =
    form_fits (codes "set") (string key ∷ string value ∷ []) nesting refl room
    (and_more (string key) (string value ∷ []) (suc nesting) (string_fits key (suc nesting) is.0) (one_fits (string value) (suc nesting) (string_fits value (suc nesting) is.1)))
cookie_fits (cookie.Drop key) is nesting room = form_fits (codes "del") (string key ∷ []) nesting refl room (one_fits (string key) (suc nesting) (string_fits key (suc nesting) is))

each_cookie_fits : (cookies : List CookieOp) → AllByRecursion IsCookieOp cookies → (nesting : ℕ) → nesting < 64 → AllFit (map cookie_item cookies) nesting
each_cookie_fits [] are nesting room = refl
each_cookie_fits (entry ∷ cookies) are nesting room = and_more (cookie_item entry) (map cookie_item cookies) nesting (cookie_fits entry are.0 nesting room) (each_cookie_fits cookies are.1 nesting room)

cookies_fit : (cookies : List CookieOp) → AllByRecursion IsCookieOp cookies → Fits (cookies_item cookies) 1
cookies_fit cookies are = parens_fit (map cookie_item cookies) 1 (omega arith) (each_cookie_fits cookies are 2 (omega arith))

pub resp_item_well_spelled : (r : Resp) → IsWellSpelledResp r → IsWellSpelled (resp_item r)
resp_item_well_spelled (resp.Page cookies docs) well =
    let room : 1 + max (cookies_depth cookies) (most (map doc_depth docs)) ≤ 64 = well.shallow in
    form_fits (codes "doc") (cookies_item cookies ∷ map doc_item docs) 0 refl (omega arith)
    (and_more (cookies_item cookies) (map doc_item docs) 1 (cookies_fit cookies well.spelled.0) (docs_fit docs (each_doc_fits docs) well.spelled.1 1 (omega arith)))
resp_item_well_spelled (resp.Script cookies e) well =
    let room : 1 + max (cookies_depth cookies) (expr_depth e) ≤ 64 = well.shallow in
    form_fits (codes "script") (cookies_item cookies ∷ expr_item e ∷ []) 0 refl (omega arith)
    (and_more (cookies_item cookies) (expr_item e ∷ []) 1 (cookies_fit cookies well.spelled.0) (one_fits (expr_item e) 1 (expr_fits e well.spelled.1 1 (omega arith))))
resp_item_well_spelled (resp.Data cookies text) well =
    form_fits (codes "data") (cookies_item cookies ∷ string text ∷ []) 0 refl (omega arith)
    (and_more (cookies_item cookies) (string text ∷ []) 1 (cookies_fit cookies well.spelled.0) (one_fits (string text) 1 (string_fits text 1 well.spelled.1)))
