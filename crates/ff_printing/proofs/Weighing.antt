-- What is weighed is weighed as its item is.
use Rattle.std.proofs.Common.{◌≡◌, ℕ, ◌+◌, ◌*◌, List, [], ◌∷◌, map, length, true, false, refl, sym, ap, ◌∙◌, arith}
use Rattle.std.specs.Prelude.{codes, sum}
use Rattle.std.proofs.lemmas.List.Sums.{sum-map, sum_by-cons}
use denote.Hole.Carrier
use Rattle.ff_name.specs.declared.urls.Url.{Url}
use Rattle.ff_name.specs.Address.{printed}
use Rattle.ff_number.specs.Decimal.{num_text}
use Rattle.ff_tree.specs.Ops.{word_of}
use Rattle.ff_tree.specs.Weight.{items, lit_weight, doc_step, expr_step, handler_step, doc_weight, expr_weight, handler_weight}
use Rattle.ff_tree.specs.Weight as weight
use Rattle.ff_tree.specs.declared.op.Op.{Op}
use Rattle.ff_tree.specs.declared.tree.Lit.{Lit}
use Rattle.ff_tree.specs.declared.tree.Lit.TheVariants as lit
use Rattle.ff_tree.specs.declared.tree.Doc.{Doc}
use Rattle.ff_tree.specs.declared.tree.Doc.TheVariants as doc
use Rattle.ff_tree.specs.declared.tree.Expr.{Expr}
use Rattle.ff_tree.specs.declared.tree.Expr.TheVariants as expr
use Rattle.ff_tree.specs.declared.tree.Handler.{Handler}
use Rattle.ff_tree.specs.declared.tree.Doc.TheOpen.{Doc-F, Expr-F}
use Rattle.ff_tree.specs.declared.tree.Doc.TheViews.{roll-Doc, roll-Expr, roll-Handler}
use Rattle.ff_tree.specs.declared.tree.Doc.TheFolds.{fold-roll-Doc, fold-roll-Expr, fold-roll-Handler}
use Rattle.ff_value.specs.Weight.{cookie_weight, cookies_weight, resp_weight}
use Rattle.ff_value.specs.declared.reply.CookieOp.{CookieOp}
use Rattle.ff_value.specs.declared.reply.CookieOp.TheVariants as cookie
use Rattle.ff_value.specs.declared.reply.Resp.{Resp}
use Rattle.ff_value.specs.declared.reply.Resp.TheVariants as resp
use Rattle.ff_text.specs.Notation.{span}
use Rattle.ff_text.specs.declared.items.Sexp.{Sexp}
use Rattle.ff_text.specs.declared.items.Sexp.TheOpen.{Sexp-F}
use Rattle.ff_text.specs.declared.items.Sexp.TheViews.{roll-Sexp}
use Rattle.ff_text.specs.declared.items.Sexp.TheFolds.{fold-roll-Sexp}
use Rattle.ff_forms.specs.Canonical.{word, string, parens, address, lit_item, expr_item, handler_item, doc_item, cookie_item, cookies_item, resp_item}
use Rattle.ff_printing.specs.Weighed.{weigh_step, item_weight}
use Rattle.ff_printing.proofs.Items.{expr_item-Lit, expr_item-Var, expr_item-Let, expr_item-Set, expr_item-If, expr_item-While, expr_item-Do, expr_item-And, expr_item-Or, expr_item-Make, expr_item-Apply, expr_item-Tree, expr_item-Prim, doc_item-Text, doc_item-Link, doc_item-TextBox, doc_item-Button, doc_item-Script, doc_item-Src, doc_item-Div, handler_item-is}
use Rattle.ff_printing.proofs.Trees.{Each, ByForms, doc_by_forms, expr_by_forms}

word_weighs : (text : List ℕ) → item_weight (word text) ≡ 16
unfolding roll-Sexp denote.Hole.Carrier.roll
word_weighs text = fold-roll-Sexp ℕ weigh_step (Sexp-F.Word (span 0 0) text)

string_weighs : (value : List ℕ) → item_weight (string value) ≡ 16 + length value
unfolding roll-Sexp denote.Hole.Carrier.roll
string_weighs value = fold-roll-Sexp ℕ weigh_step (Sexp-F.Str (span 0 0) value)

parens_weigh : (parts : List Sexp) → item_weight (parens parts) ≡ 16 + sum (map item_weight parts)
unfolding roll-Sexp denote.Hole.Carrier.roll
parens_weigh parts = fold-roll-Sexp ℕ weigh_step (Sexp-F.List (span 0 0) parts)

abbrev D : Doc → Type 0
D d = doc_weight d ≡ item_weight (doc_item d)

abbrev E : Expr → Type 0
E e = expr_weight e ≡ item_weight (expr_item e)

abbrev H : Handler → Type 0
H h = handler_weight h ≡ item_weight (handler_item h)

-- the sums of what parts weigh
sum_more : {X : Type 0} (f : X → ℕ) (x : X) (xs : List X) → sum (map f (x ∷ xs)) ≡ f x + sum (map f xs)
sum_more f x xs = sum-map f (x ∷ xs) ∙ sum_by-cons f x xs ∙ ap (λ n. f x + n) (sym (sum-map f xs))

all_same : {X : Type 0} (f : X → ℕ) (item : X → Sexp) (xs : List X) → Each (λ x. f x ≡ item_weight (item x)) xs → sum (map f xs) ≡ sum (map item_weight (map item xs))
all_same f item [] each = refl
all_same f item (x ∷ xs) each =
    let one = each.0 in
    let rest = all_same f item xs each.1 in
    let here = sum_more f x xs in
    let there = sum_more item_weight (item x) (map item xs) in
    omega (arith, one, rest, here, there)

headed : (x : Sexp) (xs : List Sexp) → sum (map item_weight (x ∷ xs)) ≡ item_weight x + sum (map item_weight xs)
headed = sum_more item_weight

words_weigh : (xs : List (List ℕ)) → sum (map item_weight (map word xs)) ≡ 16 * length xs
words_weigh [] = refl
words_weigh (x ∷ xs) =
    let one = word_weighs x in
    let rest = words_weigh xs in
    let here = sum_more item_weight (word x) (map word xs) in
    omega (arith, one, rest, here)

url_weighs : (url : Url) → item_weight (address url) ≡ 16
url_weighs url = word_weighs (printed url)

lit_weighs : (l : Lit) → lit_weight l ≡ item_weight (lit_item l)
lit_weighs lit.Null = sym (word_weighs (codes "null"))
lit_weighs (lit.Bool true) = sym (word_weighs (codes "true"))
lit_weighs (lit.Bool false) = sym (word_weighs (codes "false"))
lit_weighs (lit.Num n) = sym (word_weighs (num_text n))
lit_weighs (lit.Str text) = sym (string_weighs text)

expr_weight-Lit : (l : Lit) → expr_weight (expr.Lit l) ≡ lit_weight l
unfolding roll-Expr denote.Hole.Carrier.roll
expr_weight-Lit l = fold-roll-Expr ℕ ℕ ℕ doc_step expr_step handler_step (Expr-F.Lit l)

expr_weight-Var : (x : List ℕ) → expr_weight (expr.Var x) ≡ 16
unfolding roll-Expr denote.Hole.Carrier.roll
expr_weight-Var x = fold-roll-Expr ℕ ℕ ℕ doc_step expr_step handler_step (Expr-F.Var x)

expr_weight-Let : (x : List ℕ) (e : Expr) → expr_weight (expr.Let x e) ≡ 48 + expr_weight e
unfolding roll-Expr denote.Hole.Carrier.roll
expr_weight-Let x e = fold-roll-Expr ℕ ℕ ℕ doc_step expr_step handler_step (Expr-F.Let x e)

expr_weight-Set : (x : List ℕ) (e : Expr) → expr_weight (expr.Set x e) ≡ 48 + expr_weight e
unfolding roll-Expr denote.Hole.Carrier.roll
expr_weight-Set x e = fold-roll-Expr ℕ ℕ ℕ doc_step expr_step handler_step (Expr-F.Set x e)

expr_weight-If : (e f g : Expr) → expr_weight (expr.If e f g) ≡ 32 + (expr_weight e + (expr_weight f + expr_weight g))
unfolding roll-Expr denote.Hole.Carrier.roll
expr_weight-If e f g = fold-roll-Expr ℕ ℕ ℕ doc_step expr_step handler_step (Expr-F.If e f g)

expr_weight-While : (e f : Expr) → expr_weight (expr.While e f) ≡ 32 + (expr_weight e + expr_weight f)
unfolding roll-Expr denote.Hole.Carrier.roll
expr_weight-While e f = fold-roll-Expr ℕ ℕ ℕ doc_step expr_step handler_step (Expr-F.While e f)

expr_weight-Do : (es : List Expr) → expr_weight (expr.Do es) ≡ 32 + sum (map expr_weight es)
unfolding roll-Expr denote.Hole.Carrier.roll
expr_weight-Do es = fold-roll-Expr ℕ ℕ ℕ doc_step expr_step handler_step (Expr-F.Do es)

expr_weight-And : (e f : Expr) → expr_weight (expr.And e f) ≡ 32 + (expr_weight e + expr_weight f)
unfolding roll-Expr denote.Hole.Carrier.roll
expr_weight-And e f = fold-roll-Expr ℕ ℕ ℕ doc_step expr_step handler_step (Expr-F.And e f)

expr_weight-Or : (e f : Expr) → expr_weight (expr.Or e f) ≡ 32 + (expr_weight e + expr_weight f)
unfolding roll-Expr denote.Hole.Carrier.roll
expr_weight-Or e f = fold-roll-Expr ℕ ℕ ℕ doc_step expr_step handler_step (Expr-F.Or e f)

expr_weight-Make : (params : List (List ℕ)) (e : Expr) → expr_weight (expr.Make params e) ≡ 48 + (16 * length params + expr_weight e)
unfolding roll-Expr denote.Hole.Carrier.roll
expr_weight-Make params e = fold-roll-Expr ℕ ℕ ℕ doc_step expr_step handler_step (Expr-F.Make params e)

expr_weight-Apply : (e : Expr) (es : List Expr) → expr_weight (expr.Apply e es) ≡ 32 + (expr_weight e + sum (map expr_weight es))
unfolding roll-Expr denote.Hole.Carrier.roll
expr_weight-Apply e es = fold-roll-Expr ℕ ℕ ℕ doc_step expr_step handler_step (Expr-F.Apply e es)

expr_weight-Tree : (d : Doc) → expr_weight (expr.Tree d) ≡ 32 + doc_weight d
unfolding roll-Expr denote.Hole.Carrier.roll
expr_weight-Tree d = fold-roll-Expr ℕ ℕ ℕ doc_step expr_step handler_step (Expr-F.Tree d)

expr_weight-Prim : (op : Op) (es : List Expr) → expr_weight (expr.Prim op es) ≡ 32 + sum (map expr_weight es)
unfolding roll-Expr denote.Hole.Carrier.roll
expr_weight-Prim op es = fold-roll-Expr ℕ ℕ ℕ doc_step expr_step handler_step (Expr-F.Prim op es)

doc_weight-Text : (x text : List ℕ) → doc_weight (doc.Text x text) ≡ 48 + (16 + length text)
unfolding roll-Doc denote.Hole.Carrier.roll
doc_weight-Text x text = fold-roll-Doc ℕ ℕ ℕ doc_step expr_step handler_step (Doc-F.Text x text)

doc_weight-Link : (x : List ℕ) (url : Url) (label : List ℕ) → doc_weight (doc.Link x url label) ≡ 64 + (16 + length label)
unfolding roll-Doc denote.Hole.Carrier.roll
doc_weight-Link x url label = fold-roll-Doc ℕ ℕ ℕ doc_step expr_step handler_step (Doc-F.Link x url label)

doc_weight-TextBox : (x text : List ℕ) (hs : List Handler) → doc_weight (doc.TextBox x text hs) ≡ 48 + ((16 + length text) + sum (map handler_weight hs))
unfolding roll-Doc denote.Hole.Carrier.roll
doc_weight-TextBox x text hs = fold-roll-Doc ℕ ℕ ℕ doc_step expr_step handler_step (Doc-F.TextBox x text hs)

doc_weight-Button : (x label : List ℕ) (hs : List Handler) → doc_weight (doc.Button x label hs) ≡ 48 + ((16 + length label) + sum (map handler_weight hs))
unfolding roll-Doc denote.Hole.Carrier.roll
doc_weight-Button x label hs = fold-roll-Doc ℕ ℕ ℕ doc_step expr_step handler_step (Doc-F.Button x label hs)

doc_weight-Script : (x : List ℕ) (e : Expr) → doc_weight (doc.Script x e) ≡ 48 + expr_weight e
unfolding roll-Doc denote.Hole.Carrier.roll
doc_weight-Script x e = fold-roll-Doc ℕ ℕ ℕ doc_step expr_step handler_step (Doc-F.Script x e)

doc_weight-Src : (x : List ℕ) (url : Url) → doc_weight (doc.Src x url) ≡ 64
unfolding roll-Doc denote.Hole.Carrier.roll
doc_weight-Src x url = fold-roll-Doc ℕ ℕ ℕ doc_step expr_step handler_step (Doc-F.Src x url)

doc_weight-Div : (x : List ℕ) (ds : List Doc) → doc_weight (doc.Div x ds) ≡ 48 + sum (map doc_weight ds)
unfolding roll-Doc denote.Hole.Carrier.roll
doc_weight-Div x ds = fold-roll-Doc ℕ ℕ ℕ doc_step expr_step handler_step (Doc-F.Div x ds)

handler_weight-is : (x : List ℕ) (e : Expr) → handler_weight (roll-Handler (record { param = x; body = e })) ≡ 64 + expr_weight e
handler_weight-is x e = fold-roll-Handler ℕ ℕ ℕ doc_step expr_step handler_step (record { param = x; body = e })

let_weighs : (x : List ℕ) (e : Expr) → E e → E (expr.Let x e)
let_weighs x e c =
    let mine = expr_weight-Let x e in
    let whole = ap item_weight (expr_item-Let x e) ∙ parens_weigh (word (codes "let") ∷ word x ∷ expr_item e ∷ []) in
    let h = word_weighs (codes "let") in
    let v = word_weighs (x) in
    omega (arith, mine, whole, c, h, v)

set_weighs : (x : List ℕ) (e : Expr) → E e → E (expr.Set x e)
set_weighs x e c =
    let mine = expr_weight-Set x e in
    let whole = ap item_weight (expr_item-Set x e) ∙ parens_weigh (word (codes "set") ∷ word x ∷ expr_item e ∷ []) in
    let h = word_weighs (codes "set") in
    let v = word_weighs (x) in
    omega (arith, mine, whole, c, h, v)

if_weighs : (e f g : Expr) → E e → E f → E g → E (expr.If e f g)
if_weighs e f g c d k =
    let mine = expr_weight-If e f g in
    let whole = ap item_weight (expr_item-If e f g) ∙ parens_weigh (word (codes "if") ∷ expr_item e ∷ expr_item f ∷ expr_item g ∷ []) in
    let h = word_weighs (codes "if") in
    omega (arith, mine, whole, c, d, k, h)

while_weighs : (e f : Expr) → E e → E f → E (expr.While e f)
while_weighs e f c d =
    let mine = expr_weight-While e f in
    let whole = ap item_weight (expr_item-While e f) ∙ parens_weigh (word (codes "while") ∷ expr_item e ∷ expr_item f ∷ []) in
    let h = word_weighs (codes "while") in
    omega (arith, mine, whole, c, d, h)

and_weighs : (e f : Expr) → E e → E f → E (expr.And e f)
and_weighs e f c d =
    let mine = expr_weight-And e f in
    let whole = ap item_weight (expr_item-And e f) ∙ parens_weigh (word (codes "and") ∷ expr_item e ∷ expr_item f ∷ []) in
    let h = word_weighs (codes "and") in
    omega (arith, mine, whole, c, d, h)

or_weighs : (e f : Expr) → E e → E f → E (expr.Or e f)
or_weighs e f c d =
    let mine = expr_weight-Or e f in
    let whole = ap item_weight (expr_item-Or e f) ∙ parens_weigh (word (codes "or") ∷ expr_item e ∷ expr_item f ∷ []) in
    let h = word_weighs (codes "or") in
    omega (arith, mine, whole, c, d, h)

do_weighs : (es : List Expr) → Each E es → E (expr.Do es)
do_weighs es each =
    let mine = expr_weight-Do es in
    let whole = ap item_weight (expr_item-Do es) ∙ parens_weigh (word (codes "do") ∷ map expr_item es) in
    let step_0 = headed (word (codes "do")) (map expr_item es) in
    let h = word_weighs (codes "do") in
    let all = all_same expr_weight expr_item es each in
    omega (arith, step_0, mine, whole, h, all)

make_weighs : (params : List (List ℕ)) (e : Expr) → E e → E (expr.Make params e)
make_weighs params e c =
    let mine = expr_weight-Make params e in
    let whole = ap item_weight (expr_item-Make params e) ∙ parens_weigh (word (codes "fn") ∷ parens (map word params) ∷ expr_item e ∷ []) in
    let h = word_weighs (codes "fn") in
    let ps = parens_weigh (map word params) in
    let ws = words_weigh params in
    omega (arith, mine, whole, c, h, ps, ws)

apply_weighs : (e : Expr) (es : List Expr) → E e → Each E es → E (expr.Apply e es)
apply_weighs e es c each =
    let mine = expr_weight-Apply e es in
    let whole = ap item_weight (expr_item-Apply e es) ∙ parens_weigh (word (codes "call") ∷ expr_item e ∷ map expr_item es) in
    let step_0 = headed (word (codes "call")) (expr_item e ∷ map expr_item es) in
    let step_1 = headed (expr_item e) (map expr_item es) in
    let h = word_weighs (codes "call") in
    let all = all_same expr_weight expr_item es each in
    omega (arith, step_0, step_1, mine, whole, c, h, all)

tree_weighs : (d : Doc) → D d → E (expr.Tree d)
tree_weighs d c =
    let mine = expr_weight-Tree d in
    let whole = ap item_weight (expr_item-Tree d) ∙ parens_weigh (word (codes "new") ∷ doc_item d ∷ []) in
    let h = word_weighs (codes "new") in
    omega (arith, mine, whole, c, h)

prim_weighs : (op : Op) (es : List Expr) → Each E es → E (expr.Prim op es)
prim_weighs op es each =
    let mine = expr_weight-Prim op es in
    let whole = ap item_weight (expr_item-Prim op es) ∙ parens_weigh (word (word_of op) ∷ map expr_item es) in
    let step_0 = headed (word (word_of op)) (map expr_item es) in
    let h = word_weighs (word_of op) in
    let all = all_same expr_weight expr_item es each in
    omega (arith, step_0, mine, whole, h, all)

handler_weighs : (x : List ℕ) (e : Expr) → E e → H (roll-Handler (record { param = x; body = e }))
handler_weighs x e c =
    let mine = handler_weight-is x e in
    let whole = ap item_weight (handler_item-is x e) ∙ parens_weigh (word (codes "fn") ∷ parens (word x ∷ []) ∷ expr_item e ∷ []) in
    let h = word_weighs (codes "fn") in
    let ps = parens_weigh (word x ∷ []) in
    let v = word_weighs x in
    omega (arith, mine, whole, c, h, ps, v)

text_weighs : (x text : List ℕ) → D (doc.Text x text)
text_weighs x text =
    let mine = doc_weight-Text x text in
    let whole = ap item_weight (doc_item-Text x text) ∙ parens_weigh (word (codes "text") ∷ word x ∷ string text ∷ []) in
    let h = word_weighs (codes "text") in
    let v = word_weighs (x) in
    let t = string_weighs text in
    omega (arith, mine, whole, h, v, t)

link_weighs : (x : List ℕ) (url : Url) (label : List ℕ) → D (doc.Link x url label)
link_weighs x url label =
    let mine = doc_weight-Link x url label in
    let whole = ap item_weight (doc_item-Link x url label) ∙ parens_weigh (word (codes "link") ∷ word x ∷ address url ∷ string label ∷ []) in
    let h = word_weighs (codes "link") in
    let v = word_weighs (x) in
    let u = url_weighs url in
    let t = string_weighs label in
    omega (arith, mine, whole, h, v, u, t)

box_weighs : (x text : List ℕ) (hs : List Handler) → Each H hs → D (doc.TextBox x text hs)
box_weighs x text hs each =
    let mine = doc_weight-TextBox x text hs in
    let whole = ap item_weight (doc_item-TextBox x text hs) ∙ parens_weigh (word (codes "box") ∷ word x ∷ string text ∷ map handler_item hs) in
    let step_0 = headed (word (codes "box")) (word x ∷ string text ∷ map handler_item hs) in
    let step_1 = headed (word x) (string text ∷ map handler_item hs) in
    let step_2 = headed (string text) (map handler_item hs) in
    let h = word_weighs (codes "box") in
    let v = word_weighs (x) in
    let t = string_weighs text in
    let all = all_same handler_weight handler_item hs each in
    omega (arith, step_0, step_1, step_2, mine, whole, h, v, t, all)

button_weighs : (x label : List ℕ) (hs : List Handler) → Each H hs → D (doc.Button x label hs)
button_weighs x label hs each =
    let mine = doc_weight-Button x label hs in
    let whole = ap item_weight (doc_item-Button x label hs) ∙ parens_weigh (word (codes "button") ∷ word x ∷ string label ∷ map handler_item hs) in
    let step_0 = headed (word (codes "button")) (word x ∷ string label ∷ map handler_item hs) in
    let step_1 = headed (word x) (string label ∷ map handler_item hs) in
    let step_2 = headed (string label) (map handler_item hs) in
    let h = word_weighs (codes "button") in
    let v = word_weighs (x) in
    let t = string_weighs label in
    let all = all_same handler_weight handler_item hs each in
    omega (arith, step_0, step_1, step_2, mine, whole, h, v, t, all)

script_weighs : (x : List ℕ) (e : Expr) → E e → D (doc.Script x e)
script_weighs x e c =
    let mine = doc_weight-Script x e in
    let whole = ap item_weight (doc_item-Script x e) ∙ parens_weigh (word (codes "script") ∷ word x ∷ expr_item e ∷ []) in
    let h = word_weighs (codes "script") in
    let v = word_weighs (x) in
    omega (arith, mine, whole, c, h, v)

src_weighs : (x : List ℕ) (url : Url) → D (doc.Src x url)
src_weighs x url =
    let mine = doc_weight-Src x url in
    let whole = ap item_weight (doc_item-Src x url) ∙ parens_weigh (word (codes "src") ∷ word x ∷ address url ∷ []) in
    let h = word_weighs (codes "src") in
    let v = word_weighs (x) in
    let u = url_weighs url in
    omega (arith, mine, whole, h, v, u)

div_weighs : (x : List ℕ) (ds : List Doc) → Each D ds → D (doc.Div x ds)
div_weighs x ds each =
    let mine = doc_weight-Div x ds in
    let whole = ap item_weight (doc_item-Div x ds) ∙ parens_weigh (word (codes "div") ∷ word x ∷ map doc_item ds) in
    let step_0 = headed (word (codes "div")) (word x ∷ map doc_item ds) in
    let step_1 = headed (word x) (map doc_item ds) in
    let h = word_weighs (codes "div") in
    let v = word_weighs (x) in
    let all = all_same doc_weight doc_item ds each in
    omega (arith, step_0, step_1, mine, whole, h, v, all)

by_forms : ByForms D E H
by_forms = record {
  lit = λ l. expr_weight-Lit l ∙ lit_weighs l ∙ sym (ap item_weight (expr_item-Lit l));
  var = λ x. expr_weight-Var x ∙ sym (word_weighs x) ∙ sym (ap item_weight (expr_item-Var x));
  let_form = let_weighs;
  set_form = set_weighs;
  if_form = if_weighs;
  while_form = while_weighs;
  do_form = do_weighs;
  and_form = and_weighs;
  or_form = or_weighs;
  make_form = make_weighs;
  apply_form = apply_weighs;
  tree_form = tree_weighs;
  prim_form = prim_weighs;
  handler_form = handler_weighs;
  text_form = text_weighs;
  link_form = link_weighs;
  box_form = box_weighs;
  button_form = button_weighs;
  script_form = script_weighs;
  src_form = src_weighs;
  div_form = div_weighs;
}

pub doc_weighs : (d : Doc) → D d
doc_weighs = doc_by_forms D E H by_forms

pub expr_weighs : (e : Expr) → E e
expr_weighs = expr_by_forms D E H by_forms

docs_weigh : (ds : List Doc) → Each D ds
docs_weigh [] = tt
docs_weigh (d ∷ ds) = (doc_weighs d, docs_weigh ds)

cookie_weighs : (entry : CookieOp) → cookie_weight entry ≡ item_weight (cookie_item entry)
cookie_weighs (cookie.Put key value) =
    let whole = parens_weigh (word (codes "set") ∷ string key ∷ string value ∷ []) in
    let h = word_weighs (codes "set") in
    let k = string_weighs key in
    let v = string_weighs value in
    omega (arith, whole, h, k, v)
cookie_weighs (cookie.Drop key) =
    let whole = parens_weigh (word (codes "del") ∷ string key ∷ []) in
    let h = word_weighs (codes "del") in
    let k = string_weighs key in
    omega (arith, whole, h, k)

each_cookie : (entries : List CookieOp) → Each (λ entry. cookie_weight entry ≡ item_weight (cookie_item entry)) entries
each_cookie [] = tt
each_cookie (entry ∷ entries) = (cookie_weighs entry, each_cookie entries)

cookies_weigh : (entries : List CookieOp) → cookies_weight entries ≡ item_weight (cookies_item entries)
cookies_weigh entries =
    let whole = parens_weigh (map cookie_item entries) in
    let all = all_same cookie_weight cookie_item entries (each_cookie entries) in
    omega (arith, whole, all)

pub resp_weighs : (r : Resp) → resp_weight r ≡ item_weight (resp_item r)
resp_weighs (resp.Page cookies docs) =
    let whole = parens_weigh (word (codes "doc") ∷ cookies_item cookies ∷ map doc_item docs) in
    let step_0 = headed (word (codes "doc")) (cookies_item cookies ∷ map doc_item docs) in
    let step_1 = headed (cookies_item cookies) (map doc_item docs) in
    let h = word_weighs (codes "doc") in
    let c = cookies_weigh cookies in
    let all = all_same doc_weight doc_item docs (docs_weigh docs) in
    omega (arith, step_0, step_1, whole, h, c, all)
resp_weighs (resp.Script cookies e) =
    let whole = parens_weigh (word (codes "script") ∷ cookies_item cookies ∷ expr_item e ∷ []) in
    let h = word_weighs (codes "script") in
    let c = cookies_weigh cookies in
    let b = expr_weighs e in
    omega (arith, whole, h, c, b)
resp_weighs (resp.Data cookies text) =
    let whole = parens_weigh (word (codes "data") ∷ cookies_item cookies ∷ string text ∷ []) in
    let h = word_weighs (codes "data") in
    let c = cookies_weigh cookies in
    let t = string_weighs text in
    omega (arith, whole, h, c, t)
