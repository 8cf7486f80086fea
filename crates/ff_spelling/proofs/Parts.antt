-- What fits in a room: each form by its parts.
use Rattle.std.proofs.Common.{◌≡◌, ◌↔◌, ◌+◌, ◌<◌, ◌≤◌, ℕ, max, IsTrue, Bool, true, false, ◌&&◌, Result, Ok, Err, nat_lt, nat_le, nat_eq, ltb-true, ltb-false, refl, List, [], ◌∷◌, map, length, sym, subst, ap, ◌∙◌, arith}
use Rattle.std.specs.List.{AllByRecursion}
use Rattle.std.specs.Cmp.{unsigned_Decides}
use Rattle.std.proofs.lemmas.Bool.{leb-true, le-leb}
use Rattle.std.specs.Str.{IsUtf8}
use Rattle.ff_name.specs.Spelling.{IsName}
use Rattle.ff_name.specs.Address.{IsWellSpelled}
use Rattle.ff_name.specs.declared.urls.Url.{Url}
use Rattle.ff_tree.specs.Ops.{arity_of}
use Rattle.ff_tree.specs.declared.op.Op.{Op}
use Rattle.ff_tree.specs.declared.tree.Lit.{Lit}
use Rattle.ff_tree.specs.declared.tree.Doc.{Doc}
use Rattle.ff_tree.specs.declared.tree.Doc.TheVariants as doc
use Rattle.ff_tree.specs.declared.tree.Expr.{Expr}
use Rattle.ff_tree.specs.declared.tree.Expr.TheVariants as expr
use Rattle.ff_tree.specs.declared.tree.Handler.{Handler}
use Rattle.ff_tree.specs.declared.tree.Doc.TheOpen.{Doc-F, Expr-F}
use Rattle.ff_tree.specs.declared.tree.Doc.TheViews.{out-Doc, out-Expr, out-Handler, roll-Expr, roll-out-Expr}
use Rattle.ff_tree.specs.declared.tree.Doc.TheFolds.{map-Doc, map-Expr, fold_out-Doc, fold_out-Expr, fold_out-Handler}
use Rattle.ff_tree.specs.Spelled.{IsVar, IsLit, AreParams, IsSpelledDoc, IsSpelledExpr, IsSpelledHandler, doc_nesting, expr_nesting, handler_nesting, doc_depth, expr_depth, handler_depth, most}
use Rattle.ff_tree.proofs.Layers.{IsSpelledHandler-out, IsSpelledExpr-Lit, IsSpelledExpr-Var, IsSpelledExpr-Let, IsSpelledExpr-Set, IsSpelledExpr-If, IsSpelledExpr-While, IsSpelledExpr-Do, IsSpelledExpr-And, IsSpelledExpr-Or, IsSpelledExpr-Make, IsSpelledExpr-Apply, IsSpelledExpr-Tree, IsSpelledExpr-Prim, IsSpelledDoc-Text, IsSpelledDoc-Link, IsSpelledDoc-TextBox, IsSpelledDoc-Button, IsSpelledDoc-Script, IsSpelledDoc-Src, IsSpelledDoc-Div}
use Rattle.ff_forms.proofs.Depths as depth
use Rattle.ff_spelling.specs.Fits.{FitsDoc, FitsExpr, FitsHandler}
use Rattle.ff_spelling.specs.Told.{Tells, both_of}

rule : {A B : Type 0} → A ≡ B → A → B
rule e a = subst (λ (T : Type 0). T) e a

back : {A B : Type 0} → A ≡ B → B → A
back e b = subst (λ (T : Type 0). T) (sym e) b

both_true : (a b : Bool) → IsTrue (a && b) ↔ (IsTrue a × IsTrue b)
both_true true b = (λ h. (refl, h), λ h. h.1)
both_true false b = (λ h. cc, λ h. h.0)

told : {E A B C : Type 0} (first second : Result Bool E) → Tells A first → Tells B second → (A × B) ↔ C → Tells C (both_of first second)
told (Ok a) (Ok b) left right is = (λ h. let p = (both_true a b).0 h in is.0 (left.0 p.0, right.0 p.1), λ h. let p = is.1 h in (both_true a b).1 (left.1 p.0, right.1 p.1))
told (Ok a) (Err e) left right is = right
told (Err e) second left right is = left

-- two answers together
pub both_are : {E A B C : Type 0} (answer first second : Result Bool E) → answer ≡ both_of first second → Tells A first → Tells B second → (A × B) ↔ C → Tells C answer
both_are answer first second e left right is = subst (Tells _) (sym e) (told first second left right is)

-- one answer
pub it_is : {A C : Type 0} (r : Bool) → IsTrue r ↔ A → A ↔ C → IsTrue r ↔ C
it_is r left is = (λ h. is.0 (left.0 h), λ h. left.1 (is.1 h))

pub it_tells : {E A C : Type 0} (answer : Result Bool E) → Tells A answer → A ↔ C → Tells C answer
it_tells (Ok r) left is = it_is r left is
it_tells (Err e) left is = left

-- both conditions, in the order of a pair
pub pair_is : {A B : Type 0} → (A × B) ↔ (A × B)
pair_is = (λ h. h, λ h. h)

each_expr : (n : ℕ) (es : List Expr) → AllByRecursion (FitsExpr n) es ↔ (AllByRecursion IsSpelledExpr es × (most (map expr_depth es) ≤ n))
each_expr n [] = (λ h. (tt, omega arith), λ h. tt)
each_expr n (e ∷ es) = (
  λ h. let rest = (each_expr n es).0 h.1 in ((h.0.0, rest.0), omega (arith, h.0.1, rest.1)),
  λ h. ((h.0.0, omega (arith, h.1)), (each_expr n es).1 (h.0.1, omega (arith, h.1))),
)

each_doc : (n : ℕ) (ds : List Doc) → AllByRecursion (FitsDoc n) ds ↔ (AllByRecursion IsSpelledDoc ds × (most (map doc_depth ds) ≤ n))
each_doc n [] = (λ h. (tt, omega arith), λ h. tt)
each_doc n (d ∷ ds) = (
  λ h. let rest = (each_doc n ds).0 h.1 in ((h.0.0, rest.0), omega (arith, h.0.1, rest.1)),
  λ h. ((h.0.0, omega (arith, h.1)), (each_doc n ds).1 (h.0.1, omega (arith, h.1))),
)

each_handler : (n : ℕ) (hs : List Handler) → AllByRecursion (FitsHandler n) hs ↔ (AllByRecursion IsSpelledHandler hs × (most (map handler_depth hs) ≤ n))
each_handler n [] = (λ h. (tt, omega arith), λ h. tt)
each_handler n (x ∷ hs) = (
  λ h. let rest = (each_handler n hs).0 h.1 in ((h.0.0, rest.0), omega (arith, h.0.1, rest.1)),
  λ h. ((h.0.0, omega (arith, h.1)), (each_handler n hs).1 (h.0.1, omega (arith, h.1))),
)

-- a literal and a variable fit anywhere
pub lit_is : (room : ℕ) (l : Lit) → IsLit l ↔ FitsExpr room (expr.Lit l)
lit_is room l = (λ h. (back (IsSpelledExpr-Lit l) h, omega (arith, depth.expr_depth-Lit l)), λ h. rule (IsSpelledExpr-Lit l) h.0)

pub var_is : (room : ℕ) (x : List ℕ) → IsVar x ↔ FitsExpr room (expr.Var x)
var_is room x = (λ h. (back (IsSpelledExpr-Var x) h, omega (arith, depth.expr_depth-Var x)), λ h. rule (IsSpelledExpr-Var x) h.0)

module _ (room inside : ℕ) (more : room ≡ inside + 1) where
  pub let_is : (x : List ℕ) (e : Expr) → (IsVar x × FitsExpr inside e) ↔ FitsExpr room (expr.Let x e)
  let_is x e = (
    λ h. (back (IsSpelledExpr-Let x e) (h.0, h.1.0), omega (arith, depth.expr_depth-Let x e, h.1.1, more)),
    λ h. let s = rule (IsSpelledExpr-Let x e) h.0 in (s.0, (s.1, omega (arith, depth.expr_depth-Let x e, h.1, more))),
  )

  pub set_is : (x : List ℕ) (e : Expr) → (IsVar x × FitsExpr inside e) ↔ FitsExpr room (expr.Set x e)
  set_is x e = (
    λ h. (back (IsSpelledExpr-Set x e) (h.0, h.1.0), omega (arith, depth.expr_depth-Set x e, h.1.1, more)),
    λ h. let s = rule (IsSpelledExpr-Set x e) h.0 in (s.0, (s.1, omega (arith, depth.expr_depth-Set x e, h.1, more))),
  )

  pub while_is : (e f : Expr) → (FitsExpr inside e × FitsExpr inside f) ↔ FitsExpr room (expr.While e f)
  while_is e f = (
    λ h. (back (IsSpelledExpr-While e f) (h.0.0, h.1.0), omega (arith, depth.expr_depth-While e f, h.0.1, h.1.1, more)),
    λ h. let s = rule (IsSpelledExpr-While e f) h.0 in ((s.0, omega (arith, depth.expr_depth-While e f, h.1, more)), (s.1, omega (arith, depth.expr_depth-While e f, h.1, more))),
  )

  pub and_is : (e f : Expr) → (FitsExpr inside e × FitsExpr inside f) ↔ FitsExpr room (expr.And e f)
  and_is e f = (
    λ h. (back (IsSpelledExpr-And e f) (h.0.0, h.1.0), omega (arith, depth.expr_depth-And e f, h.0.1, h.1.1, more)),
    λ h. let s = rule (IsSpelledExpr-And e f) h.0 in ((s.0, omega (arith, depth.expr_depth-And e f, h.1, more)), (s.1, omega (arith, depth.expr_depth-And e f, h.1, more))),
  )

  pub or_is : (e f : Expr) → (FitsExpr inside e × FitsExpr inside f) ↔ FitsExpr room (expr.Or e f)
  or_is e f = (
    λ h. (back (IsSpelledExpr-Or e f) (h.0.0, h.1.0), omega (arith, depth.expr_depth-Or e f, h.0.1, h.1.1, more)),
    λ h. let s = rule (IsSpelledExpr-Or e f) h.0 in ((s.0, omega (arith, depth.expr_depth-Or e f, h.1, more)), (s.1, omega (arith, depth.expr_depth-Or e f, h.1, more))),
  )

  pub if_is : (e f g : Expr) → (FitsExpr inside e × (FitsExpr inside f × FitsExpr inside g)) ↔ FitsExpr room (expr.If e f g)
  if_is e f g = (
    λ h. (back (IsSpelledExpr-If e f g) (h.0.0, h.1.0.0, h.1.1.0), omega (arith, depth.expr_depth-If e f g, h.0.1, h.1.0.1, h.1.1.1, more)),
    λ h. let s = rule (IsSpelledExpr-If e f g) h.0 in
        let d = depth.expr_depth-If e f g in
        ((s.0, omega (arith, d, h.1, more)), ((s.1, omega (arith, d, h.1, more)), (s.2, omega (arith, d, h.1, more)))),
  )

  pub do_is : (es : List Expr) → AllByRecursion (FitsExpr inside) es ↔ FitsExpr room (expr.Do es)
  do_is es = (
    λ h. let p = (each_expr inside es).0 h in (back (IsSpelledExpr-Do es) p.0, omega (arith, depth.expr_depth-Do es, p.1, more)),
    λ h. (each_expr inside es).1 (rule (IsSpelledExpr-Do es) h.0, omega (arith, depth.expr_depth-Do es, h.1, more)),
  )

  pub make_is : (xs : List (List ℕ)) (e : Expr) → (((0 < inside) × AreParams xs) × FitsExpr inside e) ↔ FitsExpr room (expr.Make xs e)
  make_is xs e = (
    λ h. (back (IsSpelledExpr-Make xs e) (h.0.1, h.1.0), omega (arith, depth.expr_depth-Make xs e, h.0.0, h.1.1, more)),
    λ h. let s = rule (IsSpelledExpr-Make xs e) h.0 in
        let d = depth.expr_depth-Make xs e in
        ((omega (arith, d, h.1, more), s.0), (s.1, omega (arith, d, h.1, more))),
  )

  pub apply_is : (e : Expr) (es : List Expr) → (FitsExpr inside e × AllByRecursion (FitsExpr inside) es) ↔ FitsExpr room (expr.Apply e es)
  apply_is e es = (
    λ h. let p = (each_expr inside es).0 h.1 in (back (IsSpelledExpr-Apply e es) (h.0.0, p.0), omega (arith, depth.expr_depth-Apply e es, h.0.1, p.1, more)),
    λ h. let s = rule (IsSpelledExpr-Apply e es) h.0 in
        let d = depth.expr_depth-Apply e es in
        ((s.0, omega (arith, d, h.1, more)), (each_expr inside es).1 (s.1, omega (arith, d, h.1, more))),
  )

  pub tree_is : (d : Doc) → FitsDoc inside d ↔ FitsExpr room (expr.Tree d)
  tree_is d = (
    λ h. (back (IsSpelledExpr-Tree d) h.0, omega (arith, depth.expr_depth-Tree d, h.1, more)),
    λ h. (rule (IsSpelledExpr-Tree d) h.0, omega (arith, depth.expr_depth-Tree d, h.1, more)),
  )

  pub prim_is : (op : Op) (es : List Expr) → ((length es ≡ arity_of op) × AllByRecursion (FitsExpr inside) es) ↔ FitsExpr room (expr.Prim op es)
  prim_is op es = (
    λ h. let p = (each_expr inside es).0 h.1 in (back (IsSpelledExpr-Prim op es) (h.0, p.0), omega (arith, depth.expr_depth-Prim op es, p.1, more)),
    λ h. let s = rule (IsSpelledExpr-Prim op es) h.0 in (s.0, (each_expr inside es).1 (s.1, omega (arith, depth.expr_depth-Prim op es, h.1, more))),
  )

  pub text_is : (x text : List ℕ) → (IsName x × IsUtf8 text) ↔ FitsDoc room (doc.Text x text)
  text_is x text = (
    λ h. (back (IsSpelledDoc-Text x text) h, omega (arith, depth.doc_depth-Text x text, more)),
    λ h. rule (IsSpelledDoc-Text x text) h.0,
  )

  pub link_is : (x : List ℕ) (url : Url) (text : List ℕ) → ((IsName x × IsUtf8 text) × IsWellSpelled url) ↔ FitsDoc room (doc.Link x url text)
  link_is x url text = (
    λ h. (back (IsSpelledDoc-Link x url text) (h.0.0, h.1, h.0.1), omega (arith, depth.doc_depth-Link x url text, more)),
    λ h. let s = rule (IsSpelledDoc-Link x url text) h.0 in ((s.0, s.2), s.1),
  )

  pub box_is : (x text : List ℕ) (hs : List Handler) → ((IsName x × IsUtf8 text) × ((length hs ≤ 16) × AllByRecursion (FitsHandler inside) hs)) ↔ FitsDoc room (doc.TextBox x text hs)
  box_is x text hs = (
    λ h. let p = (each_handler inside hs).0 h.1.1 in (back (IsSpelledDoc-TextBox x text hs) (h.0.0, h.0.1, h.1.0, p.0), omega (arith, depth.doc_depth-TextBox x text hs, p.1, more)),
    λ h. let s = rule (IsSpelledDoc-TextBox x text hs) h.0 in ((s.0, s.1), (s.2, (each_handler inside hs).1 (s.3, omega (arith, depth.doc_depth-TextBox x text hs, h.1, more)))),
  )

  pub button_is : (x text : List ℕ) (hs : List Handler) → ((IsName x × IsUtf8 text) × ((length hs ≤ 16) × AllByRecursion (FitsHandler inside) hs)) ↔ FitsDoc room (doc.Button x text hs)
  button_is x text hs = (
    λ h. let p = (each_handler inside hs).0 h.1.1 in (back (IsSpelledDoc-Button x text hs) (h.0.0, h.0.1, h.1.0, p.0), omega (arith, depth.doc_depth-Button x text hs, p.1, more)),
    λ h. let s = rule (IsSpelledDoc-Button x text hs) h.0 in ((s.0, s.1), (s.2, (each_handler inside hs).1 (s.3, omega (arith, depth.doc_depth-Button x text hs, h.1, more)))),
  )

  pub script_is : (x : List ℕ) (e : Expr) → (IsName x × FitsExpr inside e) ↔ FitsDoc room (doc.Script x e)
  script_is x e = (
    λ h. (back (IsSpelledDoc-Script x e) (h.0, h.1.0), omega (arith, depth.doc_depth-Script x e, h.1.1, more)),
    λ h. let s = rule (IsSpelledDoc-Script x e) h.0 in (s.0, (s.1, omega (arith, depth.doc_depth-Script x e, h.1, more))),
  )

  pub src_is : (x : List ℕ) (url : Url) → (IsName x × IsWellSpelled url) ↔ FitsDoc room (doc.Src x url)
  src_is x url = (
    λ h. (back (IsSpelledDoc-Src x url) h, omega (arith, depth.doc_depth-Src x url, more)),
    λ h. rule (IsSpelledDoc-Src x url) h.0,
  )

  pub div_is : (x : List ℕ) (ds : List Doc) → (IsName x × AllByRecursion (FitsDoc inside) ds) ↔ FitsDoc room (doc.Div x ds)
  div_is x ds = (
    λ h. let p = (each_doc inside ds).0 h.1 in (back (IsSpelledDoc-Div x ds) (h.0, p.0), omega (arith, depth.doc_depth-Div x ds, p.1, more)),
    λ h. let s = rule (IsSpelledDoc-Div x ds) h.0 in (s.0, (each_doc inside ds).1 (s.1, omega (arith, depth.doc_depth-Div x ds, h.1, more))),
  )

-- a handler
depth_is : (h : Handler) → handler_depth h ≡ 1 + max 1 (expr_depth (out-Handler h).body)
depth_is h = fold_out-Handler ℕ ℕ ℕ doc_nesting expr_nesting handler_nesting h

pub handler_is : (room inside : ℕ) → room ≡ inside + 1 → 1 ≤ inside → (h : Handler) → (IsVar (out-Handler h).param × FitsExpr inside (out-Handler h).body) ↔ FitsHandler room h
handler_is room inside more some h = (
  λ p. (back (IsSpelledHandler-out h) (p.0, p.1.0), omega (arith, depth_is h, p.1.1, more, some)),
  λ p. let s = rule (IsSpelledHandler-out h) p.0 in (s.0, (s.1, omega (arith, depth_is h, p.1, more))),
)

some_nesting : (layer : Doc-F ℕ ℕ ℕ) → 1 ≤ doc_nesting layer
some_nesting (Doc-F.Text x text) = omega arith
some_nesting (Doc-F.Link x url label) = omega arith
some_nesting (Doc-F.TextBox x text hs) = omega arith
some_nesting (Doc-F.Button x label hs) = omega arith
some_nesting (Doc-F.Script x e) = omega arith
some_nesting (Doc-F.Src x url) = omega arith
some_nesting (Doc-F.Div x ds) = omega arith

some_depth : (d : Doc) → 1 ≤ doc_depth d
some_depth d = omega (arith, fold_out-Doc ℕ ℕ ℕ doc_nesting expr_nesting handler_nesting d, some_nesting (map-Doc Doc Expr Handler ℕ ℕ ℕ doc_depth expr_depth handler_depth (out-Doc d)))

-- numbers
pub positive : (n : ℕ) → IsTrue (nat_lt 0 n) ↔ (0 < n)
positive n = (
  λ h. ltb-true 0 n h,
  λ h. elim (nat_lt 0 n) as (λ b. nat_lt 0 n ≡ b → b ≡ true) [
    | true ↦ λ e. refl
    | false ↦ λ e. absurd (omega (arith, h, ltb-false 0 n e))
  ] refl,
)

pub at_most : (a b : ℕ) → IsTrue (nat_le a b) ↔ (a ≤ b)
at_most a b = (λ h. leb-true a b h, λ h. le-leb a b h)

pub same_number : (a b m n : ℕ) → a ≡ m → b ≡ n → IsTrue (nat_eq a b) ↔ (m ≡ n)
same_number a b m n e f = (λ h. sym e ∙ (unsigned_Decides a b).0 h ∙ f, λ h. (unsigned_Decides a b).1 (e ∙ h ∙ sym f))

module _ (e : Expr) (not_lit : (l : Lit) → e ≡ expr.Lit l → ⊥) (not_var : (x : List ℕ) → e ≡ expr.Var x → ⊥) where
  nests : (layer : Expr-F Doc Expr Handler) → out-Expr e ≡ layer → expr_depth e ≡ expr_nesting (map-Expr Doc Expr Handler ℕ ℕ ℕ doc_depth expr_depth handler_depth layer)
  nests layer q = fold_out-Expr ℕ ℕ ℕ doc_nesting expr_nesting handler_nesting e ∙ ap (λ l. expr_nesting (map-Expr Doc Expr Handler ℕ ℕ ℕ doc_depth expr_depth handler_depth l)) q

  some_by : (layer : Expr-F Doc Expr Handler) → out-Expr e ≡ layer → 1 ≤ expr_depth e
  some_by (Expr-F.Lit l) q = absurd (not_lit l (sym (roll-out-Expr e) ∙ ap roll-Expr (q ∙ sym (expr.outs-Lit l)) ∙ roll-out-Expr (expr.Lit l)))
  some_by (Expr-F.Var x) q = absurd (not_var x (sym (roll-out-Expr e) ∙ ap roll-Expr (q ∙ sym (expr.outs-Var x)) ∙ roll-out-Expr (expr.Var x)))
  some_by (Expr-F.Let x a) q = omega (arith, nests (Expr-F.Let x a) q)
  some_by (Expr-F.Set x a) q = omega (arith, nests (Expr-F.Set x a) q)
  some_by (Expr-F.If a b c) q = omega (arith, nests (Expr-F.If a b c) q)
  some_by (Expr-F.While a b) q = omega (arith, nests (Expr-F.While a b) q)
  some_by (Expr-F.Do es) q = omega (arith, nests (Expr-F.Do es) q)
  some_by (Expr-F.And a b) q = omega (arith, nests (Expr-F.And a b) q)
  some_by (Expr-F.Or a b) q = omega (arith, nests (Expr-F.Or a b) q)
  some_by (Expr-F.Make xs a) q = omega (arith, nests (Expr-F.Make xs a) q)
  some_by (Expr-F.Apply a es) q = omega (arith, nests (Expr-F.Apply a es) q)
  some_by (Expr-F.Tree d) q = omega (arith, nests (Expr-F.Tree d) q)
  some_by (Expr-F.Prim op es) q = omega (arith, nests (Expr-F.Prim op es) q)

  -- neither a literal nor a variable
  pub no_word : FitsExpr 0 e → ⊥
  no_word h = absurd (omega (arith, some_by (out-Expr e) refl, h.1))

-- where there is no room
pub no_doc : (room : ℕ) (d : Doc) → room ≡ 0 → FitsDoc room d → ⊥
no_doc room d none h = absurd (omega (arith, some_depth d, h.1, none))

pub no_handler : (room : ℕ) (h : Handler) → room < 2 → FitsHandler room h → ⊥
no_handler room h few p = absurd (omega (arith, depth_is h, p.1, few))
