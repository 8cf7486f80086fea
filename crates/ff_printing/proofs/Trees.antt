-- Induction over documents, expressions and handlers together, and over what the user is shown.
use Rattle.std.proofs.Common.{ℕ, List, [], ◌∷◌, map, subst}
use denote.Hole.Carrier
use denote.Hole.Holds.{Such}
use Rattle.ff_name.specs.declared.urls.Url.{Url}
use Rattle.ff_tree.specs.declared.op.Op.{Op}
use Rattle.ff_tree.specs.declared.tree.Lit.{Lit}
use Rattle.ff_tree.specs.declared.tree.Doc.{Doc}
use Rattle.ff_tree.specs.declared.tree.Expr.{Expr}
use Rattle.ff_tree.specs.declared.tree.Handler.{Handler}
use Rattle.ff_tree.specs.declared.tree.Doc.TheVariants as doc
use Rattle.ff_tree.specs.declared.tree.Expr.TheVariants as expr
use Rattle.ff_tree.specs.declared.tree.Doc.TheBlock.{the_family, member-Doc, member-Expr, member-Handler}
use Rattle.ff_tree.specs.declared.tree.Doc.TheOpen.{Doc-F, Expr-F, Handler-F}
use Rattle.ff_tree.specs.declared.tree.Doc.TheViews.{roll-Doc, roll-Expr, roll-Handler}
use Rattle.ff_tree.specs.declared.tree.Doc.TheFolds.{ind-Doc, ind-Expr, claims, map-Doc, map-Expr, map-Handler}

-- the fact holds of each
abbrev pub Each : {X : Type 0} → (X → Type 0) → List X → Type 0
Each P [] = Unit {0}
Each P (x ∷ xs) = P x × Each P xs

-- a fact of each form whose parts have theirs
pub record ByForms (P : Doc → Type 0) (Q : Expr → Type 0) (R : Handler → Type 0) : Type 0 where
  pub lit : (l : Lit) → Q (expr.Lit l)
  pub var : (x : List ℕ) → Q (expr.Var x)
  pub let_form : (x : List ℕ) (e : Expr) → Q e → Q (expr.Let x e)
  pub set_form : (x : List ℕ) (e : Expr) → Q e → Q (expr.Set x e)
  pub if_form : (e f g : Expr) → Q e → Q f → Q g → Q (expr.If e f g)
  pub while_form : (e f : Expr) → Q e → Q f → Q (expr.While e f)
  pub do_form : (es : List Expr) → Each Q es → Q (expr.Do es)
  pub and_form : (e f : Expr) → Q e → Q f → Q (expr.And e f)
  pub or_form : (e f : Expr) → Q e → Q f → Q (expr.Or e f)
  pub make_form : (params : List (List ℕ)) (e : Expr) → Q e → Q (expr.Make params e)
  pub apply_form : (e : Expr) (es : List Expr) → Q e → Each Q es → Q (expr.Apply e es)
  pub tree_form : (d : Doc) → P d → Q (expr.Tree d)
  pub prim_form : (op : Op) (es : List Expr) → Each Q es → Q (expr.Prim op es)
  pub handler_form : (x : List ℕ) (e : Expr) → Q e → R (roll-Handler (record { param = x; body = e }))
  pub text_form : (x text : List ℕ) → P (doc.Text x text)
  pub link_form : (x : List ℕ) (url : Url) (label : List ℕ) → P (doc.Link x url label)
  pub box_form : (x text : List ℕ) (hs : List Handler) → Each R hs → P (doc.TextBox x text hs)
  pub button_form : (x label : List ℕ) (hs : List Handler) → Each R hs → P (doc.Button x label hs)
  pub script_form : (x : List ℕ) (e : Expr) → Q e → P (doc.Script x e)
  pub src_form : (x : List ℕ) (url : Url) → P (doc.Src x url)
  pub div_form : (x : List ℕ) (ds : List Doc) → Each P ds → P (doc.Div x ds)

each : {X Y : Type 0} (P : X → Type 0) (value : Y → X) → ((y : Y) → P (value y)) → (ys : List Y) → Each P (map value ys)
each P value holds [] = tt
each P value holds (y ∷ ys) = (holds y, each P value holds ys)

expr_layer : (P : Doc → Type 0) (Q : Expr → Type 0) (R : Handler → Type 0) → ByForms P Q R
    → (y : Expr-F (Such the_family (claims P Q R) member-Doc) (Such the_family (claims P Q R) member-Expr) (Such the_family (claims P Q R) member-Handler))
    → Q (roll-Expr (map-Expr (Such the_family (claims P Q R) member-Doc) (Such the_family (claims P Q R) member-Expr) (Such the_family (claims P Q R) member-Handler) Doc Expr Handler (λ e. e.0) (λ e. e.0) (λ e. e.0) y))
unfolding roll-Expr denote.Hole.Carrier.roll
expr_layer P Q R by (Expr-F.Lit l) = by.lit l
expr_layer P Q R by (Expr-F.Var x) = by.var x
expr_layer P Q R by (Expr-F.Let x e) = by.let_form x e.0 e.1
expr_layer P Q R by (Expr-F.Set x e) = by.set_form x e.0 e.1
expr_layer P Q R by (Expr-F.If e f g) = by.if_form e.0 f.0 g.0 e.1 f.1 g.1
expr_layer P Q R by (Expr-F.While e f) = by.while_form e.0 f.0 e.1 f.1
expr_layer P Q R by (Expr-F.Do es) = by.do_form (map (λ e. e.0) es) (each Q (λ e. e.0) (λ e. e.1) es)
expr_layer P Q R by (Expr-F.And e f) = by.and_form e.0 f.0 e.1 f.1
expr_layer P Q R by (Expr-F.Or e f) = by.or_form e.0 f.0 e.1 f.1
expr_layer P Q R by (Expr-F.Make params e) = by.make_form params e.0 e.1
expr_layer P Q R by (Expr-F.Apply e es) = by.apply_form e.0 (map (λ e. e.0) es) e.1 (each Q (λ e. e.0) (λ e. e.1) es)
expr_layer P Q R by (Expr-F.Tree d) = by.tree_form d.0 d.1
expr_layer P Q R by (Expr-F.Prim op es) = by.prim_form op (map (λ e. e.0) es) (each Q (λ e. e.0) (λ e. e.1) es)

handler_layer : (P : Doc → Type 0) (Q : Expr → Type 0) (R : Handler → Type 0) → ByForms P Q R
    → (y : Handler-F (Such the_family (claims P Q R) member-Doc) (Such the_family (claims P Q R) member-Expr) (Such the_family (claims P Q R) member-Handler))
    → R (roll-Handler (map-Handler (Such the_family (claims P Q R) member-Doc) (Such the_family (claims P Q R) member-Expr) (Such the_family (claims P Q R) member-Handler) Doc Expr Handler (λ e. e.0) (λ e. e.0) (λ e. e.0) y))
handler_layer P Q R by y = by.handler_form y.param y.body.0 y.body.1

doc_layer : (P : Doc → Type 0) (Q : Expr → Type 0) (R : Handler → Type 0) → ByForms P Q R
    → (y : Doc-F (Such the_family (claims P Q R) member-Doc) (Such the_family (claims P Q R) member-Expr) (Such the_family (claims P Q R) member-Handler))
    → P (roll-Doc (map-Doc (Such the_family (claims P Q R) member-Doc) (Such the_family (claims P Q R) member-Expr) (Such the_family (claims P Q R) member-Handler) Doc Expr Handler (λ e. e.0) (λ e. e.0) (λ e. e.0) y))
unfolding roll-Doc denote.Hole.Carrier.roll
doc_layer P Q R by (Doc-F.Text x text) = by.text_form x text
doc_layer P Q R by (Doc-F.Link x url label) = by.link_form x url label
doc_layer P Q R by (Doc-F.TextBox x text hs) = by.box_form x text (map (λ e. e.0) hs) (each R (λ e. e.0) (λ e. e.1) hs)
doc_layer P Q R by (Doc-F.Button x label hs) = by.button_form x label (map (λ e. e.0) hs) (each R (λ e. e.0) (λ e. e.1) hs)
doc_layer P Q R by (Doc-F.Script x e) = by.script_form x e.0 e.1
doc_layer P Q R by (Doc-F.Src x url) = by.src_form x url
doc_layer P Q R by (Doc-F.Div x ds) = by.div_form x (map (λ e. e.0) ds) (each P (λ e. e.0) (λ e. e.1) ds)

pub doc_by_forms : (P : Doc → Type 0) (Q : Expr → Type 0) (R : Handler → Type 0) → ByForms P Q R → (d : Doc) → P d
doc_by_forms P Q R by = ind-Doc P Q R (λ x y e. subst (λ l. P (roll-Doc l)) e (doc_layer P Q R by y)) (λ x y e. subst (λ l. Q (roll-Expr l)) e (expr_layer P Q R by y)) (λ x y e. subst (λ l. R (roll-Handler l)) e (handler_layer P Q R by y))

pub expr_by_forms : (P : Doc → Type 0) (Q : Expr → Type 0) (R : Handler → Type 0) → ByForms P Q R → (e : Expr) → Q e
expr_by_forms P Q R by = ind-Expr P Q R (λ x y e. subst (λ l. P (roll-Doc l)) e (doc_layer P Q R by y)) (λ x y e. subst (λ l. Q (roll-Expr l)) e (expr_layer P Q R by y)) (λ x y e. subst (λ l. R (roll-Handler l)) e (handler_layer P Q R by y))
