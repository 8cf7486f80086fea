-- Induction over expressions alone.
use Rattle.std.proofs.Common.{ℕ, List, [], ◌∷◌, map, subst}
use denote.Hole.Carrier
use denote.Hole.Holds.{Such}
use Rattle.ff_tree.specs.declared.op.Op.{Op}
use Rattle.ff_tree.specs.declared.tree.Lit.{Lit}
use Rattle.ff_tree.specs.declared.tree.Doc.{Doc}
use Rattle.ff_tree.specs.declared.tree.Expr.{Expr}
use Rattle.ff_tree.specs.declared.tree.Handler.{Handler}
use Rattle.ff_tree.specs.declared.tree.Expr.TheVariants as expr
use Rattle.ff_tree.specs.declared.tree.Doc.TheBlock.{the_family, member-Doc, member-Expr, member-Handler}
use Rattle.ff_tree.specs.declared.tree.Doc.TheOpen.{Expr-F}
use Rattle.ff_tree.specs.declared.tree.Doc.TheViews.{roll-Expr}
use Rattle.ff_tree.specs.declared.tree.Doc.TheFolds.{ind-Expr, claims, map-Expr}

-- the fact holds of each
abbrev pub Each : {X : Type 0} → (X → Type 0) → List X → Type 0
Each P [] = Unit {0}
Each P (x ∷ xs) = P x × Each P xs

-- the fact holds of each form whose parts have it
pub record ByForms (Q : Expr → Type 0) : Type 0 where
  pub lit : (l : Lit) → Q (expr.Lit l)
  pub var : (x : List ℕ) → Q (expr.Var x)
  pub let_form : (x : List ℕ) (e : Expr) → Q e → Q (expr.Let x e)
  pub set_form : (x : List ℕ) (e : Expr) → Q e → Q (expr.Set x e)
  pub if_form : (e f g : Expr) → Q e → Q f → Q g → Q (expr.If e f g)
  pub while_form : (e f : Expr) → Q e → Q f → Q (expr.While e f)
  pub do_form : (es : List Expr) → Each Q es → Q (expr.Do es)
  pub and_form : (e f : Expr) → Q e → Q f → Q (expr.And e f)
  pub or_form : (e f : Expr) → Q e → Q f → Q (expr.Or e f)
  pub make_form : (params : List (List ℕ)) (e : Expr) → Q e → Q (expr.Make params e)
  pub apply_form : (e : Expr) (es : List Expr) → Q e → Each Q es → Q (expr.Apply e es)
  pub tree_form : (d : Doc) → Q (expr.Tree d)
  pub prim_form : (op : Op) (es : List Expr) → Each Q es → Q (expr.Prim op es)

each : {X Y : Type 0} (P : X → Type 0) (value : Y → X) → ((y : Y) → P (value y)) → (ys : List Y) → Each P (map value ys)
each P value holds [] = tt
each P value holds (y ∷ ys) = (holds y, each P value holds ys)

module _ (Q : Expr → Type 0) where
  abbrev P : Doc → Type 0
  P d = Unit {0}

  abbrev R : Handler → Type 0
  R h = Unit {0}

  layer : ByForms Q
      → (y : Expr-F (Such the_family (claims P Q R) member-Doc) (Such the_family (claims P Q R) member-Expr) (Such the_family (claims P Q R) member-Handler))
      → Q (roll-Expr (map-Expr (Such the_family (claims P Q R) member-Doc) (Such the_family (claims P Q R) member-Expr) (Such the_family (claims P Q R) member-Handler) Doc Expr Handler (λ e. e.0) (λ e. e.0) (λ e. e.0) y))
  unfolding roll-Expr denote.Hole.Carrier.roll
  layer by (Expr-F.Lit l) = by.lit l
  layer by (Expr-F.Var x) = by.var x
  layer by (Expr-F.Let x e) = by.let_form x e.0 e.1
  layer by (Expr-F.Set x e) = by.set_form x e.0 e.1
  layer by (Expr-F.If e f g) = by.if_form e.0 f.0 g.0 e.1 f.1 g.1
  layer by (Expr-F.While e f) = by.while_form e.0 f.0 e.1 f.1
  layer by (Expr-F.Do es) = by.do_form (map (λ e. e.0) es) (each Q (λ e. e.0) (λ e. e.1) es)
  layer by (Expr-F.And e f) = by.and_form e.0 f.0 e.1 f.1
  layer by (Expr-F.Or e f) = by.or_form e.0 f.0 e.1 f.1
  layer by (Expr-F.Make params e) = by.make_form params e.0 e.1
  layer by (Expr-F.Apply e es) = by.apply_form e.0 (map (λ e. e.0) es) e.1 (each Q (λ e. e.0) (λ e. e.1) es)
  layer by (Expr-F.Tree d) = by.tree_form d.0
  layer by (Expr-F.Prim op es) = by.prim_form op (map (λ e. e.0) es) (each Q (λ e. e.0) (λ e. e.1) es)

  -- then it holds of each expression
  pub by_forms : ByForms Q → (e : Expr) → Q e
  by_forms by = ind-Expr P Q R (λ x y e. tt) (λ x y e. subst (λ l. Q (roll-Expr l)) e (layer by y)) (λ x y e. tt)
