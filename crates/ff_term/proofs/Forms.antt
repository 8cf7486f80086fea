-- Each form of an expression as a runtime expression.
use Rattle.std.proofs.Common.{◌≡◌, ℕ, List, [], ◌∷◌, map, refl, sym, ap, ◌∙◌}
use Rattle.ff_tree.specs.declared.op.Op.{Op}
use Rattle.ff_tree.specs.declared.tree.Lit.{Lit}
use Rattle.ff_tree.specs.declared.tree.Doc.{Doc}
use Rattle.ff_tree.specs.declared.tree.Expr.{Expr}
use Rattle.ff_tree.specs.declared.tree.Expr.TheVariants as expr
use Rattle.ff_tree.specs.declared.tree.Handler.{Handler}
use Rattle.ff_tree.specs.declared.tree.Doc.TheOpen.{Expr-F}
use Rattle.ff_tree.specs.declared.tree.Doc.TheViews.{out-Expr, roll-out-Expr}
use Rattle.ff_tree.specs.declared.tree.Doc.TheFolds.{map-Expr, para-roll-Expr}
use Rattle.ff_term.specs.Running.{Running, Done, Var, Let, Set, If, While, Do, And, Or, Make, Apply, Tree, Prim, more}
use Rattle.ff_term.specs.Whole.{whole, wholes, whole_layer, runnings, literal, layer}

pairs : (es : List Expr) → runnings (map (λ e. (e, whole e)) es) ≡ wholes es
pairs [] = refl
pairs (e ∷ es) = ap (more (whole e)) (pairs es)

beside : Expr-F Doc Expr Handler → Expr-F (Doc × Unit {0}) (Expr × Running) (Handler × Unit {0})
unfolding whole
beside x = map-Expr Doc Expr Handler (Doc × Unit {0}) (Expr × Running) (Handler × Unit {0}) (λ d. (d, tt)) (λ e. (e, whole e)) (λ h. (h, tt)) x

layer_is : (x : Expr-F Doc Expr Handler) → whole_layer (beside x) ≡ layer x
unfolding beside
layer_is (Expr-F.Lit l) = refl
layer_is (Expr-F.Var x) = refl
layer_is (Expr-F.Let x e) = refl
layer_is (Expr-F.Set x e) = refl
layer_is (Expr-F.If e f g) = refl
layer_is (Expr-F.While e f) = refl
layer_is (Expr-F.Do es) = ap Do (pairs es)
layer_is (Expr-F.And e f) = refl
layer_is (Expr-F.Or e f) = refl
layer_is (Expr-F.Make xs e) = refl
layer_is (Expr-F.Apply e es) = ap (Apply (whole e)) (pairs es)
layer_is (Expr-F.Tree d) = refl
layer_is (Expr-F.Prim op es) = ap (Prim op) (pairs es)

-- an expression is what its layer is
pub whole-layer : (x : Expr) → whole x ≡ layer (out-Expr x)
unfolding whole beside
whole-layer x = ap whole (sym (roll-out-Expr x))
    ∙ para-roll-Expr (Unit {0}) Running (Unit {0}) (λ _. tt) whole_layer (λ _. tt) (out-Expr x)
    ∙ layer_is (out-Expr x)

at_layer : (x : Expr) (l : Expr-F Doc Expr Handler) → out-Expr x ≡ l → whole x ≡ layer l
at_layer x l e = whole-layer x ∙ ap layer e

-- a literal is its value, and each other form is of the same kind, its parts whole
pub whole-Lit : (l : Lit) → whole (expr.Lit l) ≡ Done (literal l)
whole-Lit l = at_layer (expr.Lit l) (Expr-F.Lit l) (expr.outs-Lit l)

pub whole-Var : (x : List ℕ) → whole (expr.Var x) ≡ Var x
whole-Var x = at_layer (expr.Var x) (Expr-F.Var x) (expr.outs-Var x)

pub whole-Let : (x : List ℕ) (e : Expr) → whole (expr.Let x e) ≡ Let x (whole e)
whole-Let x e = at_layer (expr.Let x e) (Expr-F.Let x e) (expr.outs-Let x e)

pub whole-Set : (x : List ℕ) (e : Expr) → whole (expr.Set x e) ≡ Set x (whole e)
whole-Set x e = at_layer (expr.Set x e) (Expr-F.Set x e) (expr.outs-Set x e)

pub whole-If : (e f g : Expr) → whole (expr.If e f g) ≡ If (whole e) (whole f) (whole g)
whole-If e f g = at_layer (expr.If e f g) (Expr-F.If e f g) (expr.outs-If e f g)

pub whole-While : (e f : Expr) → whole (expr.While e f) ≡ While (whole e) (whole f)
whole-While e f = at_layer (expr.While e f) (Expr-F.While e f) (expr.outs-While e f)

pub whole-Do : (es : List Expr) → whole (expr.Do es) ≡ Do (wholes es)
whole-Do es = at_layer (expr.Do es) (Expr-F.Do es) (expr.outs-Do es)

pub whole-And : (e f : Expr) → whole (expr.And e f) ≡ And (whole e) (whole f)
whole-And e f = at_layer (expr.And e f) (Expr-F.And e f) (expr.outs-And e f)

pub whole-Or : (e f : Expr) → whole (expr.Or e f) ≡ Or (whole e) (whole f)
whole-Or e f = at_layer (expr.Or e f) (Expr-F.Or e f) (expr.outs-Or e f)

pub whole-Make : (xs : List (List ℕ)) (e : Expr) → whole (expr.Make xs e) ≡ Make xs e
whole-Make xs e = at_layer (expr.Make xs e) (Expr-F.Make xs e) (expr.outs-Make xs e)

pub whole-Apply : (e : Expr) (es : List Expr) → whole (expr.Apply e es) ≡ Apply (whole e) (wholes es)
whole-Apply e es = at_layer (expr.Apply e es) (Expr-F.Apply e es) (expr.outs-Apply e es)

pub whole-Tree : (d : Doc) → whole (expr.Tree d) ≡ Tree d
whole-Tree d = at_layer (expr.Tree d) (Expr-F.Tree d) (expr.outs-Tree d)

pub whole-Prim : (op : Op) (es : List Expr) → whole (expr.Prim op es) ≡ Prim op (wholes es)
whole-Prim op es = at_layer (expr.Prim op es) (Expr-F.Prim op es) (expr.outs-Prim op es)
