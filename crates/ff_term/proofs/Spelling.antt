-- A well spelled source meets conditions that take sources, as a runtime expression.
use Rattle.std.proofs.Common.{◌≡◌, ◌≤◌, ◌+◌, ℕ, List, [], ◌∷◌, map, length, refl, sym, ap, ◌∙◌, arith, subst}
use Rattle.std.specs.List.{AllByRecursion}
use Rattle.ff_tree.specs.declared.tree.Doc.{Doc}
use Rattle.ff_tree.specs.declared.tree.Expr.{Expr}
use Rattle.ff_tree.specs.declared.tree.Expr.TheVariants as expr
use Rattle.ff_tree.specs.declared.tree.Handler.{Handler}
use Rattle.ff_tree.specs.declared.tree.Doc.TheOpen.{Expr-F}
use Rattle.ff_tree.specs.declared.tree.Doc.TheViews.{out-Expr}
use Rattle.ff_tree.specs.declared.tree.Doc.TheFolds.{map-Expr, fold_out-Expr}
use Rattle.ff_tree.specs.Spelled.{IsSpelledExpr, IsWellSpelledExpr, most, doc_nesting, expr_nesting, handler_nesting, doc_depth, expr_depth, handler_depth}
use Rattle.ff_tree.proofs.Layers.{IsSpelledExpr-Lit, IsSpelledExpr-Var, IsSpelledExpr-Let, IsSpelledExpr-Set, IsSpelledExpr-If, IsSpelledExpr-While, IsSpelledExpr-Do, IsSpelledExpr-And, IsSpelledExpr-Or, IsSpelledExpr-Make, IsSpelledExpr-Apply, IsSpelledExpr-Tree, IsSpelledExpr-Prim}
use Rattle.ff_term.specs.Running.{Running}
use Rattle.ff_term.specs.Whole.{whole, wholes}
use Rattle.ff_term.specs.Conditions.{Conditions, Satisfies, SatisfyAll, how_many}
use Rattle.ff_term.specs.Sources.{TakesSources}
use Rattle.ff_term.proofs.Forms.{whole-Lit, whole-Var, whole-Let, whole-Set, whole-If, whole-While, whole-Do, whole-And, whole-Or, whole-Make, whole-Apply, whole-Tree, whole-Prim}
use Rattle.ff_term.proofs.Induction.{Each, ByForms, by_forms}

abbrev layers : Expr-F Doc Expr Handler → ℕ
layers l = expr_nesting (map-Expr Doc Expr Handler ℕ ℕ ℕ doc_depth expr_depth handler_depth l)

-- a form whose layer is known is as deep as its parts make it
deep : (x : Expr) (l : Expr-F Doc Expr Handler) → out-Expr x ≡ l → expr_depth x ≤ 64 → layers l ≤ 64
deep x l e h = let p : expr_depth x ≡ layers l = fold_out-Expr ℕ ℕ ℕ doc_nesting expr_nesting handler_nesting x ∙ ap layers e in subst (λ (n : ℕ). n ≤ 64) p h

from : {A B : Type 0} → A ≡ B → A → B
from p a = subst (λ (T : Type 0). T) p a

many-wholes : (es : List Expr) → how_many (wholes es) ≡ length es
many-wholes [] = refl
many-wholes (e ∷ es) = let p = many-wholes es in omega arith

module _ (c : Conditions) (t : TakesSources c) where
  -- spelled in whatever depth, and in at most 64 layers
  abbrev Q : Expr → Type 0
  Q e = IsSpelledExpr e → expr_depth e ≤ 64 → Satisfies c (whole e)

  at : {e f : Running} → e ≡ f → Satisfies c f → Satisfies c e
  at {e} {f} p h = subst (Satisfies c) (sym p) h

  all-spelled : (es : List Expr) → Each Q es → AllByRecursion IsSpelledExpr es → 1 + most (map expr_depth es) ≤ 64 → SatisfyAll c (wholes es)
  all-spelled [] q h d = tt
  all-spelled (e ∷ es) q h d = (q.0 h.0 (omega arith), all-spelled es q.1 h.1 (omega arith))

  spelled_forms : ByForms Q
  spelled_forms = record {
    lit = λ l h d. at (whole-Lit l) (t.val l (from (IsSpelledExpr-Lit l) h));
    var = λ x h d. at (whole-Var x) (t.var x (from (IsSpelledExpr-Var x) h));
    let_form = λ x e q h d.
        let s = from (IsSpelledExpr-Let x e) h in let n = deep (expr.Let x e) (Expr-F.Let x e) (expr.outs-Let x e) d in
        at (whole-Let x e) (t.var x s.0, q s.1 (omega arith));
    set_form = λ x e q h d.
        let s = from (IsSpelledExpr-Set x e) h in let n = deep (expr.Set x e) (Expr-F.Set x e) (expr.outs-Set x e) d in
        at (whole-Set x e) (t.var x s.0, q s.1 (omega arith));
    if_form = λ e f g p q r h d.
        let s = from (IsSpelledExpr-If e f g) h in let n = deep (expr.If e f g) (Expr-F.If e f g) (expr.outs-If e f g) d in
        at (whole-If e f g) (p s.0 (omega arith), q s.1 (omega arith), r s.2 (omega arith));
    while_form = λ e f p q h d.
        let s = from (IsSpelledExpr-While e f) h in let n = deep (expr.While e f) (Expr-F.While e f) (expr.outs-While e f) d in
        at (whole-While e f) (p s.0 (omega arith), q s.1 (omega arith));
    do_form = λ es q h d.
        let s = from (IsSpelledExpr-Do es) h in let n = deep (expr.Do es) (Expr-F.Do es) (expr.outs-Do es) d in
        at (whole-Do es) (all-spelled es q s n);
    and_form = λ e f p q h d.
        let s = from (IsSpelledExpr-And e f) h in let n = deep (expr.And e f) (Expr-F.And e f) (expr.outs-And e f) d in
        at (whole-And e f) (p s.0 (omega arith), q s.1 (omega arith));
    or_form = λ e f p q h d.
        let s = from (IsSpelledExpr-Or e f) h in let n = deep (expr.Or e f) (Expr-F.Or e f) (expr.outs-Or e f) d in
        at (whole-Or e f) (p s.0 (omega arith), q s.1 (omega arith));
    make_form = λ xs e q h d.
        let s = from (IsSpelledExpr-Make xs e) h in let n = deep (expr.Make xs e) (Expr-F.Make xs e) (expr.outs-Make xs e) d in
        at (whole-Make xs e) (t.make xs e s.0 (record { spelled = s.1; shallow = omega arith }));
    apply_form = λ e es q qs h d.
        let s = from (IsSpelledExpr-Apply e es) h in let n = deep (expr.Apply e es) (Expr-F.Apply e es) (expr.outs-Apply e es) d in
        at (whole-Apply e es) (q s.0 (omega arith), all-spelled es qs s.1 (omega arith));
    tree_form = λ doc h d.
        let s = from (IsSpelledExpr-Tree doc) h in let n = deep (expr.Tree doc) (Expr-F.Tree doc) (expr.outs-Tree doc) d in
        at (whole-Tree doc) (t.tree doc (record { spelled = s; shallow = omega arith }));
    prim_form = λ op es q h d.
        let s = from (IsSpelledExpr-Prim op es) h in let n = deep (expr.Prim op es) (Expr-F.Prim op es) (expr.outs-Prim op es) d in
        at (whole-Prim op es) (t.prim op _ (many-wholes es ∙ s.0), all-spelled es q s.1 n);
  }

  -- a well spelled source meets the conditions
  pub source-meets : (e : Expr) → IsWellSpelledExpr e → Satisfies c (whole e)
  source-meets e h = by_forms Q spelled_forms e h.spelled h.shallow
