-- Parts of what is spelled are spelled.
use Rattle.std.proofs.Common.{ℕ, List, arith, subst}
use Rattle.ff_tree.specs.Spelled.{IsWellSpelledExpr}
use Rattle.ff_tree.specs.declared.tree.Expr.{Expr}
use Rattle.ff_tree.specs.declared.tree.Expr.TheVariants as expr
use Rattle.ff_tree.proofs.Layers.{IsSpelledExpr-Make}
use Rattle.ff_forms.proofs.Depths.{expr_depth-Make}
use Rattle.ff_value.specs.Spelled.{IsWellSpelledCode}
use Rattle.ff_value.specs.declared.ids.ActId.{ActId}

-- the function that an expression makes
pub code_spelled : (params : List (List ℕ)) (e : Expr) (env : ActId) → IsWellSpelledExpr (expr.Make params e) → IsWellSpelledCode (record { params = params; body = e; env = env })
code_spelled params e env h =
    let parts = subst (λ (T : Type 0). T) (IsSpelledExpr-Make params e) h.spelled in
    let depth = expr_depth-Make params e in
    let most_deep = h.shallow in
    record { params = parts.0; body = record { spelled = parts.1; shallow = omega (arith, depth, most_deep) } }
