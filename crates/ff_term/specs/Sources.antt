-- Conditions that each well spelled source meets.
use Rattle.std.specs.Prelude.{◌≡◌, ℕ, List}
use Rattle.ff_tree.specs.Ops.{arity_of}
use Rattle.ff_tree.specs.Spelled.{IsLit, IsVar, AreParams, IsWellSpelledDoc, IsWellSpelledExpr}
use Rattle.ff_tree.specs.declared.op.Op.{Op}
use Rattle.ff_tree.specs.declared.tree.Doc.{Doc}
use Rattle.ff_tree.specs.declared.tree.Expr.{Expr}
use Rattle.ff_tree.specs.declared.tree.Lit.{Lit}
use Rattle.ff_term.specs.Whole.{literal}
use Rattle.ff_term.specs.Conditions.{Conditions}

-- what is spelled meets its condition
pub record TakesSources (c : Conditions) : Type 0 where
  pub val : (l : Lit) → IsLit l → c.val (literal l)
  pub var : (x : List ℕ) → IsVar x → c.var x
  pub make : (xs : List (List ℕ)) (e : Expr) → AreParams xs → IsWellSpelledExpr e → c.make xs e
  pub tree : (d : Doc) → IsWellSpelledDoc d → c.tree d
  pub prim : (op : Op) (n : ℕ) → n ≡ arity_of op → c.prim op n
