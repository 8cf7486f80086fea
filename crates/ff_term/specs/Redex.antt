-- A redex, as far as the stores decide what it becomes.
use Rattle.std.specs.Prelude.{ℕ, List}
use Rattle.ff_tree.specs.declared.op.Op.{Op}
use Rattle.ff_tree.specs.declared.tree.Doc.{Doc}
use Rattle.ff_tree.specs.declared.tree.Expr.{Expr}
use Rattle.ff_value.specs.declared.value.Val.{Val}

-- `Local` where no store decides: a `while`, `do`, `and` or `or`, or the end of a call; `Test` of
-- an `if`; a variable to be read, declared or assigned; a function to be made of its parameters and
-- its body; a function and its arguments; a document to be made into nodes; an operator and its
-- operands
pub data Redex : Type 0 where
  Local : Redex
  Test : Val → Redex
  Var : List ℕ → Redex
  Let : List ℕ → Val → Redex
  Set : List ℕ → Val → Redex
  Make : List (List ℕ) → Expr → Redex
  Apply : Val → List Val → Redex
  Tree : Doc → Redex
  Prim : Op → List Val → Redex
