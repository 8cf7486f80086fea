-- What holds of each value, function, document, operator and activation in a runtime expression.
use Rattle.std.specs.Prelude.{ℕ, ◌+◌, List}
use Rattle.ff_tree.specs.declared.op.Op.{Op}
use Rattle.ff_tree.specs.declared.tree.Doc.{Doc}
use Rattle.ff_tree.specs.declared.tree.Expr.{Expr}
use Rattle.ff_value.specs.declared.ids.ActId.{ActId}
use Rattle.ff_value.specs.declared.value.Val.{Val}
use Rattle.ff_term.specs.Running.{Running, Runnings, Done, Var, Let, Set, If, While, Do, And, Or, Make, Apply, Tree, Prim, Inside, none, more}

-- one condition for each kind of thing
pub record Conditions : Type 1 where
  pub val : Val → Type 0
  pub var : List ℕ → Type 0
  pub make : List (List ℕ) → Expr → Type 0
  pub tree : Doc → Type 0
  pub prim : Op → ℕ → Type 0
  pub act : ActId → Type 0

-- how many there are
abbrev pub how_many : Runnings → ℕ
how_many none = 0
how_many (more e es) = 1 + how_many es

abbrev mutual
  -- each thing in the expression meets its condition
  pub Satisfies : Conditions → Running → Type 0
  Satisfies c (Done v) = c.val v
  Satisfies c (Var x) = c.var x
  Satisfies c (Let x e) = c.var x × Satisfies c e
  Satisfies c (Set x e) = c.var x × Satisfies c e
  Satisfies c (If e f g) = Satisfies c e × Satisfies c f × Satisfies c g
  Satisfies c (While e f) = Satisfies c e × Satisfies c f
  Satisfies c (Do es) = SatisfyAll c es
  Satisfies c (And e f) = Satisfies c e × Satisfies c f
  Satisfies c (Or e f) = Satisfies c e × Satisfies c f
  Satisfies c (Make xs e) = c.make xs e
  Satisfies c (Apply e es) = Satisfies c e × SatisfyAll c es
  Satisfies c (Tree d) = c.tree d
  Satisfies c (Prim op es) = c.prim op (how_many es) × SatisfyAll c es
  Satisfies c (Inside a e) = c.act a × Satisfies c e

  -- each thing in each of the expressions does
  pub SatisfyAll : Conditions → Runnings → Type 0
  SatisfyAll c none = Unit {0}
  SatisfyAll c (more e es) = Satisfies c e × SatisfyAll c es
