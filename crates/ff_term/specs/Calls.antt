-- The calls of a runtime expression, and those of them that stand around its redex.
use Rattle.std.specs.Prelude.{◌≡◌, ◌+◌, ℕ, cond}
use Rattle.ff_term.specs.Running.{Running, Runnings, Done, Var, Let, Set, If, While, Do, And, Or, Make, Apply, Tree, Prim, Inside, none, more, is_value, begins_done, insides}

abbrev mutual
  -- how many calls stand around the redex, or are it, since their body is a value
  pub calls_around : Running → ℕ
  calls_around (Let x e) = calls_around e
  calls_around (Set x e) = calls_around e
  calls_around (If e f g) = calls_around e
  calls_around (Do es) = cond (begins_done es) 0 (calls_around_among es)
  calls_around (Apply e es) = cond (is_value e) (calls_around_among es) (calls_around e)
  calls_around (Prim op es) = calls_around_among es
  calls_around (Inside a e) = 1 + calls_around e
  calls_around (Done v) = 0
  calls_around (Var x) = 0
  calls_around (While e f) = 0
  calls_around (And e f) = 0
  calls_around (Or e f) = 0
  calls_around (Make xs e) = 0
  calls_around (Tree d) = 0

  -- the same of the first part that is no value
  pub calls_around_among : Runnings → ℕ
  calls_around_among none = 0
  calls_around_among (more e es) = cond (is_value e) (calls_around_among es) (calls_around e)

-- each call of the expression stands around the redex, or is it
abbrev pub CallsStandAround : Running → Type 0
CallsStandAround e = insides e ≡ calls_around e
