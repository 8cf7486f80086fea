-- Runtime expressions, their redex, and rewriting at the redex.
use Rattle.std.specs.Prelude.{◌+◌, ℕ, Bool, true, false, cond, List, [], ◌∷◌, Option, Some, None}
use Rattle.ff_tree.specs.declared.op.Op.{Op}
use Rattle.ff_tree.specs.declared.tree.Doc.{Doc}
use Rattle.ff_tree.specs.declared.tree.Expr.{Expr}
use Rattle.ff_value.specs.declared.ids.ActId.{ActId}
use Rattle.ff_value.specs.declared.value.Code.{Code}
use Rattle.ff_value.specs.declared.value.Val.{Val}
use Rattle.ff_value.specs.declared.value.Val.TheVariants as val

mutual
  -- an expression in which values stand for parts that are evaluated, and `Inside a e` for e that
  -- runs in the activation a, as the body of a call does
  pub data Running : Type 0 where
    Done : Val → Running
    Var : List ℕ → Running
    Let : List ℕ → Running → Running
    Set : List ℕ → Running → Running
    If : Running → Running → Running → Running
    While : Running → Running → Running
    Do : Runnings → Running
    And : Running → Running → Running
    Or : Running → Running → Running
    Make : List (List ℕ) → Expr → Running
    Apply : Running → Runnings → Running
    Tree : Doc → Running
    Prim : Op → Runnings → Running
    Inside : ActId → Running → Running

  -- a list of them
  pub data Runnings : Type 0 where
    none : Runnings
    more : Running → Runnings → Runnings

-- an expression that runs, and the activation in which it does where no `Inside` stands around
pub record Evaluation : Type 0 where
  pub base : ActId
  pub expr : Running

-- the expression is a value
abbrev pub is_value : Running → Bool
is_value (Done v) = true
is_value _ = false

-- each of them is
abbrev pub are_values : Runnings → Bool
are_values none = true
are_values (more e es) = cond (is_value e) (are_values es) false

-- whether there is nothing to evaluate before the first part: no part, or a value
abbrev pub begins_done : Runnings → Bool
begins_done none = true
begins_done (more e es) = is_value e

abbrev mutual
  -- the leftmost part that a row of the reduction rewrites; of a value, the value
  pub redex : Running → Running
  redex (Let x e) = cond (is_value e) (Let x e) (redex e)
  redex (Set x e) = cond (is_value e) (Set x e) (redex e)
  redex (If e f g) = cond (is_value e) (If e f g) (redex e)
  redex (Do es) = cond (begins_done es) (Do es) (redex_among es)
  redex (Apply e es) = cond (is_value e) (cond (are_values es) (Apply e es) (redex_among es)) (redex e)
  redex (Prim op es) = cond (are_values es) (Prim op es) (redex_among es)
  redex (Inside a e) = cond (is_value e) (Inside a e) (redex e)
  redex (Done v) = Done v
  redex (Var x) = Var x
  redex (While e f) = While e f
  redex (And e f) = And e f
  redex (Or e f) = Or e f
  redex (Make xs e) = Make xs e
  redex (Tree d) = Tree d

  -- that of the first which is no value; nothing is said where all are
  pub redex_among : Runnings → Running
  redex_among none = Do none
  redex_among (more e es) = cond (is_value e) (redex_among es) (redex e)

abbrev mutual
  -- the expression with what f gives for the redex in its place; a value stays
  pub rewritten : (Running → Running) → Running → Running
  rewritten f (Let x e) = cond (is_value e) (f (Let x e)) (Let x (rewritten f e))
  rewritten f (Set x e) = cond (is_value e) (f (Set x e)) (Set x (rewritten f e))
  rewritten f (If e g h) = cond (is_value e) (f (If e g h)) (If (rewritten f e) g h)
  rewritten f (Do es) = cond (begins_done es) (f (Do es)) (Do (rewritten_among f es))
  rewritten f (Apply e es) = cond (is_value e) (cond (are_values es) (f (Apply e es)) (Apply e (rewritten_among f es))) (Apply (rewritten f e) es)
  rewritten f (Prim op es) = cond (are_values es) (f (Prim op es)) (Prim op (rewritten_among f es))
  rewritten f (Inside a e) = cond (is_value e) (f (Inside a e)) (Inside a (rewritten f e))
  rewritten f (Done v) = Done v
  rewritten f (Var x) = f (Var x)
  rewritten f (While e g) = f (While e g)
  rewritten f (And e g) = f (And e g)
  rewritten f (Or e g) = f (Or e g)
  rewritten f (Make xs e) = f (Make xs e)
  rewritten f (Tree d) = f (Tree d)

  -- the first part that is no value is rewritten
  pub rewritten_among : (Running → Running) → Runnings → Runnings
  rewritten_among f none = none
  rewritten_among f (more e es) = cond (is_value e) (more e (rewritten_among f es)) (more (rewritten f e) es)

abbrev mutual
  -- the innermost activation: that of the last `Inside` on the way to the redex, else a
  pub innermost : ActId → Running → ActId
  innermost a (Let x e) = innermost a e
  innermost a (Set x e) = innermost a e
  innermost a (If e f g) = innermost a e
  innermost a (Do es) = cond (begins_done es) a (innermost_among a es)
  innermost a (Apply e es) = cond (is_value e) (innermost_among a es) (innermost a e)
  innermost a (Prim op es) = innermost_among a es
  innermost a (Inside b e) = innermost b e
  innermost a (Done v) = a
  innermost a (Var x) = a
  innermost a (While e f) = a
  innermost a (And e f) = a
  innermost a (Or e f) = a
  innermost a (Make xs e) = a
  innermost a (Tree d) = a

  -- that of the first part that is no value
  pub innermost_among : ActId → Runnings → ActId
  innermost_among a none = a
  innermost_among a (more e es) = cond (is_value e) (innermost_among a es) (innermost a e)

abbrev mutual
  -- how many `Inside` the expression has
  pub insides : Running → ℕ
  insides (Let x e) = insides e
  insides (Set x e) = insides e
  insides (If e f g) = insides e + (insides f + insides g)
  insides (While e f) = insides e + insides f
  insides (Do es) = insides_among es
  insides (And e f) = insides e + insides f
  insides (Or e f) = insides e + insides f
  insides (Apply e es) = insides e + insides_among es
  insides (Prim op es) = insides_among es
  insides (Inside a e) = 1 + insides e
  insides (Done v) = 0
  insides (Var x) = 0
  insides (Make xs e) = 0
  insides (Tree d) = 0

  -- how many they have together
  pub insides_among : Runnings → ℕ
  insides_among none = 0
  insides_among (more e es) = insides e + insides_among es

-- values as expressions
abbrev pub values : List Val → Runnings
values [] = none
values (v ∷ vs) = more (Done v) (values vs)

-- the value that the expression is, if it is one
abbrev pub value_of : Running → Option Val
value_of (Done v) = Some v
value_of _ = None

-- the values among some parts
abbrev pub vals_of : Runnings → List Val
vals_of none = []
vals_of (more (Done v) es) = v ∷ vals_of es
vals_of (more _ es) = vals_of es

-- a function called with one value
abbrev pub call_of : Code → Val → Running
call_of code arg = Apply (Done (val.Code code)) (more (Done arg) none)

-- the evaluation with its redex rewritten
abbrev pub rewritten_in : (Running → Running) → Evaluation → Evaluation
rewritten_in f t = record { base = t.base; expr = rewritten f t.expr }
