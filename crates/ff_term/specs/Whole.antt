-- An expression as a runtime expression: nothing is evaluated but literals, which are values.
use Rattle.std.specs.Prelude.{List, [], ◌∷◌}
use Rattle.ff_tree.specs.declared.tree.Lit.{Lit}
use Rattle.ff_tree.specs.declared.tree.Lit.TheVariants as lit
use Rattle.ff_tree.specs.declared.tree.Doc.{Doc}
use Rattle.ff_tree.specs.declared.tree.Expr.{Expr}
use Rattle.ff_tree.specs.declared.tree.Handler.{Handler}
use Rattle.ff_tree.specs.declared.tree.Doc.TheOpen.{Expr-F}
use Rattle.ff_tree.specs.declared.tree.Doc.TheFolds.{para-Expr}
use Rattle.ff_value.specs.declared.value.Val.{Val}
use Rattle.ff_value.specs.declared.value.Val.TheVariants as val
use Rattle.ff_term.specs.Running.{Running, Runnings, Done, Var, Let, Set, If, While, Do, And, Or, Make, Apply, Tree, Prim, none, more}

-- the value of a literal
abbrev pub literal : Lit → Val
literal lit.Null = val.Null
literal (lit.Bool b) = val.Bool b
literal (lit.Num n) = val.Num n
literal (lit.Str text) = val.Str text

-- the parts, each beside what it is as a runtime expression
abbrev pub runnings : List (Expr × Running) → Runnings
runnings [] = none
runnings (e ∷ es) = more e.1 (runnings es)

-- a form, whose parts are given beside what they are
abbrev pub whole_layer : Expr-F (Doc × Unit {0}) (Expr × Running) (Handler × Unit {0}) → Running
whole_layer (Expr-F.Lit l) = Done (literal l)
whole_layer (Expr-F.Var x) = Var x
whole_layer (Expr-F.Let x e) = Let x e.1
whole_layer (Expr-F.Set x e) = Set x e.1
whole_layer (Expr-F.If e f g) = If e.1 f.1 g.1
whole_layer (Expr-F.While e f) = While e.1 f.1
whole_layer (Expr-F.Do es) = Do (runnings es)
whole_layer (Expr-F.And e f) = And e.1 f.1
whole_layer (Expr-F.Or e f) = Or e.1 f.1
whole_layer (Expr-F.Make xs e) = Make xs e.0
whole_layer (Expr-F.Apply e es) = Apply e.1 (runnings es)
whole_layer (Expr-F.Tree d) = Tree d.0
whole_layer (Expr-F.Prim op es) = Prim op (runnings es)

-- the expression as a runtime expression
unfoldable pub whole : Expr → Running
whole = para-Expr (Unit {0}) Running (Unit {0}) (λ _. tt) whole_layer (λ _. tt)

-- the parts of a list
abbrev pub wholes : List Expr → Runnings
wholes [] = none
wholes (e ∷ es) = more (whole e) (wholes es)

-- a form, whose parts are whole
abbrev pub layer : Expr-F Doc Expr Handler → Running
layer (Expr-F.Lit l) = Done (literal l)
layer (Expr-F.Var x) = Var x
layer (Expr-F.Let x e) = Let x (whole e)
layer (Expr-F.Set x e) = Set x (whole e)
layer (Expr-F.If e f g) = If (whole e) (whole f) (whole g)
layer (Expr-F.While e f) = While (whole e) (whole f)
layer (Expr-F.Do es) = Do (wholes es)
layer (Expr-F.And e f) = And (whole e) (whole f)
layer (Expr-F.Or e f) = Or (whole e) (whole f)
layer (Expr-F.Make xs e) = Make xs e
layer (Expr-F.Apply e es) = Apply (whole e) (wholes es)
layer (Expr-F.Tree d) = Tree d
layer (Expr-F.Prim op es) = Prim op (wholes es)
