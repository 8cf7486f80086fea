-- What a redex is.
use Rattle.std.specs.Prelude.{◌≡◌, All, length}
use Rattle.ff_value.specs.declared.value.Val.{Val}
use Rattle.ff_value.specs.declared.value.Val.TheVariants as val
use Rattle.ff_term.specs.Running.{Running, Done, Var, Let, Set, If, Make, Apply, Tree, Prim, values, vals_of}
use Rattle.ff_term.specs.Rows.{IsLocal}
use Rattle.ff_term.specs.Conditions.{Conditions}
use Rattle.ff_term.specs.Redex.{Redex}
use Rattle.ff_term.specs.Redex as redex

-- the redex that was read is the expression
abbrev pub IsRedexOf : Redex → Running → Type 0
IsRedexOf redex.Local e = IsLocal e
IsRedexOf (redex.Test v) e = (f : Running) × ((g : Running) × (e ≡ If (Done v) f g))
IsRedexOf (redex.Var x) e = e ≡ Var x
IsRedexOf (redex.Let x v) e = e ≡ Let x (Done v)
IsRedexOf (redex.Set x v) e = e ≡ Set x (Done v)
IsRedexOf (redex.Make xs f) e = e ≡ Make xs f
IsRedexOf (redex.Apply v vs) e = e ≡ Apply (Done v) (values vs)
IsRedexOf (redex.Prim op vs) e = e ≡ Prim op (values vs)
IsRedexOf (redex.Tree d) e = e ≡ Tree d

-- the value that an expression is, or null
abbrev pub value_or_null : Running → Val
value_or_null (Done v) = v
value_or_null _ = val.Null

-- what is read of an expression; it says something of a redex only
abbrev pub read_redex : Running → Redex
read_redex (If e f g) = redex.Test (value_or_null e)
read_redex (Var x) = redex.Var x
read_redex (Let x e) = redex.Let x (value_or_null e)
read_redex (Set x e) = redex.Set x (value_or_null e)
read_redex (Make xs e) = redex.Make xs e
read_redex (Apply e es) = redex.Apply (value_or_null e) (vals_of es)
read_redex (Prim op es) = redex.Prim op (vals_of es)
read_redex (Tree d) = redex.Tree d
read_redex _ = redex.Local

-- what holds of each thing that a redex hands out
abbrev pub GivesSound : Conditions → Redex → Type 0
GivesSound c redex.Local = Unit {0}
GivesSound c (redex.Test v) = c.val v
GivesSound c (redex.Var x) = c.var x
GivesSound c (redex.Let x v) = c.var x × c.val v
GivesSound c (redex.Set x v) = c.var x × c.val v
GivesSound c (redex.Make xs e) = c.make xs e
GivesSound c (redex.Apply f vs) = c.val f × All c.val vs
GivesSound c (redex.Prim op vs) = c.prim op (length vs) × All c.val vs
GivesSound c (redex.Tree d) = c.tree d
