-- The rows of the reduction that need nothing but the expression.
use Rattle.std.specs.Prelude.{Bool, true, false, cond}
use Rattle.ff_value.specs.declared.value.Val.TheVariants as val
use Rattle.ff_term.specs.Running.{Running, Runnings, Done, If, While, Do, And, Or, Inside, none, more}

-- what is left of the parts of a `do` whose first part is a value
abbrev pub do_row : Runnings → Running
do_row none = Done val.Null
do_row (more e none) = e
do_row (more e (more f es)) = Do (more f es)

-- what a redex becomes that no store decides
abbrev pub local_row : Running → Running
local_row (While e f) = If e (Do (more f (more (While e f) none))) (Done val.Null)
local_row (Do es) = do_row es
local_row (And e f) = If e f (Done (val.Bool false))
local_row (Or e f) = If e (Done (val.Bool true)) f
local_row (Inside a e) = e
local_row e = e

-- the branch of an `if` for true or for false
abbrev pub branch : Bool → Running → Running
branch b (If e f g) = cond b f g
branch b e = e

-- a redex that `local_row` rewrites
abbrev pub IsLocal : Running → Type 0
IsLocal (While e f) = Unit {0}
IsLocal (Do es) = Unit {0}
IsLocal (And e f) = Unit {0}
IsLocal (Or e f) = Unit {0}
IsLocal (Inside a e) = Unit {0}
IsLocal _ = ⊥

-- a redex that `branch` rewrites
abbrev pub IsTest : Running → Type 0
IsTest (If e f g) = Unit {0}
IsTest _ = ⊥
