-- What is read of a redex, and of a value.
use Rattle.std.proofs.Common.{◌≡◌, false, None, List, refl, sym, ap, ◌∙◌}
use Rattle.ff_value.specs.declared.value.Val.{Val}
use Rattle.ff_term.specs.Running.{Running, Done, Var, Let, Set, If, While, Do, And, Or, Make, Apply, Tree, Prim, Inside, is_value, value_of}
use Rattle.ff_term.specs.Rows.{IsLocal}
use Rattle.ff_term.specs.Redexes.{IsRedexOf, read_redex}
use Rattle.ff_term.specs.Redex.{Redex}
use Rattle.ff_term.specs.Redex as read
use Rattle.ff_term.proofs.Keeping.{vals_of_values}

local-read : (e : Running) → IsLocal e → read.Local ≡ read_redex e
local-read (While e f) h = refl
local-read (Do es) h = refl
local-read (And e f) h = refl
local-read (Or e f) h = refl
local-read (Inside a e) h = refl
local-read (Done v) h = refl
local-read (Var x) h = absurd h
local-read (Let x e) h = absurd h
local-read (Set x e) h = absurd h
local-read (If e f g) h = absurd h
local-read (Make xs e) h = absurd h
local-read (Apply e es) h = absurd h
local-read (Tree d) h = absurd h
local-read (Prim op es) h = absurd h

-- a redex is read in one way
pub redex-read : (r : Redex) (e : Running) → IsRedexOf r e → r ≡ read_redex e
redex-read read.Local e is = local-read e is
redex-read (read.Test v) e is = sym (ap read_redex is.1.1)
redex-read (read.Var x) e is = sym (ap read_redex is)
redex-read (read.Let x v) e is = sym (ap read_redex is)
redex-read (read.Set x v) e is = sym (ap read_redex is)
redex-read (read.Make xs f) e is = sym (ap read_redex is)
redex-read (read.Apply v vs) e is = sym (ap read_redex is ∙ ap (λ (ws : List Val). read.Apply v ws) (vals_of_values vs))
redex-read (read.Prim op vs) e is = sym (ap read_redex is ∙ ap (λ (ws : List Val). read.Prim op ws) (vals_of_values vs))
redex-read (read.Tree d) e is = sym (ap read_redex is)

-- what is no value has none
pub no-value : (e : Running) → is_value e ≡ false → value_of e ≡ None
no-value (Done v) h = cc
no-value (Var x) h = refl
no-value (Let x e) h = refl
no-value (Set x e) h = refl
no-value (If e f g) h = refl
no-value (While e f) h = refl
no-value (Do es) h = refl
no-value (And e f) h = refl
no-value (Or e f) h = refl
no-value (Make xs e) h = refl
no-value (Apply e es) h = refl
no-value (Tree d) h = refl
no-value (Prim op es) h = refl
no-value (Inside a e) h = refl
