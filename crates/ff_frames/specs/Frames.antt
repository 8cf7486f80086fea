-- What the frames of a stack stand for: what is around the part at hand, the outermost first.
use Rattle.std.specs.Prelude.{◌+◌, ℕ, true, false, List, [], ◌∷◌, length, drop}
use Rattle.std.proofs.Common.{suc}
use Rattle.ff_tree.specs.declared.tree.Doc.{Doc}
use Rattle.ff_tree.specs.declared.tree.Expr.{Expr, out-Expr}
use Rattle.ff_tree.specs.declared.tree.Handler.{Handler}
use Rattle.ff_tree.specs.declared.tree.Doc.TheOpen.{Expr-F}
use Rattle.ff_value.specs.declared.ids.ActId.{ActId}
use Rattle.ff_value.specs.declared.value.Val.{Val}
use Rattle.ff_value.specs.declared.value.Val.TheVariants as val
use Rattle.ff_term.specs.Running.{Running, Runnings, Done, Let, Set, If, While, Do, Apply, Prim, Inside, none, more}
use Rattle.ff_term.specs.Whole.{whole, wholes}
use Rattle.ff_frames.specs.Frame.{Frame}
use Rattle.ff_frames.specs.Frame as frame
use Rattle.ff_frames.specs.declared.frame.Focus.{Focus}
use Rattle.ff_frames.specs.declared.frame.Focus.TheVariants as focus

-- the parts that are evaluated one after another before the form is reduced: of a `do` its first;
-- of a `while`, `and` or `or` none, since its test is evaluated in the `if` that it becomes
abbrev pub operands : Expr-F Doc Expr Handler → List Expr
operands (Expr-F.Let x e) = e ∷ []
operands (Expr-F.Set x e) = e ∷ []
operands (Expr-F.If e f g) = e ∷ []
operands (Expr-F.Do []) = []
operands (Expr-F.Do (e ∷ es)) = e ∷ []
operands (Expr-F.Apply e es) = e ∷ es
operands (Expr-F.Prim op es) = es
operands _ = []

-- some values, then x, then others
abbrev pub after : List Val → Running → Runnings → Runnings
after [] x rest = more x rest
after (v ∷ vs) x rest = more (Done v) (after vs x rest)

-- the first part called with the others; no part stands for an empty `do`
abbrev pub applied : Runnings → Running
applied none = Do none
applied (more e es) = Apply e es

-- the form with the values for its first operands and x for the next; a `while`, `and` or `or`
-- stands for the `if` that it becomes, with x for the test, and a form without operands for a `do`
-- of x
abbrev pub around : Expr-F Doc Expr Handler → List Val → Running → Running
around (Expr-F.Let n e) vs x = Let n x
around (Expr-F.Set n e) vs x = Set n x
around (Expr-F.If e f g) vs x = If x (whole f) (whole g)
around (Expr-F.While e f) vs x = If x (Do (more (whole f) (more (While (whole e) (whole f)) none))) (Done val.Null)
around (Expr-F.And e f) vs x = If x (whole f) (Done (val.Bool false))
around (Expr-F.Or e f) vs x = If x (Done (val.Bool true)) (whole f)
around (Expr-F.Do es) vs x = Do (more x (wholes (drop 1 es)))
around (Expr-F.Apply e es) vs x = applied (after vs x (wholes (drop (suc (length vs)) (e ∷ es))))
around (Expr-F.Prim op es) vs x = Prim op (after vs x (wholes (drop (suc (length vs)) es)))
around _ vs x = Do (more x none)

-- x with the frame around it, where a is the activation inside of it
abbrev pub wrap : Frame → ActId → Running → Running
wrap (frame.Part e vs) a x = around (out-Expr e) vs x
wrap (frame.Do es n) a x = Do (more x (wholes (drop n es)))
wrap (frame.Loop e) a x = Do (more x (more (whole e) none))
wrap frame.Last a x = Do (more x none)
wrap (frame.Inside b) a x = Inside a x

-- the activation outside of a frame
abbrev pub outside : Frame → ActId → ActId
outside (frame.Inside b) a = b
outside _ a = a

-- the activation outside of all frames, where a is the one inside
abbrev pub base_of : List Frame → ActId → ActId
base_of [] a = a
base_of (f ∷ fs) a = outside f (base_of fs a)

-- x with all frames around it, where a is the innermost activation
abbrev pub plug : List Frame → ActId → Running → Running
plug [] a x = x
plug (f ∷ fs) a x = wrap f (base_of fs a) (plug fs a x)

-- the expression at hand
abbrev pub shown : Focus → Running
shown (focus.Value v) = Done v
shown (focus.Part e) = whole e

-- one for a call, else none
abbrev pub is_call : Frame → ℕ
is_call (frame.Inside b) = 1
is_call _ = 0

-- how many calls the frames stand in
abbrev pub calls : List Frame → ℕ
calls [] = 0
calls (f ∷ fs) = is_call f + calls fs
