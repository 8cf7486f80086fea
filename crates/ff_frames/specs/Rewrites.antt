-- What is put for a redex.
use Rattle.std.specs.Prelude.{◌≡◌, ◌+◌, ℕ, List, [], ◌∷◌, ◌++◌, Bool, true, false, length, drop, Option, Some, None}
use Rattle.ff_tree.specs.declared.tree.Doc.{Doc}
use Rattle.ff_tree.specs.declared.tree.Expr.{Expr, out-Expr}
use Rattle.ff_tree.specs.declared.tree.Handler.{Handler}
use Rattle.ff_tree.specs.declared.tree.Doc.TheOpen.{Expr-F}
use Rattle.ff_frames.specs.declared.frame.Head.{Head}
use Rattle.ff_frames.specs.declared.frame.Head.TheVariants as head
use Rattle.ff_frames.specs.declared.hand.Hand.{Hand}
use Rattle.ff_frames.specs.Heads.{IsFit, IsHolding, held, with_values}
use Rattle.ff_frames.specs.declared.frame.Focus.{Focus}
use Rattle.ff_value.specs.declared.ids.ActId.{ActId}
use Rattle.ff_value.specs.declared.value.Code.{Code}
use Rattle.ff_value.specs.declared.value.Val.{Val}
use Rattle.ff_value.specs.declared.value.Val.TheVariants as val
use Rattle.ff_term.specs.Running.{Running, Apply, Do, Done, none, more}
use Rattle.ff_frames.specs.Frames.{wrap, is_call, shown}
use Rattle.ff_frames.specs.Seeking.{IsSettled}
use Rattle.ff_term.specs.Rows.{local_row}
use Rattle.ff_term.specs.Whole.{wholes}

-- x with the frame around it, if there is one
abbrev pub within : Option Head → ActId → Running → Running
within None a x = x
within (Some h) a x = wrap (with_values h []) a x

-- if there is one, it is no call, and holds no value
abbrev pub IsNoCall : Option Head → Type 0
IsNoCall None = Unit {0}
IsNoCall (Some h) = (is_call (with_values h []) ≡ 0) × (held h ≡ 0)

-- a part at hand, perhaps with a frame around it, that stands for t
pub record IsPut (t : ActId → Running) (p : Option Head × Focus) : Type 0 where
  pub same : (a : ActId) → within p.0 a (shown p.1) ≡ t a
  pub settled : IsSettled p.1
  pub no_call : IsNoCall p.0

-- perhaps with a frame more
abbrev pub with_frame : List Head → Option Head → List Head
with_frame hs None = hs
with_frame hs (Some h) = hs ++ h ∷ []

-- what stands for t is put behind the frames and their values: a part at hand, perhaps with a frame
-- more
pub record IsPutOn (t : ActId → Running) (hs : List Head) (vs : List Val) (gs : List Head) (k : Hand) : Type 0 where
  pub put : Option Head × Focus
  pub heads : gs ≡ with_frame hs put.0
  pub hand : IsHolding vs put.1 k
  pub is : IsPut t put

-- the frame and the value at hand, which are the redex of a `do` or a call, are rewritten where
-- they stand; else only the value is left of them, and nothing changes
abbrev pub IsTurned : Head → Hand → Bool → Head → Hand → Type 0
IsTurned f h true g k = (is_call (with_values f []) ≡ 0) × ((kept own : List Val) (v : Val) → h.values.items ≡ kept ++ own ++ v ∷ [] → length own ≡ held f
    → (x : Focus) × IsHolding kept x k × IsPut (λ a. local_row (wrap (with_values f own) a (Done v))) (Some g, x))
IsTurned f h false g k = (g ≡ f) × (k ≡ h) × ((own : List Val) (a : ActId) (v : Val) → local_row (wrap (with_values f own) a (Done v)) ≡ Done v)

-- the parts of a `do` after a place stand after the part at hand
pub record IsRest (es : List Expr) (n : ℕ) (h : Head) : Type 0 where
  pub same : (a : ActId) (x : Running) → wrap (with_values h []) a x ≡ Do (more x (wholes (drop (n + 1) es)))
  pub no_call : (is_call (with_values h []) ≡ 0) × (held h ≡ 0)

-- the test that is evaluated before a branch is taken, of a form that becomes an `if`
abbrev pub test_of : Expr-F Doc Expr Handler → Option Expr
test_of (Expr-F.While e f) = Some e
test_of (Expr-F.And e f) = Some e
test_of (Expr-F.Or e f) = Some e
test_of _ = None

-- an `if`, or a form that becomes one
abbrev pub IsIf : Expr-F Doc Expr Handler → Type 0
IsIf (Expr-F.If e f g) = Unit {0}
IsIf (Expr-F.While e f) = Unit {0}
IsIf (Expr-F.And e f) = Unit {0}
IsIf (Expr-F.Or e f) = Unit {0}
IsIf _ = ⊥

-- a frame around a test
abbrev pub IsTested : Head → Type 0
IsTested (head.Part e n) = IsIf (out-Expr e)
IsTested _ = ⊥

-- a form that stands for a `do` around the part at hand
abbrev pub IsDo : Expr-F Doc Expr Handler → Type 0
IsDo (Expr-F.Lit l) = Unit {0}
IsDo (Expr-F.Var x) = Unit {0}
IsDo (Expr-F.Do es) = Unit {0}
IsDo (Expr-F.Make xs e) = Unit {0}
IsDo (Expr-F.Tree d) = Unit {0}
IsDo _ = ⊥

-- a form's frame that stands for such a `do`
abbrev pub IsBegun : Head → Type 0
IsBegun (head.Part e n) = IsDo (out-Expr e)
IsBegun _ = ⊥

-- a frame whose form has no other operand, and which goes once the part at hand is a value
abbrev pub IsEnding : Head → Type 0
IsEnding (head.Part e n) = IsDo (out-Expr e)
IsEnding _ = Unit {0}

-- around the one argument of a function
pub record IsCallFrame (code : Code) (h : Head) : Type 0 where
  pub expr : (a : ActId) (x : Running) → wrap (with_values h (val.Code code ∷ [])) a x ≡ Apply (Done (val.Code code)) (more x none)
  pub one : held h ≡ 1
  pub fit : IsFit h
