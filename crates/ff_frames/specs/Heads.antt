-- The frames whose values lie behind one another, and the part at hand behind all of them.
use Rattle.std.specs.Prelude.{◌≡◌, ◌+◌, ℕ, List, [], ◌∷◌, ◌++◌, length, take, drop, Option, Some, None}
use Rattle.ff_tree.specs.declared.tree.Doc.{Doc}
use Rattle.ff_tree.specs.declared.tree.Expr.{Expr, out-Expr}
use Rattle.ff_tree.specs.declared.tree.Handler.{Handler}
use Rattle.ff_tree.specs.declared.tree.Doc.TheOpen.{Expr-F}
use Rattle.ff_value.specs.declared.value.Val.{Val}
use Rattle.ff_value.specs.declared.value.Val.TheVariants as val
use Rattle.ff_frames.specs.Frame.{Frame}
use Rattle.ff_frames.specs.Frame as frame
use Rattle.ff_frames.specs.declared.frame.Focus.{Focus}
use Rattle.ff_frames.specs.declared.frame.Focus.TheVariants as focus
use Rattle.ff_frames.specs.declared.frame.Head.{Head}
use Rattle.ff_frames.specs.declared.frame.Head.TheVariants as head
use Rattle.ff_frames.specs.declared.hand.Hand.{Hand}

-- how many values a frame holds
abbrev pub held : Head → ℕ
held (head.Part e n) = n
held _ = 0

-- how many some frames hold together
abbrev pub all_held : List Head → ℕ
all_held [] = 0
all_held (h ∷ hs) = held h + all_held hs

-- around a form with one operand at most no value is held
abbrev pub IsFew : Expr-F Doc Expr Handler → ℕ → Type 0
IsFew (Expr-F.Apply e es) n = Unit {0}
IsFew (Expr-F.Prim op es) n = Unit {0}
IsFew _ n = n ≡ 0

-- nor by a frame of such a form
abbrev pub IsFit : Head → Type 0
IsFit (head.Part e n) = IsFew (out-Expr e) n
IsFit _ = Unit {0}

-- the innermost frame, if there is one, holds no value
abbrev pub IsTopBare : List Head → Type 0
IsTopBare hs = (rest : List Head) (f : Head) → hs ≡ rest ++ f ∷ [] → held f ≡ 0

-- a frame with its values
abbrev pub with_values : Head → List Val → Frame
with_values (head.Part e n) vs = frame.Part e vs
with_values (head.Do es n) vs = frame.Do es n
with_values (head.Loop e) vs = frame.Loop e
with_values head.Last vs = frame.Last
with_values (head.Inside a) vs = frame.Inside a

-- the frames, each with its own of the values
abbrev pub frames_of : List Head → List Val → List Frame
frames_of [] vs = []
frames_of (h ∷ hs) vs = with_values h (take (held h) vs) ∷ frames_of hs (drop (held h) vs)

-- the value that a part at hand is, if it is one
abbrev pub value_in : Focus → List Val
value_in (focus.Value v) = v ∷ []
value_in (focus.Part e) = []

-- the form that it is, if it is one
abbrev pub form_in : Focus → Option Expr
form_in (focus.Value v) = None
form_in (focus.Part e) = Some e

-- the part at hand: the form, or else the value behind those of the frames
abbrev pub focus_of : Option Expr → List Val → Focus
focus_of (Some e) vs = focus.Part e
focus_of None [] = focus.Value val.Null
focus_of None (v ∷ vs) = focus.Value v

-- one where the part at hand is a value, else none
abbrev pub behind : Option Expr → ℕ
behind (Some e) = 0
behind None = 1

-- the frames of some heads and a hand
abbrev pub frames : List Head → Hand → List Frame
frames hs h = frames_of hs h.values.items

-- the part at hand
abbrev pub at_hand : List Head → Hand → Focus
at_hand hs h = focus_of h.form (drop (all_held hs) h.values.items)

-- there is a value for each that a frame holds, and one more where no form is at hand
abbrev pub IsLaid : List Head → Hand → Type 0
IsLaid hs h = length h.values.items ≡ all_held hs + behind h.form

-- nothing is at hand
pub record IsEmptyHanded (hs : List Head) (h : Hand) : Type 0 where
  pub form : h.form ≡ None
  pub count : length h.values.items ≡ all_held hs

-- some values, and then the part at hand
pub record IsHolding (vs : List Val) (x : Focus) (h : Hand) : Type 0 where
  pub values : h.values.items ≡ vs ++ value_in x
  pub form : h.form ≡ form_in x

-- nothing is held, and so `null` is at hand
pub record IsCleared (hs : List Head) (h : Hand) : Type 0 where
  pub heads : hs ≡ []
  pub values : h.values.items ≡ []
  pub form : h.form ≡ None
  pub null : h.null ≡ val.Null

-- the value at hand: the last, or `null` where there is none; there is none where a form is at hand
abbrev pub last_or : Val → List Val → Val
last_or v [] = v
last_or v (w ∷ vs) = last_or w vs

abbrev pub value_of : Option Expr → Val → List Val → Option Val
value_of (Some e) start vs = None
value_of None start vs = Some (last_or start vs)
