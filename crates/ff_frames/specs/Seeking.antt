-- Where the walk to the redex ends, and what it keeps.
use Rattle.std.specs.Prelude.{◌≡◌, ◌+◌, ◌<◌, ◌++◌, ℕ, Bool, true, false, cond, List, [], ◌∷◌, length, slice_get, Option, None, Some}
use Rattle.std.proofs.Common.{suc}
use Rattle.ff_tree.specs.declared.tree.Doc.{Doc}
use Rattle.ff_tree.specs.declared.tree.Expr.{Expr, out-Expr}
use Rattle.ff_tree.specs.declared.tree.Handler.{Handler}
use Rattle.ff_tree.specs.declared.tree.Doc.TheOpen.{Expr-F}
use Rattle.ff_value.specs.declared.ids.ActId.{ActId}
use Rattle.ff_term.specs.Running.{Running, Done}
use Rattle.ff_frames.specs.Frames.{operands, plug, base_of, calls, shown, wrap, outside, is_call}
use Rattle.ff_frames.specs.Loads.{frame_load, load, loads, inner}
use Rattle.ff_term.specs.Whole.{whole}
use Rattle.ff_value.specs.declared.value.Val.{Val}
use Rattle.ff_frames.specs.Frame.{Frame}
use Rattle.ff_frames.specs.Frame as frame
use Rattle.ff_frames.specs.declared.frame.Focus.{Focus}
use Rattle.ff_frames.specs.declared.frame.Focus.TheVariants as focus
use Rattle.ff_frames.specs.declared.frame.Head.{Head}
use Rattle.ff_frames.specs.declared.frame.Head.TheVariants as head
use Rattle.ff_frames.specs.declared.hand.Hand.{Hand}
use Rattle.ff_frames.specs.Heads.{IsHolding}

-- no part
abbrev pub IsEmpty : List Expr → Type 0
IsEmpty [] = Unit {0}
IsEmpty (e ∷ es) = ⊥

-- a form that is a redex as it stands
abbrev pub IsRow : Expr-F Doc Expr Handler → Type 0
IsRow (Expr-F.Lit l) = ⊥
IsRow (Expr-F.Var x) = Unit {0}
IsRow (Expr-F.Let x e) = ⊥
IsRow (Expr-F.Set x e) = ⊥
IsRow (Expr-F.If e f g) = ⊥
IsRow (Expr-F.While e f) = Unit {0}
IsRow (Expr-F.Do es) = IsEmpty es
IsRow (Expr-F.And e f) = Unit {0}
IsRow (Expr-F.Or e f) = Unit {0}
IsRow (Expr-F.Make xs e) = Unit {0}
IsRow (Expr-F.Apply e es) = ⊥
IsRow (Expr-F.Tree d) = Unit {0}
IsRow (Expr-F.Prim op es) = IsEmpty es

-- a form that is no literal
abbrev pub IsOpen : Expr-F Doc Expr Handler → Type 0
IsOpen (Expr-F.Lit l) = ⊥
IsOpen _ = Unit {0}

-- no operand is left after the one at hand
abbrev pub IsFull : Frame → Type 0
IsFull (frame.Part e vs) = slice_get (operands (out-Expr e)) (suc (length vs)) ≡ None
IsFull _ = Unit {0}

-- a literal is held as its value
abbrev pub IsSettled : Focus → Type 0
IsSettled (focus.Value v) = Unit {0}
IsSettled (focus.Part e) = IsOpen (out-Expr e)

-- the innermost frame
abbrev pub top_or : Frame → List Frame → Frame
top_or f [] = f
top_or f (g ∷ gs) = top_or g gs

-- no operand is left in the innermost frame
abbrev pub IsTopFull : List Frame → Type 0
IsTopFull [] = Unit {0}
IsTopFull (f ∷ fs) = IsFull (top_or f fs)

-- the part at hand is the redex, or completes it with the innermost frame, or is the value of all
abbrev pub IsAtRedex : List Frame → Focus → Type 0
IsAtRedex fs (focus.Part e) = IsRow (out-Expr e)
IsAtRedex fs (focus.Value v) = IsTopFull fs

-- two stacks that stand for one expression
pub record Alike (fs : List Frame) (x : Running) (gs : List Frame) (y : Running) : Type 0 where
  pub base : (a : ActId) → base_of gs a ≡ base_of fs a
  pub expr : (a : ActId) → plug gs a y ≡ plug fs a x
  pub calls : calls gs ≡ calls fs

-- the expression is the part at hand
pub record Shows (e : Expr) (x : Focus) : Type 0 where
  pub same : shown x ≡ whole e
  pub settled : IsSettled x
  pub load : load x ≡ inner (out-Expr e)

-- the same where there may be none
abbrev pub AreShown : Option Expr → Option Focus → Type 0
AreShown None None = Unit {0}
AreShown (Some e) (Some x) = Shows e x
AreShown _ _ = ⊥

-- the first part of an expression that is evaluated, with the frame that it leaves around it
pub record Opens (e : Expr) (f : Frame) (x : Focus) : Type 0 where
  pub expr : (a : ActId) → wrap f a (shown x) ≡ whole e
  pub outside : (a : ActId) → outside f a ≡ a
  pub call : is_call f ≡ 0
  pub settled : IsSettled x
  pub less : frame_load f + load x < inner (out-Expr e)

-- the next operand, with the frame in which the value v stands for the one before
pub record Feeds (f : Frame) (v : Val) (g : Frame) (x : Focus) : Type 0 where
  pub expr : (a : ActId) → wrap g a (shown x) ≡ wrap f a (Done v)
  pub outside : (a : ActId) → outside g a ≡ outside f a
  pub call : is_call g ≡ is_call f
  pub settled : IsSettled x
  pub less : frame_load g + load x < frame_load f

-- an expression is put at hand, if there is one; else nothing changes
abbrev pub IsHeld : Option Expr → Hand → Bool → Hand → Type 0
IsHeld None h there k = (there ≡ false) × (k ≡ h)
IsHeld (Some e) h there k = (there ≡ true) × ((x : Focus) × Shows e x × IsHolding h.values.items x k)

-- an expression is put at hand for the n last values
abbrev pub IsHeldFor : ℕ → Expr → Hand → Hand → Type 0
IsHeldFor n e h k = (kept last : List Val) → h.values.items ≡ kept ++ last → length last ≡ n → (x : Focus) × Shows e x × IsHolding kept x k

-- the operand after the one whose value is at hand is put there, and the frame has that value; else
-- nothing changes
abbrev pub IsFed : Head → Hand → Bool → Head → Hand → Type 0
IsFed (head.Part e n) h on g k = IsHeld (slice_get (operands (out-Expr e)) (suc n)) h on k × (g ≡ cond on (head.Part e (suc n)) (head.Part e n))
IsFed f h on g k = (on ≡ false) × (g ≡ f) × (k ≡ h)

-- a step towards the redex
pub record IsNearer (fs : List Frame) (x : Focus) (gs : List Frame) (y : Focus) : Type 0 where
  pub alike : Alike fs (shown x) gs (shown y)
  pub settled : IsSettled y
  pub less : loads gs + load y < loads fs + load x

-- the redex is reached
pub record IsThere (fs : List Frame) (x : Running) (gs : List Frame) (y : Focus) : Type 0 where
  pub alike : Alike fs x gs (shown y)
  pub at : IsAtRedex gs y

-- a step, or none where the redex is reached
abbrev pub IsStep : List Frame → Focus → Bool → List Frame → Focus → Type 0
IsStep fs x true gs y = IsNearer fs x gs y
IsStep fs x false gs y = IsThere fs (shown x) gs y
