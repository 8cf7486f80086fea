-- What a stack stands for, and which stacks are valid.
use Rattle.std.specs.Prelude.{◌≡◌, ◌≤◌, ◌-◌, ◌⊎◌, [], List}
use Rattle.std.specs.List.{AllByRecursion}
use Rattle.ff_value.specs.declared.ids.ActId.{ActId}
use Rattle.ff_term.specs.declared.TheConstants.{MOST_CALLS}
use Rattle.ff_term.specs.Running.{Running, Evaluation, rewritten_in}
use Rattle.ff_frames.specs.Frame.{Frame}
use Rattle.ff_frames.specs.declared.frame.Focus.{Focus}
use Rattle.ff_frames.specs.declared.frame.Head.{Head}
use Rattle.ff_frames.specs.Frames.{plug, base_of, calls, shown, outside, is_call}
use Rattle.ff_frames.specs.Heads.{IsCleared, IsEmptyHanded, IsFit, IsLaid, at_hand, frames, with_values}
use Rattle.ff_frames.specs.Seeking.{IsAtRedex, IsSettled}
use Rattle.ff_frames.specs.declared.stack.Stack.{Stack}

-- the frames of the stack
abbrev pub frames_in : Stack → List Frame
frames_in s = frames s.heads.items s.hand

-- its part at hand
abbrev pub focus_in : Stack → Focus
focus_in s = at_hand s.heads.items s.hand

-- the evaluation of x with the frames around it, where a is the innermost activation
abbrev pub in_frames : List Frame → ActId → Running → Evaluation
in_frames fs a x = record { base = base_of fs a; expr = plug fs a x }

-- the evaluation with x at the part at hand
abbrev pub with_part : Stack → Running → Evaluation
with_part s x = in_frames (frames_in s) s.act x

-- what the stack stands for
abbrev pub evaluation : Stack → Evaluation
evaluation s = with_part s (shown (focus_in s))

-- the stack out of a frame that is taken off
abbrev pub out_of : Head → Stack → Stack
out_of h s = record s { act = outside (with_values h []) s.act; depth = s.depth - is_call (with_values h []) }

-- the depth is counted, and no greater than the limit
pub record IsCounted (s : Stack) : Type 0 where
  pub depth : s.depth ≡ calls (frames_in s)
  pub small : s.depth ≤ MOST_CALLS

-- a stack whose part at hand is or completes the redex
pub record IsValid (s : Stack) : Type 0 where
  pub laid : IsCleared s.heads.items s.hand ⊎ IsLaid s.heads.items s.hand
  pub fit : AllByRecursion IsFit s.heads.items
  pub at : IsAtRedex (frames_in s) (focus_in s)
  pub counted : IsCounted s

-- a stack from whose part at hand one walks to the redex
pub record IsReady (s : Stack) : Type 0 where
  pub laid : IsLaid s.heads.items s.hand
  pub fit : AllByRecursion IsFit s.heads.items
  pub settled : IsSettled (focus_in s)
  pub counted : IsCounted s

-- x stands for the redex of s
pub record IsRewritten (x : Running) (s : Stack) (t : Stack) : Type 0 where
  pub same : evaluation t ≡ rewritten_in (λ _. x) (evaluation s)
  pub ready : IsReady t

-- the redex is taken out of s: whatever is put there stands in its place
pub record IsWithoutRedex (s : Stack) (t : Stack) : Type 0 where
  pub rewrites : (x : Running) → with_part t x ≡ rewritten_in (λ _. x) (evaluation s)
  pub empty : IsEmptyHanded t.heads.items t.hand
  pub fit : AllByRecursion IsFit t.heads.items
  pub counted : IsCounted t
  pub no_deeper : t.depth ≤ s.depth
