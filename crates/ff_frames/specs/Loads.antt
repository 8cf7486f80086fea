-- How much is left to evaluate before the redex is reached.
use Rattle.std.specs.Prelude.{ℕ, ◌+◌, List, [], ◌∷◌, length, drop, map}
use Rattle.std.proofs.Common.{suc}
use Rattle.ff_tree.specs.declared.tree.Doc.{Doc}
use Rattle.ff_tree.specs.declared.tree.Expr.{Expr, out-Expr}
use Rattle.ff_tree.specs.declared.tree.Handler.{Handler}
use Rattle.ff_tree.specs.declared.tree.Doc.TheOpen.{Expr-F}
use Rattle.ff_tree.specs.declared.tree.Doc.TheFolds.{fold-Doc, fold-Expr, fold-Handler, map-Expr}
use Rattle.ff_frames.specs.Frame.{Frame}
use Rattle.ff_frames.specs.Frame as frame
use Rattle.ff_frames.specs.declared.frame.Focus.{Focus}
use Rattle.ff_frames.specs.declared.frame.Focus.TheVariants as focus
use Rattle.ff_frames.specs.Frames.{operands}

-- the sum of the numbers
abbrev pub total : List ℕ → ℕ
total [] = 0
total (n ∷ ns) = n + total ns

-- the parts of a form that are evaluated before it, and those of a `do`, together
abbrev pub parts : Expr-F ℕ ℕ ℕ → ℕ
parts (Expr-F.Let x e) = e
parts (Expr-F.Set x e) = e
parts (Expr-F.If e f g) = e
parts (Expr-F.Do es) = total es
parts (Expr-F.Apply e es) = e + total es
parts (Expr-F.Prim op es) = total es
parts _ = 0

-- those parts and the form
abbrev pub one_more : Expr-F ℕ ℕ ℕ → ℕ
one_more e = suc (parts e)

-- how many parts the walk can meet in an expression, itself counted
unfoldable pub size : Expr → ℕ
size = fold-Expr ℕ ℕ ℕ (λ _. 0) one_more (λ _. 0)

-- none in a document
unfoldable pub doc_size : Doc → ℕ
doc_size = fold-Doc ℕ ℕ ℕ (λ _. 0) one_more (λ _. 0)

-- nor in a handler
unfoldable pub handler_size : Handler → ℕ
handler_size = fold-Handler ℕ ℕ ℕ (λ _. 0) one_more (λ _. 0)

-- what is left inside of an expression
unfoldable pub inner : Expr-F Doc Expr Handler → ℕ
inner e = parts (map-Expr Doc Expr Handler ℕ ℕ ℕ doc_size size handler_size e)

-- what is left in the part at hand
abbrev pub load : Focus → ℕ
load (focus.Value v) = 0
load (focus.Part e) = inner (out-Expr e)

-- what is left in the operands after the one at hand
abbrev pub frame_load : Frame → ℕ
frame_load (frame.Part e vs) = total (map size (drop (suc (length vs)) (operands (out-Expr e))))
frame_load _ = 0

-- what is left in all frames
abbrev pub loads : List Frame → ℕ
loads [] = 0
loads (f ∷ fs) = frame_load f + loads fs
