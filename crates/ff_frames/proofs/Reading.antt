-- The redex that a value completes with the frame around it.
use Rattle.std.proofs.Common.{◌≡◌, ◌⊎◌, inl, inr, ◌++◌, ◌∷◌, ℕ, zero, suc, List, [], length, drop, refl, sym, ap, ◌∙◌, true, false, None, slice_get}
use Rattle.ff_tree.specs.declared.op.Op.{Op}
use Rattle.ff_tree.specs.declared.tree.Expr.{Expr, out-Expr}
use Rattle.ff_tree.specs.declared.tree.Expr.TheVariants as expr
use Rattle.ff_tree.specs.declared.tree.Doc.{Doc}
use Rattle.ff_tree.specs.declared.tree.Handler.{Handler}
use Rattle.ff_tree.specs.declared.tree.Doc.TheOpen.{Expr-F}
use Rattle.ff_value.specs.declared.value.Val.{Val}
use Rattle.ff_value.specs.declared.value.Val.TheVariants as val
use Rattle.ff_term.specs.Running.{Running, Done, If, While, Do, Apply, Prim, none, more, values}
use Rattle.ff_term.specs.Whole.{whole, wholes}
use Rattle.ff_frames.specs.Frames.{operands, after, applied, around}
use Rattle.ff_frames.specs.Rewrites.{IsIf}

-- past the last there is none
pub drop-none : {A : Type 0} (xs : List A) (n : ℕ) → slice_get xs n ≡ None → drop n xs ≡ []
drop-none [] zero h = refl
drop-none [] (suc n) h = refl
drop-none (x ∷ xs) zero h = cc
drop-none (x ∷ xs) (suc n) h = drop-none xs n h

-- values and a last one
pub after-last : (vs : List Val) (v : Val) → after vs (Done v) none ≡ values (vs ++ v ∷ [])
after-last [] v = refl
after-last (w ∷ vs) v = ap (more (Done w)) (after-last vs v)

-- nothing is left after the operand at hand
pub full-Prim : (op : Op) (es : List Expr) (vs : List Val) (x : Running) → slice_get (operands (Expr-F.Prim op es)) (suc (length vs)) ≡ None
    → around (Expr-F.Prim op es) vs x ≡ Prim op (after vs x none)
full-Prim op es vs x h = ap (λ r. Prim op (after vs x (wholes r))) (drop-none es (suc (length vs)) h)

-- the same of a call
pub full-Apply : (e : Expr) (es : List Expr) (vs : List Val) (x : Running) → slice_get (operands (Expr-F.Apply e es)) (suc (length vs)) ≡ None
    → around (Expr-F.Apply e es) vs x ≡ applied (after vs x none)
full-Apply e es vs x h = ap (λ r. applied (after vs x (wholes r))) (drop-none (e ∷ es) (suc (length vs)) h)

-- a form that is or becomes an `if`
pub if-kind : (e : Expr)
    → ((c : Expr) × (f : Expr) × (g : Expr) × (e ≡ expr.If c f g))
    ⊎ ((c : Expr) × (f : Expr) × (e ≡ expr.While c f)) ⊎ ((c : Expr) × (f : Expr) × (e ≡ expr.And c f)) ⊎ ((c : Expr) × (f : Expr) × (e ≡ expr.Or c f))
    → IsIf (out-Expr e)
if-kind e (inl (c, f, g, h)) = rw (h, expr.outs-If c f g) tt
if-kind e (inr (inl (c, f, h))) = rw (h, expr.outs-While c f) tt
if-kind e (inr (inr (inl (c, f, h)))) = rw (h, expr.outs-And c f) tt
if-kind e (inr (inr (inr (c, f, h)))) = rw (h, expr.outs-Or c f) tt

-- a test
pub if-read : (l : Expr-F Doc Expr Handler) (vs : List Val) (v w : Val) → IsIf l → w ≡ v
    → (f : Running) × ((g : Running) × (around l vs (Done v) ≡ If (Done w) f g))
if-read (Expr-F.If e f g) vs v w h p = (whole f, (whole g, rw p refl))
if-read (Expr-F.While e f) vs v w h p = (Do (more (whole f) (more (While (whole e) (whole f)) none)), (Done val.Null, rw p refl))
if-read (Expr-F.And e f) vs v w h p = (whole f, (Done (val.Bool false), rw p refl))
if-read (Expr-F.Or e f) vs v w h p = (Done (val.Bool true), (whole f, rw p refl))
if-read _ vs v w h p = absurd h

-- an operator and its operands
pub prim-read : (e : Expr) (op : Op) (es : List Expr) (vs : List Val) (v : Val) (all : List Val) → e ≡ expr.Prim op es
    → slice_get (operands (out-Expr e)) (suc (length vs)) ≡ None → all ≡ vs ++ v ∷ [] → around (out-Expr e) vs (Done v) ≡ Prim op (values all)
prim-read e op es vs v all i h r =
    let l = ap out-Expr i ∙ expr.outs-Prim op es in
    rw (l, r) (full-Prim op es vs (Done v) (rw l at h) ∙ ap (Prim op) (after-last vs v))

-- a function and its arguments, of the values of all operands
pub call-read : (e f : Expr) (es : List Expr) (vs : List Val) (v g : Val) (args all : List Val) → e ≡ expr.Apply f es
    → slice_get (operands (out-Expr e)) (suc (length vs)) ≡ None → all ≡ vs ++ v ∷ [] → all ≡ g ∷ args
    → around (out-Expr e) vs (Done v) ≡ Apply (Done g) (values args)
call-read e f es vs v g args all i h r s =
    let l = ap out-Expr i ∙ expr.outs-Apply f es in
    let p : vs ++ v ∷ [] ≡ g ∷ args = sym r ∙ s in
    rw l (full-Apply f es vs (Done v) (rw l at h) ∙ ap applied (after-last vs v ∙ ap values p))
