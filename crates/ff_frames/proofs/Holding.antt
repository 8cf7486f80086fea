-- What is put at hand, and the value that is there.
use Rattle.std.proofs.Common.{◌≡◌, ◌<◌, ◌++◌, ◌∷◌, ◌-◌, ℕ, zero, suc, Bool, List, [], length, refl, ap, true, arith, Option, Some, slice_get}
use Rattle.std.proofs.lemmas.List.{append-nil}
use Rattle.ff_tree.specs.declared.tree.Expr.{Expr, out-Expr}
use Rattle.ff_value.specs.declared.value.Val.{Val}
use Rattle.ff_term.specs.Whole.{whole}
use Rattle.ff_frames.specs.declared.frame.Focus.{Focus}
use Rattle.ff_frames.specs.declared.frame.Focus.TheVariants as focus
use Rattle.ff_frames.specs.declared.hand.Hand.{Hand}
use Rattle.ff_frames.specs.Heads.{IsHolding, last_or}
use Rattle.ff_frames.specs.Loads.{inner}
use Rattle.ff_frames.specs.Seeking.{IsHeld, IsHeldFor, IsOpen, Shows}

-- the value at the last place is the last
pub last-read : (vs : List Val) (v w : Val) → Some w ≡ slice_get vs (length vs - 1) → w ≡ last_or v vs
last-read [] v w h = cc
last-read (x ∷ []) v w h = cc
last-read (x ∷ y ∷ ys) v w h =
    let e : length (x ∷ y ∷ ys) - 1 ≡ suc (length (y ∷ ys) - 1) = omega arith in
    last-read (y ∷ ys) x w (rw e at h)

-- there is one expression where two are told
pub some-same : (o : Option Expr) (e s : Expr) → Some e ≡ o → o ≡ Some s → s ≡ e
some-same o e s p q = cc

-- a form at hand that is no literal
pub shows-Part : (e s : Expr) → s ≡ e → IsOpen (out-Expr s) → Shows e (focus.Part s)
shows-Part e s h o = record { same = ap whole h; settled = o; load = ap (λ x. inner (out-Expr x)) h }

-- the form is put behind the values
pub holds-Part : (vs : List Val) (s : Expr) (k : Hand) → k.values.items ≡ vs → k.form ≡ Some s → IsHolding vs (focus.Part s) k
holds-Part vs s k h f = record { values = rw append-nil h; form = f }

-- an expression that is there is at hand
pub held-shown : (o : Option Expr) (e : Expr) (x : Focus) (h k : Hand) → Some e ≡ o → Shows e x → IsHolding h.values.items x k → IsHeld o h true k
held-shown o e x h k p s i = rw (← p) (refl, (x, s, i))

-- an expression of a list is put at hand for the last values, which were dropped
pub held-for : (es : List Expr) (n count : ℕ) (h j k : Hand) (there : Bool) → n < length es
    → ((kept last : List Val) → h.values.items ≡ kept ++ last → length last ≡ count → j.values.items ≡ kept)
    → IsHeld (slice_get es n) j there k → (e : Expr) × (slice_get es n ≡ Some e) × IsHeldFor count e h k
held-for [] n count h j k there less dropped is = absurd (omega (arith, less))
held-for (e ∷ es) zero count h j k there less dropped is =
    (e, refl, λ kept last values many. let s = is.1 in (s.0, s.1, rw (dropped kept last values many) at s.2))
held-for (e ∷ es) (suc n) count h j k there less dropped is = held-for es n count h j k there (omega (arith, less)) dropped is
