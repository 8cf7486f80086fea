-- Frames whose values lie behind one another, and the part at hand behind them.
use Rattle.std.proofs.Common.{◌≡◌, ◌+◌, ◌≤◌, ◌++◌, ◌∷◌, ℕ, suc, List, [], length, take, drop, Option, Some, None, refl, sym, ap, ◌∙◌, arith}
use Rattle.std.proofs.lemmas.List.{append-nil, drop_at, drop-append-le, length-drop, length-take-le, take-append-drop, take-append-le, take_all}
use Rattle.std.specs.List.{AllByRecursion}
use Rattle.ff_tree.specs.declared.tree.Doc.{Doc}
use Rattle.ff_tree.specs.declared.tree.Expr.{Expr, out-Expr}
use Rattle.ff_tree.specs.declared.tree.Handler.{Handler}
use Rattle.ff_tree.specs.declared.tree.Doc.TheOpen.{Expr-F}
use Rattle.ff_value.specs.declared.value.Val.{Val}
use Rattle.ff_frames.specs.declared.frame.Focus.{Focus}
use Rattle.ff_frames.specs.declared.frame.Focus.TheVariants as focus
use Rattle.ff_frames.specs.declared.frame.Head.{Head}
use Rattle.ff_frames.specs.declared.frame.Head.TheVariants as head
use Rattle.ff_frames.specs.declared.hand.Hand.{Hand}
use Rattle.ff_frames.specs.Heads.{IsFew, IsFit, IsHolding, IsLaid, all_held, at_hand, behind, focus_of, form_in, frames, frames_of, held, value_in, with_values}

-- ---- frames and their values

-- a frame more
pub all_held-snoc : (hs : List Head) (g : Head) → all_held (hs ++ g ∷ []) ≡ all_held hs + held g
all_held-snoc [] g = omega arith
all_held-snoc (h ∷ hs) g = let p = all_held-snoc hs g in omega arith

-- values behind those of the frames are none of theirs
pub frames-before : (hs : List Head) (vs ws : List Val) → length vs ≡ all_held hs → frames_of hs (vs ++ ws) ≡ frames_of hs vs
frames-before [] vs ws n = refl
frames-before (h ∷ hs) vs ws n =
    let few : held h ≤ length vs = omega (arith, n) in
    let left : length (drop (held h) vs) ≡ all_held hs = length-drop (held h) vs ∙ omega (arith, n) in
    rw (take-append-le (held h) vs ws few, drop-append-le (held h) vs ws few, frames-before hs (drop (held h) vs) ws left) refl

-- the innermost frame has the last values
pub frames-snoc : (hs : List Head) (g : Head) (us ws : List Val) → length us ≡ all_held hs → length ws ≡ held g
    → frames_of (hs ++ g ∷ []) (us ++ ws) ≡ frames_of hs us ++ with_values g ws ∷ []
frames-snoc [] g [] ws n m = rw (take_all (held g) ws (omega (arith, m))) refl
frames-snoc [] g (u ∷ us) ws n m = cc
frames-snoc (h ∷ hs) g us ws n m =
    let few : held h ≤ length us = omega (arith, n) in
    let left : length (drop (held h) us) ≡ all_held hs = length-drop (held h) us ∙ omega (arith, n) in
    rw (take-append-le (held h) us ws few, drop-append-le (held h) us ws few, frames-snoc hs g (drop (held h) us) ws left m) refl

-- values by a place in them
pub record Parted (vs : List Val) (m n : ℕ) : Type 0 where
  pub front : List Val
  pub back : List Val
  pub whole : vs ≡ front ++ back
  pub in_front : length front ≡ m
  pub in_back : length back ≡ n

pub parted : (vs : List Val) (m n : ℕ) → length vs ≡ m + n → Parted vs m n
parted vs m n h = record {
  front = take m vs;
  back = drop m vs;
  whole = sym (take-append-drop m vs);
  in_front = length-take-le m vs (omega (arith, h));
  in_back = length-drop m vs ∙ omega (arith, h);
}

-- ---- frames that hold no value but where it is an operand of a call or an operator

few-none : (l : Expr-F Doc Expr Handler) → IsFew l 0
few-none (Expr-F.Apply e es) = tt
few-none (Expr-F.Prim op es) = tt
few-none _ = refl

-- a frame that holds none is fit
pub fit-none : (f : Head) → held f ≡ 0 → IsFit f
fit-none (head.Part e n) h = rw h (few-none (out-Expr e))
fit-none (head.Do es n) h = tt
fit-none (head.Loop e) h = tt
fit-none head.Last h = tt
fit-none (head.Inside a) h = tt

-- a fit frame more
pub fit-snoc : (hs : List Head) (f : Head) → AllByRecursion IsFit hs → IsFit f → AllByRecursion IsFit (hs ++ f ∷ [])
fit-snoc [] f all is = (is, tt)
fit-snoc (h ∷ hs) f all is = (all.0, fit-snoc hs f all.1 is)

-- the others and the last are
pub fit-last : (hs : List Head) (f : Head) → AllByRecursion IsFit (hs ++ f ∷ []) → AllByRecursion IsFit hs × IsFit f
fit-last [] f all = (tt, all.0)
fit-last (h ∷ hs) f all = let r = fit-last hs f all.1 in ((all.0, r.0), r.1)

-- ---- heads and a hand

-- the values of the frames, and the part at hand behind them
pub record Holds (hs : List Head) (h : Hand) (kept : List Val) (x : Focus) : Type 0 where
  pub count : length kept ≡ all_held hs
  pub hand : IsHolding kept x h

module _ (hs : List Head) (h : Hand) (kept : List Val) (x : Focus) (is : Holds hs h kept x) where
  pub holds-frames : frames hs h ≡ frames_of hs kept
  holds-frames = rw is.hand.values (frames-before hs kept (value_in x) is.count)

  pub holds-at : at_hand hs h ≡ x
  holds-at = rw (is.hand.form, is.hand.values, drop_at kept (value_in x) (all_held hs) is.count) (at x) where
    at : (x : Focus) → focus_of (form_in x) (value_in x) ≡ x
    at (focus.Value v) = refl
    at (focus.Part e) = refl

  pub holds-laid : IsLaid hs h
  holds-laid = rw (is.hand.form, is.hand.values) (count x is.count) where
    count : (x : Focus) → length kept ≡ all_held hs → length (kept ++ value_in x) ≡ all_held hs + behind (form_in x)
    count (focus.Value v) n = snoc kept v ∙ omega (arith, n) where
      snoc : (vs : List Val) (v : Val) → length (vs ++ v ∷ []) ≡ suc (length vs)
      snoc [] v = refl
      snoc (w ∷ vs) v = ap suc (snoc vs v)
    count (focus.Part e) n = rw (append-nil kept) (omega (arith, n))

one : (vs : List Val) → length vs ≡ 1 → (v : Val) × (vs ≡ v ∷ [])
one [] n = cc
one (v ∷ []) n = (v, refl)
one (v ∷ w ∷ vs) n = absurd (omega (arith, n))

by-form : (m : ℕ) (vs : List Val) (form : Option Expr) → length vs ≡ m + behind form
    → (kept : List Val) × (length kept ≡ m) × (vs ≡ kept ++ value_in (focus_of form (drop m vs))) × (form ≡ form_in (focus_of form (drop m vs)))
by-form m vs (Some e) n = (vs, omega (arith, n), sym (append-nil vs), refl)
by-form m vs None n =
    let p = parted vs m 1 n in
    let v = one p.back p.in_back in
    let there : drop m vs ≡ v.0 ∷ [] = ap (drop m) p.whole ∙ drop_at p.front p.back m p.in_front ∙ v.1 in
    (p.front, p.in_front, rw there (p.whole ∙ ap (λ ws. p.front ++ ws) v.1), rw there refl)

-- what is laid is held
pub laid-holds : (hs : List Head) (h : Hand) → IsLaid hs h → (kept : List Val) × Holds hs h kept (at_hand hs h)
laid-holds hs h laid =
    let r = by-form (all_held hs) h.values.items h.form laid in
    (r.0, record { count = r.1; hand = record { values = r.2; form = r.3 } })

-- a hand without a form, out of which none was taken
pub untouched : (h k : Hand) → k ≡ record h { form = None } → h.form ≡ None → k ≡ h
untouched h k is none = is ∙ ap (λ (form : Option Expr). record h { form = form }) (sym none)
