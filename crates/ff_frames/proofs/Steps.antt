-- One step towards the redex.
use Rattle.std.proofs.Common.{◌≡◌, ◌+◌, ◌<◌, ◌++◌, ◌∷◌, ℕ, zero, suc, List, [], length, drop, map, refl, sym, ap, ◌∙◌, arith, Option, Some, None, slice_get}
use Rattle.ff_tree.specs.declared.tree.Lit.{Lit}
use Rattle.ff_tree.specs.declared.tree.Doc.{Doc}
use Rattle.ff_tree.specs.declared.tree.Expr.{Expr, out-Expr}
use Rattle.ff_tree.specs.declared.tree.Expr.TheVariants as expr
use Rattle.ff_tree.specs.declared.tree.Handler.{Handler}
use Rattle.ff_tree.specs.declared.tree.Doc.TheOpen.{Expr-F}
use Rattle.ff_tree.specs.declared.tree.Doc.TheFolds.{fold_out-Expr}
use Rattle.ff_value.specs.declared.value.Val.{Val}
use Rattle.ff_term.specs.Running.{Running, Runnings, Done, Prim, more}
use Rattle.ff_term.specs.Whole.{whole, wholes, literal, layer}
use Rattle.ff_term.proofs.Forms.{whole-layer, whole-Lit}
use Rattle.ff_frames.specs.Frame as frame
use Rattle.ff_frames.specs.declared.frame.Focus.{Focus}
use Rattle.ff_frames.specs.declared.frame.Focus.TheVariants as focus
use Rattle.ff_frames.specs.Frames.{operands, after, around}
use Rattle.ff_frames.specs.Loads.{total, size, doc_size, handler_size, one_more, inner}
use Rattle.ff_frames.specs.Seeking.{Shows, AreShown, Opens, Feeds}

-- an expression is met, and what is in it
pub size-out : (e : Expr) → size e ≡ suc (inner (out-Expr e))
unfolding size doc_size handler_size inner
size-out e = fold_out-Expr ℕ ℕ ℕ (λ _. 0) one_more (λ _. 0) e

inner-Lit : (l : Lit) → 0 ≡ inner (Expr-F.Lit l)
unfolding inner
inner-Lit l = refl

-- a literal at hand is its value
pub shows-Lit : (e : Expr) (l : Lit) (v : Val) → e ≡ expr.Lit l → v ≡ literal l → Shows e (focus.Value v)
shows-Lit e l v h k = record {
  same = rw (h, k) (sym (whole-Lit l));
  settled = tt;
  load = rw (h, expr.outs-Lit l) (inner-Lit l);
}

-- what is at hand is there
pub some-shown : (o : Option Expr) (x : Focus) → AreShown o (Some x) → (e : Expr) × (o ≡ Some e) × Shows e x
some-shown None x h = absurd h
some-shown (Some e) x h = (e, refl, h)

-- the item at a place begins the rest from there
pub drop-get : {A : Type 0} (xs : List A) (n : ℕ) (x : A) → slice_get xs n ≡ Some x → drop n xs ≡ x ∷ drop (suc n) xs
drop-get [] n x h = cc
drop-get (y ∷ ys) zero x h = cc
drop-get (y ∷ ys) (suc n) x h = drop-get ys n x h

after-snoc : (vs : List Val) (v : Val) (x : Running) (rest : Runnings) → after (vs ++ v ∷ []) x rest ≡ after vs (Done v) (more x rest)
after-snoc [] v x rest = refl
after-snoc (w ∷ vs) v x rest = ap (more (Done w)) (after-snoc vs v x rest)

pub length-snoc : {A : Type 0} (xs : List A) (x : A) → length (xs ++ x ∷ []) ≡ suc (length xs)
length-snoc [] x = refl
length-snoc (y ∷ ys) x = ap suc (length-snoc ys x)

-- a value after the others, and the next operand at hand
pub fed : (l : Expr-F Doc Expr Handler) (vs : List Val) (v : Val) (e : Expr) → slice_get (operands l) (suc (length vs)) ≡ Some e
    → around l (vs ++ v ∷ []) (whole e) ≡ around l vs (Done v)
fed (Expr-F.Let n f) vs v e h = cc
fed (Expr-F.Set n f) vs v e h = cc
fed (Expr-F.If f g g') vs v e h = cc
fed (Expr-F.Do []) vs v e h = cc
fed (Expr-F.Do (f ∷ fs)) vs v e h = cc
fed (Expr-F.Apply f es) vs v e h =
    rw (length-snoc vs v, drop-get es (length vs) e h, after-snoc vs v (whole e) (wholes (drop (suc (length vs)) es))) refl
fed (Expr-F.Prim op es) vs v e h =
    rw (length-snoc vs v, drop-get es (suc (length vs)) e h, after-snoc vs v (whole e) (wholes (drop (suc (suc (length vs))) es))) refl
fed _ vs v e h = cc

-- the first operand at hand
pub opened : (l : Expr-F Doc Expr Handler) (e : Expr) → slice_get (operands l) zero ≡ Some e → around l [] (whole e) ≡ layer l
opened (Expr-F.Let n f) e h = let p : f ≡ e = cc in rw p refl
opened (Expr-F.Set n f) e h = let p : f ≡ e = cc in rw p refl
opened (Expr-F.If f g g') e h = let p : f ≡ e = cc in rw p refl
opened (Expr-F.Do []) e h = cc
opened (Expr-F.Do (f ∷ fs)) e h = let p : f ≡ e = cc in rw p refl
opened (Expr-F.Apply f es) e h = let p : f ≡ e = cc in rw p refl
opened (Expr-F.Prim op es) e h = rw (drop-get es zero e h) refl
opened _ e h = cc

-- what is left in the operands after some
pub left-drop : (es : List Expr) (n : ℕ) (e : Expr) → slice_get es n ≡ Some e
    → total (map size (drop (suc n) es)) + inner (out-Expr e) < total (map size (drop n es))
left-drop es n e h = let p = size-out e in rw (drop-get es n e h) (omega arith)

-- less is left once the first operand is at hand
pub left-opened : (l : Expr-F Doc Expr Handler) (e : Expr) → slice_get (operands l) zero ≡ Some e
    → total (map size (drop 1 (operands l))) + inner (out-Expr e) < inner l
unfolding inner
left-opened (Expr-F.Let n f) e h = let p : f ≡ e = cc in let q = size-out e in rw p (omega arith)
left-opened (Expr-F.Set n f) e h = let p : f ≡ e = cc in let q = size-out e in rw p (omega arith)
left-opened (Expr-F.If f g g') e h = let p : f ≡ e = cc in let q = size-out e in rw p (omega arith)
left-opened (Expr-F.Do []) e h = cc
left-opened (Expr-F.Do (f ∷ fs)) e h = let p : f ≡ e = cc in let q = size-out e in rw p (omega arith)
left-opened (Expr-F.Apply f es) e h = let p : f ≡ e = cc in let q = size-out e in rw p (omega arith)
left-opened (Expr-F.Prim op es) e h = left-drop es zero e h
left-opened _ e h = cc

-- the first operand at hand, in a frame
pub opens : (e : Expr) (vs : List Val) (o : Option Expr) (x : Focus)
    → slice_get (operands (out-Expr e)) zero ≡ o → vs ≡ [] → AreShown o (Some x) → Opens e (frame.Part e vs) x
opens e vs o x first empty shown =
    let s = some-shown o x shown in let at = first ∙ s.1 in
    record {
      expr = λ a. rw (empty, s.2.same) (opened (out-Expr e) s.0 at ∙ sym (whole-layer e));
      outside = λ a. refl;
      call = refl;
      settled = s.2.settled;
      less = rw (empty, s.2.load) (left-opened (out-Expr e) s.0 at);
    }

-- a value for the operand at hand, and the next at hand
pub feeds : (e : Expr) (vs ws : List Val) (v : Val) (o : Option Expr) (x : Focus)
    → slice_get (operands (out-Expr e)) (suc (length vs)) ≡ o → ws ≡ vs ++ v ∷ [] → AreShown o (Some x)
    → Feeds (frame.Part e vs) v (frame.Part e ws) x
feeds e vs ws v o x next items shown =
    let s = some-shown o x shown in let at = next ∙ s.1 in
    record {
      expr = λ a. rw (items, s.2.same) (fed (out-Expr e) vs v s.0 at);
      outside = λ a. refl;
      call = refl;
      settled = s.2.settled;
      less = rw (items, length-snoc vs v, s.2.load) (left-drop (operands (out-Expr e)) (suc (length vs)) s.0 at);
    }
