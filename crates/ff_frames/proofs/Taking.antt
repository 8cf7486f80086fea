-- The redex taken out of a stack.
use Rattle.std.proofs.Common.{◌≡◌, ◌+◌, ◌++◌, ◌∷◌, zero, suc, List, [], length, true, false, refl, sym, ap, ◌∙◌, None, slice_get}
use Rattle.ff_tree.specs.declared.tree.Doc.{Doc}
use Rattle.ff_tree.specs.declared.tree.Expr.{Expr, out-Expr}
use Rattle.ff_tree.specs.declared.tree.Handler.{Handler}
use Rattle.ff_tree.specs.declared.tree.Doc.TheOpen.{Expr-F}
use Rattle.ff_value.specs.declared.ids.ActId.{ActId}
use Rattle.ff_value.specs.declared.value.Val.{Val}
use Rattle.ff_term.specs.Running.{Running, Done, Prim, none, is_value, are_values, redex, rewritten}
use Rattle.ff_term.specs.Whole.{whole, layer}
use Rattle.ff_term.proofs.Forms.{whole-layer}
use Rattle.ff_frames.specs.Frame.{Frame}
use Rattle.ff_frames.specs.Frame as frame
use Rattle.ff_frames.specs.Frames.{operands, after, around, wrap, outside, base_of, plug, is_call, calls}
use Rattle.ff_frames.specs.Seeking.{IsFull, IsTopFull, IsRow}
use Rattle.ff_frames.proofs.Plugs.{plug_rewritten, plug_redex, wrap_value, base-snoc, plug-snoc, calls-snoc, full-snoc}
use Rattle.ff_frames.proofs.Reading.{drop-none}

-- ---- a form that is a redex as it stands

layer-open : (l : Expr-F Doc Expr Handler) → IsRow l → is_value (layer l) ≡ false
layer-open (Expr-F.Lit l) h = absurd h
layer-open _ h = refl

layer-rewritten : (g : Running → Running) (l : Expr-F Doc Expr Handler) → IsRow l → rewritten g (layer l) ≡ g (layer l)
layer-rewritten g (Expr-F.Lit l) h = absurd h
layer-rewritten g (Expr-F.Let x e) h = absurd h
layer-rewritten g (Expr-F.Set x e) h = absurd h
layer-rewritten g (Expr-F.If e e' e'') h = absurd h
layer-rewritten g (Expr-F.Apply e es) h = absurd h
layer-rewritten g (Expr-F.Do []) h = refl
layer-rewritten g (Expr-F.Do (e ∷ es)) h = absurd h
layer-rewritten g (Expr-F.Prim op []) h = refl
layer-rewritten g (Expr-F.Prim op (e ∷ es)) h = absurd h
layer-rewritten g _ h = refl

layer-redex : (l : Expr-F Doc Expr Handler) → IsRow l → redex (layer l) ≡ layer l
layer-redex (Expr-F.Lit l) h = absurd h
layer-redex (Expr-F.Let x e) h = absurd h
layer-redex (Expr-F.Set x e) h = absurd h
layer-redex (Expr-F.If e e' e'') h = absurd h
layer-redex (Expr-F.Apply e es) h = absurd h
layer-redex (Expr-F.Do []) h = refl
layer-redex (Expr-F.Do (e ∷ es)) h = absurd h
layer-redex (Expr-F.Prim op []) h = refl
layer-redex (Expr-F.Prim op (e ∷ es)) h = absurd h
layer-redex _ h = refl

-- it is no value
pub form-open : (e : Expr) → IsRow (out-Expr e) → is_value (whole e) ≡ false
form-open e h = rw (whole-layer e) (layer-open (out-Expr e) h)

-- it is rewritten where it stands
pub form-rewritten : (g : Running → Running) (fs : List Frame) (a : ActId) (e : Expr) → IsRow (out-Expr e)
    → rewritten g (plug fs a (whole e)) ≡ plug fs a (g (whole e))
form-rewritten g fs a e h =
    plug_rewritten g fs a (whole e) (form-open e h) ∙ ap (plug fs a) (let p = layer-rewritten g (out-Expr e) h in rw (whole-layer e) p)

-- it is the redex of the whole
pub form-redex : (fs : List Frame) (a : ActId) (e : Expr) → IsRow (out-Expr e) → redex (plug fs a (whole e)) ≡ whole e
form-redex fs a e h = plug_redex fs a (whole e) (form-open e h) ∙ (let p = layer-redex (out-Expr e) h in rw (whole-layer e) p)

-- ---- a value that completes the redex with the frame around it

values-are : (vs : List Val) (v : Val) → are_values (after vs (Done v) none) ≡ true
values-are [] v = refl
values-are (w ∷ vs) v = values-are vs v

around-rewritten : (g : Running → Running) (l : Expr-F Doc Expr Handler) (vs : List Val) (v : Val) → slice_get (operands l) (suc (length vs)) ≡ None
    → rewritten g (around l vs (Done v)) ≡ g (around l vs (Done v))
around-rewritten g (Expr-F.Apply e es) [] v h = rw (drop-none es zero h) refl
around-rewritten g (Expr-F.Apply e es) (w ∷ vs) v h = rw (drop-none es (suc (length vs)) h, values-are vs v) refl
around-rewritten g (Expr-F.Prim op es) vs v h = rw (drop-none es (suc (length vs)) h, values-are vs v) refl
around-rewritten g _ vs v h = refl

around-redex : (l : Expr-F Doc Expr Handler) (vs : List Val) (v : Val) → slice_get (operands l) (suc (length vs)) ≡ None
    → redex (around l vs (Done v)) ≡ around l vs (Done v)
around-redex (Expr-F.Apply e es) [] v h = rw (drop-none es zero h) refl
around-redex (Expr-F.Apply e es) (w ∷ vs) v h = rw (drop-none es (suc (length vs)) h, values-are vs v) refl
around-redex (Expr-F.Prim op es) vs v h = rw (drop-none es (suc (length vs)) h, values-are vs v) refl
around-redex _ vs v h = refl

wrap-rewritten : (g : Running → Running) (f : Frame) (a : ActId) (v : Val) → IsFull f → rewritten g (wrap f a (Done v)) ≡ g (wrap f a (Done v))
wrap-rewritten g (frame.Part e vs) a v h = around-rewritten g (out-Expr e) vs v h
wrap-rewritten g (frame.Do es n) a v h = refl
wrap-rewritten g (frame.Loop e) a v h = refl
wrap-rewritten g frame.Last a v h = refl
wrap-rewritten g (frame.Inside b) a v h = refl

wrap-redex : (f : Frame) (a : ActId) (v : Val) → IsFull f → redex (wrap f a (Done v)) ≡ wrap f a (Done v)
wrap-redex (frame.Part e vs) a v h = around-redex (out-Expr e) vs v h
wrap-redex (frame.Do es n) a v h = refl
wrap-redex (frame.Loop e) a v h = refl
wrap-redex frame.Last a v h = refl
wrap-redex (frame.Inside b) a v h = refl

module _ (fs rest : List Frame) (f : Frame) (was : fs ≡ rest ++ f ∷ []) where
  pub frame-base : (a : ActId) → base_of rest (outside f a) ≡ base_of fs a
  frame-base a = rw was (sym (base-snoc rest f a))

  -- the innermost frame has all its operands
  pub frame-full : IsTopFull fs → IsFull f
  frame-full h = rw (was, full-snoc rest f) at h

  pub frame-calls : calls fs ≡ calls rest + is_call f
  frame-calls = rw was (calls-snoc rest f)

  -- the frame with its value is rewritten where it stands
  pub frame-rewritten : (g : Running → Running) (a : ActId) (v : Val) → IsTopFull fs
      → rewritten g (plug fs a (Done v)) ≡ plug rest (outside f a) (g (wrap f a (Done v)))
  frame-rewritten g a v h =
      rw (was, plug-snoc rest f a (Done v))
      (plug_rewritten g rest (outside f a) (wrap f a (Done v)) (wrap_value f a (Done v)) ∙ ap (plug rest (outside f a)) (wrap-rewritten g f a v (frame-full h)))

  pub frame-redex : (a : ActId) (v : Val) → IsTopFull fs → redex (plug fs a (Done v)) ≡ wrap f a (Done v)
  frame-redex a v h =
      rw (was, plug-snoc rest f a (Done v))
      (plug_redex rest (outside f a) (wrap f a (Done v)) (wrap_value f a (Done v)) ∙ wrap-redex f a v (frame-full h))
