-- The frames around a part: what is said of the part is said of the whole.
use Rattle.std.proofs.Common.{◌≡◌, ◌+◌, ◌++◌, ◌∷◌, suc, List, [], length, drop, false, refl, ap, ◌∙◌, arith}
use Rattle.ff_tree.specs.declared.tree.Doc.{Doc}
use Rattle.ff_tree.specs.declared.tree.Expr.{Expr, out-Expr}
use Rattle.ff_tree.specs.declared.tree.Handler.{Handler}
use Rattle.ff_tree.specs.declared.tree.Doc.TheOpen.{Expr-F}
use Rattle.ff_value.specs.declared.ids.ActId.{ActId}
use Rattle.ff_value.specs.declared.value.Val.{Val}
use Rattle.ff_term.specs.Running.{Running, Runnings, Done, Apply, Prim, more, is_value, are_values, redex, redex_among, rewritten, rewritten_among, innermost, innermost_among, insides, insides_among}
use Rattle.ff_term.specs.Whole.{wholes}
use Rattle.ff_term.specs.Calls.{calls_around, calls_around_among}
use Rattle.ff_term.proofs.Calls.{wholes-around}
use Rattle.ff_term.proofs.Sources.{source, sources_of}
use Rattle.ff_frames.specs.Frame.{Frame}
use Rattle.ff_frames.specs.Frame as frame
use Rattle.ff_frames.specs.Frames.{after, around, wrap, outside, base_of, plug, is_call, calls}
use Rattle.ff_frames.specs.Seeking.{IsFull, IsTopFull, top_or}

-- ---- some values, then x, then others

after_values : (vs : List Val) (x : Running) (rest : Runnings) → is_value x ≡ false → are_values (after vs x rest) ≡ false
after_values [] x rest h = rw h
after_values (v ∷ vs) x rest h = after_values vs x rest h

after_redex : (vs : List Val) (x : Running) (rest : Runnings) → is_value x ≡ false → redex_among (after vs x rest) ≡ redex x
after_redex [] x rest h = rw h
after_redex (v ∷ vs) x rest h = after_redex vs x rest h

after_rewritten : (g : Running → Running) (vs : List Val) (x : Running) (rest : Runnings) → is_value x ≡ false
    → rewritten_among g (after vs x rest) ≡ after vs (rewritten g x) rest
after_rewritten g [] x rest h = rw h
after_rewritten g (v ∷ vs) x rest h = ap (more (Done v)) (after_rewritten g vs x rest h)

after_innermost : (a : ActId) (vs : List Val) (x : Running) (es : List Expr) → innermost_among a (after vs x (wholes es)) ≡ innermost a x
after_innermost a [] (Done v) es = (sources_of es).innermost a
after_innermost a [] x es = refl
after_innermost a (v ∷ vs) x es = after_innermost a vs x es

after_insides : (vs : List Val) (x : Running) (es : List Expr) → insides_among (after vs x (wholes es)) ≡ insides x
after_insides [] x es = let p = (sources_of es).insides in omega arith
after_insides (v ∷ vs) x es = let p = after_insides vs x es in omega arith

-- ---- a form around x

module _ (x : Running) (h : is_value x ≡ false) where
  around_redex : (e : Expr-F Doc Expr Handler) (vs : List Val) → redex (around e vs x) ≡ redex x
  around_redex (Expr-F.Let n e) vs = rw h
  around_redex (Expr-F.Set n e) vs = rw h
  around_redex (Expr-F.If e f g) vs = rw h
  around_redex (Expr-F.Apply e es) [] = rw h
  around_redex (Expr-F.Apply e es) (v ∷ vs) = rw (after_values vs x (wholes (drop (suc (length vs)) es)) h) (after_redex vs x (wholes (drop (suc (length vs)) es)) h)
  around_redex (Expr-F.Prim op es) vs = rw (after_values vs x (wholes (drop (suc (length vs)) es)) h) (after_redex vs x (wholes (drop (suc (length vs)) es)) h)
  around_redex _ vs = rw h

  around_rewritten : (g : Running → Running) (e : Expr-F Doc Expr Handler) (vs : List Val) → rewritten g (around e vs x) ≡ around e vs (rewritten g x)
  around_rewritten g (Expr-F.Let n e) vs = rw h
  around_rewritten g (Expr-F.Set n e) vs = rw h
  around_rewritten g (Expr-F.If e f f') vs = rw h
  around_rewritten g (Expr-F.Apply e es) [] = rw h
  around_rewritten g (Expr-F.Apply e es) (v ∷ vs) =
      rw (after_values vs x (wholes (drop (suc (length vs)) es)) h) (ap (Apply (Done v)) (after_rewritten g vs x (wholes (drop (suc (length vs)) es)) h))
  around_rewritten g (Expr-F.Prim op es) vs =
      rw (after_values vs x (wholes (drop (suc (length vs)) es)) h) (ap (Prim op) (after_rewritten g vs x (wholes (drop (suc (length vs)) es)) h))
  around_rewritten g _ vs = rw h

  -- the redex of what stands in a frame is that of the whole
  pub wrap_redex : (f : Frame) (a : ActId) → redex (wrap f a x) ≡ redex x
  wrap_redex (frame.Part e vs) a = around_redex (out-Expr e) vs
  wrap_redex (frame.Do es n) a = rw h
  wrap_redex (frame.Loop e) a = rw h
  wrap_redex frame.Last a = rw h
  wrap_redex (frame.Inside b) a = rw h

  -- it is rewritten in its frame
  pub wrap_rewritten : (g : Running → Running) (f : Frame) (a : ActId) → rewritten g (wrap f a x) ≡ wrap f a (rewritten g x)
  wrap_rewritten g (frame.Part e vs) a = around_rewritten g (out-Expr e) vs
  wrap_rewritten g (frame.Do es n) a = rw h
  wrap_rewritten g (frame.Loop e) a = rw h
  wrap_rewritten g frame.Last a = rw h
  wrap_rewritten g (frame.Inside b) a = rw h

around_value : (e : Expr-F Doc Expr Handler) (vs : List Val) (x : Running) → is_value (around e vs x) ≡ false
around_value (Expr-F.Apply e es) [] x = refl
around_value (Expr-F.Apply e es) (v ∷ vs) x = refl
around_value _ vs x = refl

-- what stands in a frame is no value
pub wrap_value : (f : Frame) (a : ActId) (x : Running) → is_value (wrap f a x) ≡ false
wrap_value (frame.Part e vs) a x = around_value (out-Expr e) vs x
wrap_value (frame.Do es n) a x = refl
wrap_value (frame.Loop e) a x = refl
wrap_value frame.Last a x = refl
wrap_value (frame.Inside b) a x = refl

around_innermost : (e : Expr-F Doc Expr Handler) (vs : List Val) (a : ActId) (x : Running) → innermost a (around e vs x) ≡ innermost a x
around_innermost (Expr-F.Let n e) vs a x = refl
around_innermost (Expr-F.Set n e) vs a x = refl
around_innermost (Expr-F.If e f g) vs a x = refl
around_innermost (Expr-F.While e f) vs a x = refl
around_innermost (Expr-F.And e f) vs a x = refl
around_innermost (Expr-F.Or e f) vs a x = refl
around_innermost (Expr-F.Apply e es) [] a (Done v) = (sources_of es).innermost a
around_innermost (Expr-F.Apply e es) [] a x = refl
around_innermost (Expr-F.Apply e es) (v ∷ vs) a x = after_innermost a vs x (drop (suc (length vs)) es)
around_innermost (Expr-F.Prim op es) vs a x = after_innermost a vs x (drop (suc (length vs)) es)
around_innermost _ vs a (Done v) = refl
around_innermost _ vs a x = refl

-- the innermost activation is that of what stands in the frame
pub wrap_innermost : (f : Frame) (a : ActId) (x : Running) → innermost (outside f a) (wrap f a x) ≡ innermost a x
wrap_innermost (frame.Part e vs) a x = around_innermost (out-Expr e) vs a x
wrap_innermost (frame.Do es n) a (Done v) = refl
wrap_innermost (frame.Do es n) a x = refl
wrap_innermost (frame.Loop e) a (Done v) = refl
wrap_innermost (frame.Loop e) a x = refl
wrap_innermost frame.Last a (Done v) = refl
wrap_innermost frame.Last a x = refl
wrap_innermost (frame.Inside b) a x = refl

around_insides : (e : Expr-F Doc Expr Handler) (vs : List Val) (x : Running) → insides (around e vs x) ≡ insides x
around_insides (Expr-F.Let n e) vs x = refl
around_insides (Expr-F.Set n e) vs x = refl
around_insides (Expr-F.If e f g) vs x = let p = (source f).insides in let q = (source g).insides in omega arith
around_insides (Expr-F.While e f) vs x = let p = (source e).insides in let q = (source f).insides in omega arith
around_insides (Expr-F.And e f) vs x = let p = (source f).insides in omega arith
around_insides (Expr-F.Or e f) vs x = let p = (source f).insides in omega arith
around_insides (Expr-F.Do es) vs x = let p = (sources_of (drop 1 es)).insides in omega arith
around_insides (Expr-F.Apply e es) [] x = let p = (sources_of es).insides in omega arith
around_insides (Expr-F.Apply e es) (v ∷ vs) x = let p = after_insides vs x (drop (suc (length vs)) es) in omega arith
around_insides (Expr-F.Prim op es) vs x = after_insides vs x (drop (suc (length vs)) es)
around_insides _ vs x = omega arith

-- a frame adds the call that it is
pub wrap_insides : (f : Frame) (a : ActId) (x : Running) → insides (wrap f a x) ≡ is_call f + insides x
wrap_insides (frame.Part e vs) a x = let p = around_insides (out-Expr e) vs x in omega arith
wrap_insides (frame.Do es n) a x = let p = (sources_of (drop n es)).insides in omega arith
wrap_insides (frame.Loop e) a x = let p = (source e).insides in omega arith
wrap_insides frame.Last a x = omega arith
wrap_insides (frame.Inside b) a x = refl

after_around : (vs : List Val) (x : Running) (es : List Expr) → calls_around_among (after vs x (wholes es)) ≡ calls_around x
after_around [] (Done v) es = wholes-around es
after_around [] x es = refl
after_around (v ∷ vs) x es = after_around vs x es

around_around : (e : Expr-F Doc Expr Handler) (vs : List Val) (x : Running) → calls_around (around e vs x) ≡ calls_around x
around_around (Expr-F.Let n e) vs x = refl
around_around (Expr-F.Set n e) vs x = refl
around_around (Expr-F.If e f g) vs x = refl
around_around (Expr-F.While e f) vs x = refl
around_around (Expr-F.And e f) vs x = refl
around_around (Expr-F.Or e f) vs x = refl
around_around (Expr-F.Apply e es) [] (Done v) = wholes-around es
around_around (Expr-F.Apply e es) [] x = refl
around_around (Expr-F.Apply e es) (v ∷ vs) x = after_around vs x (drop (suc (length vs)) es)
around_around (Expr-F.Prim op es) vs x = after_around vs x (drop (suc (length vs)) es)
around_around _ vs (Done v) = refl
around_around _ vs x = refl

wrap_around : (f : Frame) (a : ActId) (x : Running) → calls_around (wrap f a x) ≡ is_call f + calls_around x
wrap_around (frame.Part e vs) a x = let p = around_around (out-Expr e) vs x in omega arith
wrap_around (frame.Do es n) a (Done v) = refl
wrap_around (frame.Do es n) a x = omega arith
wrap_around (frame.Loop e) a (Done v) = refl
wrap_around (frame.Loop e) a x = omega arith
wrap_around frame.Last a (Done v) = refl
wrap_around frame.Last a x = omega arith
wrap_around (frame.Inside b) a x = refl

-- ---- all frames around x

-- the same of all frames
pub plug_value : (fs : List Frame) (a : ActId) (x : Running) → is_value x ≡ false → is_value (plug fs a x) ≡ false
plug_value [] a x h = h
plug_value (f ∷ fs) a x h = wrap_value f (base_of fs a) (plug fs a x)

-- the redex is that of the part at hand
pub plug_redex : (fs : List Frame) (a : ActId) (x : Running) → is_value x ≡ false → redex (plug fs a x) ≡ redex x
plug_redex [] a x h = refl
plug_redex (f ∷ fs) a x h = wrap_redex (plug fs a x) (plug_value fs a x h) f (base_of fs a) ∙ plug_redex fs a x h

-- it is rewritten where it stands
pub plug_rewritten : (g : Running → Running) (fs : List Frame) (a : ActId) (x : Running) → is_value x ≡ false
    → rewritten g (plug fs a x) ≡ plug fs a (rewritten g x)
plug_rewritten g [] a x h = refl
plug_rewritten g (f ∷ fs) a x h =
    wrap_rewritten (plug fs a x) (plug_value fs a x h) g f (base_of fs a) ∙ ap (wrap f (base_of fs a)) (plug_rewritten g fs a x h)

-- the innermost activation is that of the part at hand
pub plug_innermost : (fs : List Frame) (a : ActId) (x : Running) → innermost (base_of fs a) (plug fs a x) ≡ innermost a x
plug_innermost [] a x = refl
plug_innermost (f ∷ fs) a x = wrap_innermost f (base_of fs a) (plug fs a x) ∙ plug_innermost fs a x

-- the calls are the frames that are calls, and those of the part
pub plug_insides : (fs : List Frame) (a : ActId) (x : Running) → insides (plug fs a x) ≡ calls fs + insides x
plug_insides [] a x = omega arith
plug_insides (f ∷ fs) a x =
    let p = wrap_insides f (base_of fs a) (plug fs a x) in let q = plug_insides fs a x in omega arith

-- each of those stands around the redex
pub plug_around : (fs : List Frame) (a : ActId) (x : Running) → calls_around (plug fs a x) ≡ calls fs + calls_around x
plug_around [] a x = omega arith
plug_around (f ∷ fs) a x =
    let p = wrap_around f (base_of fs a) (plug fs a x) in let q = plug_around fs a x in omega arith

-- ---- the innermost frame

-- a frame more is one inside of the others
pub base-snoc : (fs : List Frame) (f : Frame) (a : ActId) → base_of (fs ++ f ∷ []) a ≡ base_of fs (outside f a)
base-snoc [] f a = refl
base-snoc (g ∷ fs) f a = ap (outside g) (base-snoc fs f a)

-- the part at hand in its innermost frame
pub plug-snoc : (fs : List Frame) (f : Frame) (a : ActId) (x : Running) → plug (fs ++ f ∷ []) a x ≡ plug fs (outside f a) (wrap f a x)
plug-snoc [] f a x = refl
plug-snoc (g ∷ fs) f a x =
    let p = base-snoc fs f a in let q = plug-snoc fs f a x in
    ap (λ b. wrap g b (plug (fs ++ f ∷ []) a x)) p ∙ ap (wrap g (base_of fs (outside f a))) q

-- its call is counted
pub calls-snoc : (fs : List Frame) (f : Frame) → calls (fs ++ f ∷ []) ≡ calls fs + is_call f
calls-snoc [] f = omega arith
calls-snoc (g ∷ fs) f = let p = calls-snoc fs f in omega arith

top-snoc : (g : Frame) (fs : List Frame) (f : Frame) → top_or g (fs ++ f ∷ []) ≡ f
top-snoc g [] f = refl
top-snoc g (h ∷ fs) f = top-snoc h fs f

-- the innermost frame is the last
pub full-snoc : (fs : List Frame) (f : Frame) → IsTopFull (fs ++ f ∷ []) ≡ IsFull f
full-snoc [] f = refl
full-snoc (g ∷ fs) f = ap IsFull (top-snoc g fs f)
