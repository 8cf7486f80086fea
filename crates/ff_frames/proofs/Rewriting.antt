-- A stack with its redex rewritten.
use Rattle.std.proofs.Common.{ℕ, ◌-◌, ◌≡◌, ◌≤◌, ◌<◌, ◌+◌, ◌++◌, ◌∷◌, ◌⊎◌, inl, inr, List, [], Option, None, Some, Result, Ok, Err, OnOk, MatchOption, Bor, false, true, length, drop, refl, sym, ap, ◌∙◌, arith}
use Rattle.std.proofs.lemmas.List.{append-nil, append_assoc, length-append}
use Rattle.std.specs.List.{AllByRecursion}
use Rattle.std.specs.Option.{option_copied}
use Rattle.ff_tree.specs.declared.tree.Expr.{Expr, out-Expr}
use Rattle.ff_tree.specs.declared.tree.Doc.{Doc}
use Rattle.ff_tree.specs.declared.tree.Handler.{Handler}
use Rattle.ff_tree.specs.declared.tree.Doc.TheOpen.{Expr-F}
use Rattle.ff_value.specs.declared.ids.ActId.{ActId}
use Rattle.ff_value.specs.declared.value.Val.{Val}
use Rattle.ff_term.specs.declared.TheConstants.{MOST_CALLS}
use Rattle.ff_term.specs.Calls.{calls_around}
use Rattle.ff_term.specs.Rows.{IsLocal, IsTest, local_row}
use Rattle.ff_term.specs.Running.{Running, Apply, Done, Inside, Evaluation, insides, innermost, is_value, redex, rewritten_in}
use Rattle.ff_term.specs.Whole.{whole, layer}
use Rattle.ff_term.proofs.Calls.{whole-around}
use Rattle.ff_term.proofs.Forms.{whole-layer}
use Rattle.ff_term.proofs.Laws.{rewritten-redex}
use Rattle.ff_term.proofs.Sources.{source}
use Rattle.ff_frames.specs.Frame.{Frame}
use Rattle.ff_frames.specs.Frame as frame
use Rattle.ff_frames.specs.declared.frame.Focus.{Focus}
use Rattle.ff_frames.specs.declared.frame.Focus.TheVariants as focus
use Rattle.ff_frames.specs.declared.frame.Head.{Head}
use Rattle.ff_frames.specs.declared.frame.Head.TheVariants as head
use Rattle.ff_frames.specs.declared.hand.Hand.{Hand}
use Rattle.ff_frames.specs.declared.stack.Stack.{Stack}
use Rattle.ff_frames.specs.Bindings.{IsBinding, bound}
use Rattle.ff_frames.specs.Frames.{around, wrap, outside, base_of, plug, shown, is_call, calls}
use Rattle.ff_frames.specs.Heads.{IsCleared, IsEmptyHanded, IsFew, IsFit, IsHolding, IsLaid, IsTopBare, all_held, focus_of, frames, frames_of, held, last_or, value_of, with_values}
use Rattle.ff_frames.specs.Rewrites.{IsDo, IsEnding, IsIf, IsNoCall, IsPutOn, IsTested, IsTurned, with_frame, within}
use Rattle.ff_frames.specs.Seeking.{IsFull, IsRow, IsSettled, IsThere, IsTopFull}
use Rattle.ff_frames.specs.Stacks.{frames_in, focus_in, in_frames, with_part, evaluation, out_of, IsCounted, IsReady, IsRewritten, IsValid, IsWithoutRedex}
use Rattle.ff_frames.proofs.Heads.{Holds, all_held-snoc, fit-last, fit-none, fit-snoc, frames-snoc, holds-at, holds-frames, holds-laid}
use Rattle.ff_frames.proofs.Plugs.{plug_value, wrap_value, base-snoc, plug-snoc, calls-snoc, plug_insides, plug_innermost, plug_around}
use Rattle.ff_frames.proofs.Taking.{form-open, form-rewritten, form-redex, frame-base, frame-full, frame-calls, frame-rewritten, frame-redex}
use Rattle.ff_frames.proofs.Walk.{Topped, topped, enough-held}

both : (a b : ActId) (x y : Running) → a ≡ b → x ≡ y → ◌≡◌ {A = Evaluation} (record { base = a; expr = x }) (record { base = b; expr = y })
both a b x y p q = rw (p, q) refl

row-of : (s : Stack) (e : Expr) → focus_in s ≡ focus.Part e → IsValid s → IsRow (out-Expr e)
row-of s e h v = rw h at v.at

-- ---- the form at hand

focus-form : (s : Stack) (e : Expr) → s.hand.form ≡ Some e → focus_in s ≡ focus.Part e
focus-form s e h = rw h refl

laid-form : (s : Stack) (e : Expr) → s.hand.form ≡ Some e → IsValid s → length s.hand.values.items ≡ all_held s.heads.items
laid-form s e h v = by v.laid where
  by : IsCleared s.heads.items s.hand ⊎ IsLaid s.heads.items s.hand → length s.hand.values.items ≡ all_held s.heads.items
  by (inl c) = let p : Some e ≡ None = sym h ∙ c.form in cc
  by (inr l) = let p = rw h at l in omega (arith, p)

-- a form that is the redex is taken out as it stands
pub form-gone : (s t : Stack) (e : Expr) → s.hand.form ≡ Some e → t.heads ≡ s.heads → t.hand ≡ record s.hand { form = None } → t.act ≡ s.act → t.depth ≡ s.depth → IsValid s → IsWithoutRedex s t
form-gone s t e h heads hand act depth v =
    let row = row-of s e (focus-form s e h) v in
    record {
      rewrites = λ x. rw (h, heads, hand, act) (both _ _ _ _ refl (sym (form-rewritten (λ _. x) (frames_in s) s.act e row)));
      empty = record { form = rw hand refl; count = rw (heads, hand) (laid-form s e h v) };
      fit = rw heads v.fit;
      counted = record { depth = rw (heads, hand, depth) v.counted.depth; small = rw depth v.counted.small };
      no_deeper = rw depth (omega arith);
    }

-- the redex is the form at hand
pub form-is : (s : Stack) (e : Expr) → s.hand.form ≡ Some e → IsValid s → redex (evaluation s).expr ≡ whole e
form-is s e h v = rw h (form-redex (frames_in s) s.act e (row-of s e (focus-form s e h) v))

-- ---- the innermost frame

-- frames and their values, and how many calls they are
pub record Around (hs : List Head) (vs : List Val) (d : ℕ) : Type 0 where
  pub count : length vs ≡ all_held hs
  pub fit : AllByRecursion IsFit hs
  pub depth : d ≡ calls (frames_of hs vs)
  pub small : d ≤ MOST_CALLS

laid-frame : (s : Stack) (rest : List Head) (f : Head) → s.heads.items ≡ rest ++ f ∷ [] → IsValid s → IsLaid s.heads.items s.hand
laid-frame s rest f was v = by v.laid where
  some : (rest : List Head) → [] ≡ rest ++ f ∷ [] → ⊥
  some [] h = cc
  some (g ∷ rest) h = cc

  by : IsCleared s.heads.items s.hand ⊎ IsLaid s.heads.items s.hand → IsLaid s.heads.items s.hand
  by (inl c) = absurd (some rest (sym c.heads ∙ was))
  by (inr l) = l

-- the innermost frame with its values
pub top-of : (s : Stack) (rest : List Head) (f : Head) → s.heads.items ≡ rest ++ f ∷ [] → s.hand.form ≡ None → IsValid s → Topped s.heads.items rest f s.hand
top-of s rest f was free v = topped s.heads.items rest f s.hand was free (laid-frame s rest f was v)

-- there is a value at hand behind its values
pub enough-values : (s : Stack) (rest : List Head) (f : Head) → s.heads.items ≡ rest ++ f ∷ [] → s.hand.form ≡ None → IsValid s → held f < length s.hand.values.items
enough-values s rest f was free v = enough-held s.heads.items rest f s.hand was free (laid-frame s rest f was v)

call-bare : (f : Head) (vs : List Val) → is_call (with_values f vs) ≡ is_call (with_values f [])
call-bare (head.Part e n) vs = refl
call-bare (head.Do es n) vs = refl
call-bare (head.Loop e) vs = refl
call-bare head.Last vs = refl
call-bare (head.Inside a) vs = refl

outside-bare : (f : Head) (vs : List Val) (a : ActId) → outside (with_values f vs) a ≡ outside (with_values f []) a
outside-bare (head.Part e n) vs a = refl
outside-bare (head.Do es n) vs a = refl
outside-bare (head.Loop e) vs a = refl
outside-bare head.Last vs a = refl
outside-bare (head.Inside b) vs a = refl

module _ (s : Stack) (rest : List Head) (f : Head) (top : Topped s.heads.items rest f s.hand) (v : IsValid s) where
  full-of : IsTopFull (frames_in s)
  full-of = rw top.focused at v.at

  -- a call that is left was counted
  pub enough : is_call (with_values f []) ≤ s.depth
  enough =
      let p = frame-calls (frames_in s) (frames_of rest top.below) (with_values f top.own) top.framed in
      let q = v.counted.depth in let r = call-bare f top.own in omega arith

  -- the frames around it with their values
  pub frame-around : s.heads.items ≡ rest ++ f ∷ [] → Around rest top.below (s.depth - is_call (with_values f []))
  frame-around was =
      let p = frame-calls (frames_in s) (frames_of rest top.below) (with_values f top.own) top.framed in
      let q = v.counted.depth in let r = v.counted.small in let o = call-bare f top.own in
      record { count = top.under; fit = (fit-last rest f (rw was at v.fit)).0; depth = omega arith; small = omega arith }

  -- what is put in them is rewritten where it stands
  pub frame-rewrites : (x : Running) → in_frames (frames_of rest top.below) (outside (with_values f []) s.act) x ≡ rewritten_in (λ _. x) (evaluation s)
  frame-rewrites x =
      let fs = frames_in s in let gs = frames_of rest top.below in let g = with_values f top.own in
      rw (top.focused, ← outside-bare f top.own s.act) (both _ _ _ _ (frame-base fs gs g top.framed s.act) (sym (frame-rewritten fs gs g top.framed (λ _. x) s.act top.value full-of)))

  -- a frame that a value completes is taken off
  pub frame-gone : s.heads.items ≡ rest ++ f ∷ [] → (u t : Stack) → u.heads.items ≡ rest → u.hand.values.items ≡ top.below → u.hand.form ≡ None
      → u.act ≡ s.act → u.depth ≡ s.depth → t ≡ out_of f u → IsWithoutRedex s t
  frame-gone was u t heads values form act depth is =
      let around = frame-around was in
      rw is (record {
        rewrites = λ x. rw (act, heads, values) (frame-rewrites x);
        empty = record { form = form; count = rw (heads, values) around.count };
        fit = rw heads around.fit;
        counted = record { depth = rw (depth, heads, values) around.depth; small = rw depth around.small };
        no_deeper = rw depth (omega arith);
      })

  -- the redex is the innermost frame with the value
  pub frame-is : redex (evaluation s).expr ≡ wrap (with_values f top.own) s.act (Done top.value)
  frame-is = rw top.focused (frame-redex (frames_in s) (frames_of rest top.below) (with_values f top.own) top.framed s.act top.value full-of)

  -- the innermost frame has all its operands
  pub full-frame : IsFull (with_values f top.own)
  full-frame = frame-full (frames_in s) (frames_of rest top.below) (with_values f top.own) top.framed full-of

  -- its values and the one at hand are the last
  pub last-values : s.hand.values.items ≡ top.below ++ (top.own ++ top.value ∷ [])
  last-values = top.values ∙ append_assoc top.below top.own (top.value ∷ [])

  pub last-count : length (top.own ++ top.value ∷ []) ≡ held f + 1
  last-count = length-append top.own (top.value ∷ []) ∙ (let m = top.many in omega (arith, m))

-- ---- a value

-- with nothing around, a value at hand is the whole
whole-value : (s : Stack) → s.heads.items ≡ [] → s.hand.form ≡ None → is_value (evaluation s).expr ≡ true
whole-value s heads free = rw (heads, free) (by s.hand.values.items) where
  by : (vs : List Val) → is_value (shown (focus_of None (drop 0 vs))) ≡ true
  by [] = refl
  by (v ∷ vs) = refl

-- so a frame stands around it where the whole is none
pub some-frame : (s : Stack) → s.heads.items ≡ [] → s.hand.form ≡ None → is_value (evaluation s).expr ≡ false → ⊥
some-frame s heads free unfinished = let p : true ≡ false = sym (whole-value s heads free) ∙ unfinished in cc

-- within a frame the whole is none
pub value-framed : (s : Stack) (rest : List Head) (f : Head) → s.heads.items ≡ rest ++ f ∷ [] → is_value (evaluation s).expr ≡ false
value-framed s rest f was = rw was (by rest s.hand.values.items _) where
  by : (rest : List Head) (vs : List Val) (x : Running) → is_value (plug (frames_of (rest ++ f ∷ []) vs) s.act x) ≡ false
  by [] vs x = wrap_value _ _ _
  by (g ∷ rest) vs x = wrap_value _ _ _

-- a form at hand is no value
pub value-form : (s : Stack) (e : Expr) → s.hand.form ≡ Some e → IsValid s → is_value (evaluation s).expr ≡ false
value-form s e h v = rw h (plug_value (frames_in s) s.act (whole e) (form-open e (row-of s e (focus-form s e h) v)))

last-alone : (s : Stack) → IsValid s → s.heads.items ≡ [] → s.hand.form ≡ None → (evaluation s).expr ≡ Done (last_or s.hand.null s.hand.values.items)
last-alone s v heads free = rw (heads, free) (by v.laid) where
  alone : (vs : List Val) → length vs ≡ 1 → shown (focus_of None (drop 0 vs)) ≡ Done (last_or s.hand.null vs)
  alone [] n = cc
  alone (w ∷ []) n = refl
  alone (w ∷ w' ∷ ws) n = absurd (omega (arith, n))

  by : IsCleared s.heads.items s.hand ⊎ IsLaid s.heads.items s.hand → shown (focus_of None (drop 0 s.hand.values.items)) ≡ Done (last_or s.hand.null s.hand.values.items)
  by (inl c) = rw (c.values, c.null) refl
  by (inr l) = alone s.hand.values.items (rw (heads, free) at l)

-- what is read of the hand where nothing stands around is the value of the whole
pub alone-value : (s : Stack) (r : Option (Bor Val)) → IsValid s → s.heads.items ≡ [] → option_copied r ≡ value_of s.hand.form s.hand.null s.hand.values.items
    → MatchOption r (is_value (evaluation s).expr ≡ false) (λ v. (evaluation s).expr ≡ Done v.now)
alone-value s r v heads is = by s.hand.form refl r is where
  by : (form : Option Expr) → s.hand.form ≡ form → (r : Option (Bor Val)) → option_copied r ≡ value_of form s.hand.null s.hand.values.items
      → MatchOption r (is_value (evaluation s).expr ≡ false) (λ v. (evaluation s).expr ≡ Done v.now)
  by (Some e) h None is = value-form s e h v
  by (Some e) h (Some x) is = cc
  by None h None is = cc
  by None h (Some x) is = last-alone s v heads h ∙ (let p : x.now ≡ last_or s.hand.null s.hand.values.items = cc in ap Done (sym p))

-- ---- the depth

-- the part at hand has no call in it
shown-insides : (x : Focus) → insides (shown x) ≡ 0
shown-insides (focus.Value v) = refl
shown-insides (focus.Part e) = (source e).insides

shown-innermost : (x : Focus) (a : ActId) → innermost a (shown x) ≡ a
shown-innermost (focus.Value v) a = refl
shown-innermost (focus.Part e) a = (source e).innermost a

-- the depth is the number of calls
pub deep : (s : Stack) → IsValid s → s.depth ≡ insides (evaluation s).expr
deep s v =
    let p = plug_insides (frames_in s) s.act (shown (focus_in s)) in let q = shown-insides (focus_in s) in let r = v.counted.depth in omega arith

shown-around : (x : Focus) → calls_around (shown x) ≡ 0
shown-around (focus.Value v) = refl
shown-around (focus.Part e) = let p = whole-around e in let q = (source e).insides in omega arith

-- each of the calls stands around the redex
pub all-around : (s : Stack) → IsValid s → s.depth ≡ calls_around (evaluation s).expr
all-around s v =
    let p = plug_around (frames_in s) s.act (shown (focus_in s)) in let q = shown-around (focus_in s) in let r = v.counted.depth in omega arith

-- the activation is the innermost
pub active : (s : Stack) → s.act ≡ innermost (evaluation s).base (evaluation s).expr
active s = sym (plug_innermost (frames_in s) s.act (shown (focus_in s)) ∙ shown-innermost (focus_in s) s.act)

-- ---- a frame around what is put for the redex

-- what is put stands in a frame more
in-pushed : (fs gs : List Frame) (f : Frame) (a b : ActId) (x : Running) → gs ≡ fs ++ f ∷ [] → outside f b ≡ a → in_frames gs b x ≡ in_frames fs a (wrap f b x)
in-pushed fs gs f a b x is act =
    both _ _ _ _
    (rw is (base-snoc fs f b) ∙ ap (base_of fs) act)
    (rw is (plug-snoc fs f b x) ∙ ap (λ c. plug fs c (wrap f b x)) act)

-- whose call is counted
pub pushed-calls : (t u : Stack) (f : Frame) → IsCounted t → frames_in u ≡ frames_in t ++ f ∷ [] → calls (frames_in u) ≡ t.depth + is_call f
pushed-calls t u f c is = let p = calls-snoc (frames_in t) f in let q = c.depth in rw is (omega arith)

outside-none : (f : Frame) (a : ActId) → is_call f ≡ 0 → outside f a ≡ a
outside-none (frame.Inside b) a h = absurd (omega arith)
outside-none _ a h = refl

-- a call
pub called-counted : (s t u : Stack) (b : ActId) → IsValid s → IsWithoutRedex s t → insides (evaluation s).expr < MOST_CALLS
    → frames_in u ≡ frames_in t ++ frame.Inside b ∷ [] → u.depth ≡ t.depth + 1 → IsCounted u
called-counted s t u b v o less is depth =
    let p = pushed-calls t u (frame.Inside b) o.counted is in let q = o.no_deeper in let r = deep s v in
    record { depth = omega arith; small = omega arith }

-- what is put, in a call
pub called : (s t u v : Stack) (x y : Running) → IsWithoutRedex s t → frames_in u ≡ frames_in t ++ frame.Inside t.act ∷ []
    → x ≡ y → evaluation v ≡ with_part u x → evaluation v ≡ rewritten_in (λ _. Inside u.act y) (evaluation s)
called s t u v x y o is same e = e ∙ ap (with_part u) same ∙ in-pushed (frames_in t) (frames_in u) (frame.Inside t.act) t.act u.act y is refl ∙ o.rewrites (Inside u.act y)

-- ---- the redex read off the stack

-- the redex by its layer
pub form-layer : (s : Stack) (e f : Expr) → s.hand.form ≡ Some e → f ≡ e → IsValid s → redex (evaluation s).expr ≡ layer (out-Expr f)
form-layer s e f h same v = form-is s e h v ∙ whole-layer e ∙ ap (λ x. layer (out-Expr x)) (sym same)

-- the form at hand is a row
pub form-row : (s : Stack) (e : Expr) → s.hand.form ≡ Some e → IsValid s → IsRow (out-Expr e)
form-row s e h v = row-of s e (focus-form s e h) v

test-if : (l : Expr-F Doc Expr Handler) (vs : List Val) (v : Val) → IsTest (around l vs (Done v)) → IsIf l
test-if (Expr-F.If e f g) vs v h = tt
test-if (Expr-F.While e f) vs v h = tt
test-if (Expr-F.And e f) vs v h = tt
test-if (Expr-F.Or e f) vs v h = tt
test-if (Expr-F.Apply e es) [] v h = absurd h
test-if (Expr-F.Apply e es) (w ∷ vs) v h = absurd h
test-if _ vs v h = absurd h

row-test : (l : Expr-F Doc Expr Handler) → IsRow l → IsTest (layer l) → ⊥
row-test (Expr-F.If e f g) r h = r
row-test _ r h = h

-- a form at hand is no test
pub form-no-test : (s : Stack) (e : Expr) → s.hand.form ≡ Some e → IsValid s → IsTest (redex (evaluation s).expr) → ⊥
form-no-test s e h v t = row-test (out-Expr e) (form-row s e h v) (rw (form-layer s e e h refl v) at t)

-- so a test has a value at hand
pub test-free : (s : Stack) → IsValid s → IsTest (redex (evaluation s).expr) → s.hand.form ≡ None
test-free s v t = by s.hand.form refl where
  by : (form : Option Expr) → s.hand.form ≡ form → s.hand.form ≡ None
  by None h = h
  by (Some e) h = absurd (form-no-test s e h v t)

-- and stands in an `if`
pub tested : (f : Head) (vs : List Val) (a : ActId) (v : Val) → IsTest (wrap (with_values f vs) a (Done v)) → IsTested f
tested (head.Part e n) vs a v h = test-if (out-Expr e) vs v h
tested (head.Do es n) vs a v h = absurd h
tested (head.Loop e) vs a v h = absurd h
tested head.Last vs a v h = absurd h
tested (head.Inside b) vs a v h = absurd h

-- a form's frame is left as if it were no frame
pub out-part : (s t : Stack) (f : Head) (e : Expr) (n : ℕ) → f ≡ head.Part e n → t ≡ s → t ≡ out_of f s
out-part s t f e n h is = rw (h, is) (let p : s.depth ≡ s.depth - 0 = omega arith in ap (λ (d : ℕ). record s { depth = d }) p)

-- a form around a value that is no store's is a `do`
local-do : (l : Expr-F Doc Expr Handler) (vs : List Val) (v : Val) → IsLocal (around l vs (Done v)) → IsDo l
local-do (Expr-F.Apply e es) [] v h = absurd h
local-do (Expr-F.Apply e es) (w ∷ vs) v h = absurd h
local-do (Expr-F.Lit l) vs v h = tt
local-do (Expr-F.Var x) vs v h = tt
local-do (Expr-F.Do es) vs v h = tt
local-do (Expr-F.Make xs e) vs v h = tt
local-do (Expr-F.Tree d) vs v h = tt
local-do _ vs v h = absurd h

-- so is its frame
pub local-ending : (f : Head) (vs : List Val) (a : ActId) (v : Val) → IsLocal (wrap (with_values f vs) a (Done v)) → IsEnding f
local-ending (head.Part e n) vs a v h = local-do (out-Expr e) vs v h
local-ending (head.Do es n) vs a v h = tt
local-ending (head.Loop e) vs a v h = tt
local-ending head.Last vs a v h = tt
local-ending (head.Inside b) vs a v h = tt

few-do : (l : Expr-F Doc Expr Handler) (n : ℕ) → IsDo l → IsFew l n → n ≡ 0
few-do (Expr-F.Apply e es) n d h = absurd d
few-do (Expr-F.Prim op es) n d h = absurd d
few-do _ n d h = h

-- it holds no value
pub ending-bare : (f : Head) → IsEnding f → IsFit f → held f ≡ 0
ending-bare (head.Part e n) is fit = few-do (out-Expr e) n is fit
ending-bare (head.Do es n) is fit = refl
ending-bare (head.Loop e) is fit = refl
ending-bare head.Last is fit = refl
ending-bare (head.Inside a) is fit = refl

-- ---- what is put

-- a frame that holds no value stands inside of the others
framed-more : (hs : List Head) (vs : List Val) (g : Head) → length vs ≡ all_held hs → held g ≡ 0 → frames_of (hs ++ g ∷ []) vs ≡ frames_of hs vs ++ with_values g [] ∷ []
framed-more hs vs g count bare = ap (frames_of (hs ++ g ∷ [])) (sym (append-nil vs)) ∙ frames-snoc hs g vs [] count (sym bare)

pub frames-pushed : (hs gs : List Head) (h : Hand) (g : Head) → IsEmptyHanded hs h → held g ≡ 0 → gs ≡ hs ++ g ∷ [] → frames gs h ≡ frames hs h ++ with_values g [] ∷ []
frames-pushed hs gs h g empty zero_held is = rw is (framed-more hs h.values.items g empty.count zero_held)

-- and nothing is at hand still
pub empty-pushed : (hs gs : List Head) (h : Hand) (g : Head) → IsEmptyHanded hs h → held g ≡ 0 → gs ≡ hs ++ g ∷ [] → IsEmptyHanded gs h
empty-pushed hs gs h g empty zero_held is = record {
  form = empty.form;
  count = rw is (empty.count ∙ (let p = all_held-snoc hs g in omega (arith, p, zero_held)));
}

put-count : (hs : List Head) (p : Option Head) → IsNoCall p → all_held (with_frame hs p) ≡ all_held hs
put-count hs None n = refl
put-count hs (Some g) n = let q = all_held-snoc hs g in let r = n.1 in omega arith

put-fit : (hs : List Head) (p : Option Head) → IsNoCall p → AllByRecursion IsFit hs → AllByRecursion IsFit (with_frame hs p)
put-fit hs None n fit = fit
put-fit hs (Some g) n fit = fit-snoc hs g fit (fit-none g n.1)

module _ (hs : List Head) (vs : List Val) (d : ℕ) (around : Around hs vs d) where
  put-within : (p : Option Head) (fs : List Frame) (a : ActId) (x : Running) → IsNoCall p → fs ≡ frames_of (with_frame hs p) vs
      → in_frames fs a x ≡ in_frames (frames_of hs vs) a (within p a x)
  put-within None fs a x n is = rw is refl
  put-within (Some g) fs a x n is =
      in-pushed (frames_of hs vs) fs (with_values g []) a a x (is ∙ framed-more hs vs g around.count n.1) (outside-none (with_values g []) a n.0)

  put-calls : (p : Option Head) → IsNoCall p → calls (frames_of (with_frame hs p) vs) ≡ d
  put-calls None n = sym around.depth
  put-calls (Some g) n =
      ap calls (framed-more hs vs g around.count n.1) ∙ calls-snoc (frames_of hs vs) (with_values g []) ∙ (let p = around.depth in let q = n.0 in omega arith)

  module _ (m : Stack) (depth : m.depth ≡ d) (t : ActId → Running) (on : IsPutOn t hs vs m.heads.items m.hand) where
    put-holds : Holds m.heads.items m.hand vs on.put.1
    put-holds = record { count = rw on.heads (around.count ∙ sym (put-count hs on.put.0 on.is.no_call)); hand = on.hand }

    put-at : focus_in m ≡ on.put.1
    put-at = holds-at m.heads.items m.hand vs on.put.1 put-holds

    put-frames : frames_in m ≡ frames_of (with_frame hs on.put.0) vs
    put-frames = holds-frames m.heads.items m.hand vs on.put.1 put-holds ∙ ap (λ gs. frames_of gs vs) on.heads

    -- one walks from what is put
    pub put-ready : IsReady m
    put-ready = record {
      laid = holds-laid m.heads.items m.hand vs on.put.1 put-holds;
      fit = rw on.heads (put-fit hs on.put.0 on.is.no_call around.fit);
      settled = rw put-at on.is.settled;
      counted = record { depth = depth ∙ sym (put-calls on.put.0 on.is.no_call) ∙ ap calls (sym put-frames); small = rw depth around.small };
    }

    -- it stands in the frames
    pub put-same : (a : ActId) → m.act ≡ a → evaluation m ≡ in_frames (frames_of hs vs) a (t a)
    put-same a act =
        rw (act, put-at) (put-within on.put.0 (frames_in m) a (shown on.put.1) on.is.no_call put-frames ∙ ap (in_frames (frames_of hs vs) a) (on.is.same a))

-- a part at hand, in the frames that are there
module _ (s m : Stack) (x : Focus) (empty : IsEmptyHanded s.heads.items s.hand) (fit : AllByRecursion IsFit s.heads.items) (counted : IsCounted s) (settled : IsSettled x)
    (heads : m.heads.items ≡ s.heads.items) (holding : IsHolding s.hand.values.items x m.hand) (act : m.act ≡ s.act) (depth : m.depth ≡ s.depth) where
  held-around : Around s.heads.items s.hand.values.items s.depth
  held-around = record { count = empty.count; fit = fit; depth = counted.depth; small = counted.small }

  held-on : IsPutOn (λ a. shown x) s.heads.items s.hand.values.items m.heads.items m.hand
  held-on = record { put = (None, x); heads = heads; hand = holding; is = record { same = λ a. refl; settled = settled; no_call = tt } }

  pub held-ready : IsReady m
  held-ready = put-ready s.heads.items s.hand.values.items s.depth held-around m depth (λ a. shown x) held-on

  pub held-same : evaluation m ≡ with_part s (shown x)
  held-same = put-same s.heads.items s.hand.values.items s.depth held-around m depth (λ a. shown x) held-on s.act act

-- what is put for a redex that was taken out
pub rewrote : (s t m : Stack) (x : Running) (f : ActId → Running) → IsWithoutRedex s t → m.act ≡ t.act → m.depth ≡ t.depth
    → IsPutOn f t.heads.items t.hand.values.items m.heads.items m.hand → f t.act ≡ x → IsRewritten x s m
rewrote s t m x f out act depth on is =
    let around : Around t.heads.items t.hand.values.items t.depth = record { count = out.empty.count; fit = out.fit; depth = out.counted.depth; small = out.counted.small } in
    record {
      same = put-same t.heads.items t.hand.values.items t.depth around m depth f on t.act act ∙ ap (with_part t) is ∙ out.rewrites x;
      ready = put-ready t.heads.items t.hand.values.items t.depth around m depth f on;
    }

-- a value
pub rewrote-value : (s t m : Stack) (v : Val) → IsWithoutRedex s t → m.heads.items ≡ t.heads.items → IsHolding t.hand.values.items (focus.Value v) m.hand
    → m.act ≡ t.act → m.depth ≡ t.depth → IsRewritten (Done v) s m
rewrote-value s t m v out heads holding act depth =
    rewrote s t m (Done v) (λ a. Done v) out act depth
    (record { put = (None, focus.Value v); heads = heads; hand = holding; is = record { same = λ a. refl; settled = tt; no_call = tt } }) refl

-- ---- a frame and the value at hand, rewritten where they stand

module _ (s m : Stack) (rest : List Head) (f : Head) (was : s.heads.items ≡ rest ++ f ∷ []) (top : Topped s.heads.items rest f s.hand) (v : IsValid s) where
  -- another frame and another part
  pub turned-there : (g : Head) → m.heads.items ≡ rest ++ g ∷ [] → IsTurned f s.hand true g m.hand → m.act ≡ s.act → m.depth ≡ s.depth
      → IsRewritten (local_row (redex (evaluation s).expr)) s m
  turned-there g heads is act depth =
      let around = frame-around s rest f top v was in
      let t : ActId → Running = λ a. local_row (wrap (with_values f top.own) a (Done top.value)) in
      let p = is.1 top.below top.own top.value top.values top.many in
      let on : IsPutOn t rest top.below m.heads.items m.hand = record { put = (Some g, p.0); heads = heads; hand = p.1; is = p.2 } in
      let deep : m.depth ≡ s.depth - is_call (with_values f []) = let q = is.0 in rw (depth, q) (omega arith) in
      record {
        same = put-same rest top.below _ around m deep t on s.act act ∙ ap (λ a. in_frames (frames_of rest top.below) a (t s.act)) (sym (outside-none (with_values f []) s.act is.0))
            ∙ frame-rewrites s rest f top v (t s.act) ∙ ap (λ x. rewritten_in (λ _. local_row x) (evaluation s)) (sym (frame-is s rest f top v));
        ready = put-ready rest top.below _ around m deep t on;
      }

  -- the value alone, and the frame is taken off
  pub left : (u : Stack) → held f ≡ 0 → u.heads.items ≡ rest → u.hand ≡ s.hand → u.act ≡ s.act → u.depth ≡ s.depth → s.hand.form ≡ None → m ≡ out_of f u
      → IsRewritten (shown (focus_in s)) s m
  left u bare heads hand act depth free is =
      let around = frame-around s rest f top v was in
      let t : ActId → Running = λ a. Done top.value in
      let values : m.hand.values.items ≡ top.below ++ top.value ∷ [] = rw (is, hand) (top.values ∙ ap (λ ws. top.below ++ ws ++ top.value ∷ []) (no-values top.own (top.many ∙ bare)) ∙ ap (λ ws. ws ++ top.value ∷ []) (append-nil top.below)) in
      let on : IsPutOn t rest top.below m.heads.items m.hand = record {
        put = (None, focus.Value top.value);
        heads = rw is heads;
        hand = record { values = values; form = rw (is, hand) free };
        is = record { same = λ a. refl; settled = tt; no_call = tt };
      } in
      let deep : m.depth ≡ s.depth - is_call (with_values f []) = rw (is, depth) refl in
      let away : m.act ≡ outside (with_values f []) s.act = rw (is, act) refl in
      record {
        same = put-same rest top.below _ around m deep t on _ away ∙ frame-rewrites s rest f top v (Done top.value) ∙ rw top.focused refl;
        ready = put-ready rest top.below _ around m deep t on;
      } where
        no-values : (ws : List Val) → length ws ≡ 0 → ws ≡ []
        no-values [] h = refl
        no-values (w ∷ ws) h = absurd (omega (arith, h))

-- the redex of a frame that no store decides
module _ (s : Stack) (rest : List Head) (f : Head) (was : s.heads.items ≡ rest ++ f ∷ []) (free : s.hand.form ≡ None) (v : IsValid s) (local : IsLocal (redex (evaluation s).expr)) where
  top-there : Topped s.heads.items rest f s.hand
  top-there = top-of s rest f was free v

  pub local-frame : IsEnding f
  local-frame = let is = frame-is s rest f top-there v in local-ending f top-there.own s.act top-there.value (rw is at local)

  pub local-bare : held f ≡ 0
  local-bare = ending-bare f local-frame (fit-last rest f (rw was at v.fit)).1

  -- another part is put
  pub turned-on : (m : Stack) (g : Head) → m.heads.items ≡ rest ++ g ∷ [] → IsTurned f s.hand true g m.hand → m.act ≡ s.act → m.depth ≡ s.depth
      → IsRewritten (local_row (redex (evaluation s).expr)) s m
  turned-on m = turned-there s m rest f was top-there v

-- nothing but the value is left of it, and nothing has changed
module _ (s t : Stack) (rest : List Head) (f g : Head) (was : s.heads.items ≡ rest ++ f ∷ []) (free : s.hand.form ≡ None) (v : IsValid s) (local : IsLocal (redex (evaluation s).expr))
    (heads : t.heads.items ≡ rest ++ g ∷ []) (is : IsTurned f s.hand false g t.hand) (act : t.act ≡ s.act) (depth : t.depth ≡ s.depth) where
  same-heads : t.heads.items ≡ s.heads.items
  same-heads = heads ∙ ap (λ h. rest ++ h ∷ []) is.0 ∙ sym was

  same-hand : t.hand ≡ s.hand
  same-hand = is.1

  pub still-free : t.hand.form ≡ None
  still-free = rw same-hand free

  pub still-valid : IsValid t
  still-valid = record {
    laid = inr (rw (same-heads, same-hand) (laid-frame s rest f was v));
    fit = rw same-heads v.fit;
    at = rw (same-heads, same-hand) v.at;
    counted = record { depth = rw (same-heads, same-hand, depth) v.counted.depth; small = rw depth v.counted.small };
  }

  pub still-bare : IsTopBare t.heads.items
  still-bare = λ hs h there. local-bare t hs h there still-free still-valid (rw (same-heads, same-hand, act) local)

  -- so the frame is taken off
  pub turned-off : (m : Stack) → IsRewritten (shown (focus_in t)) t m → IsRewritten (local_row (redex (evaluation s).expr)) s m
  turned-off m r =
      let top = top-of s rest f was free v in
      let value : local_row (redex (evaluation s).expr) ≡ shown (focus_in s) = rw (frame-is s rest f top v, top.focused) (is.2 top.own s.act top.value) in
      let put : rewritten_in (λ _. shown (focus_in t)) (evaluation t) ≡ rewritten_in (λ _. local_row (redex (evaluation s).expr)) (evaluation s) =
      rw (same-heads, same-hand, act) (ap (λ x. rewritten_in (λ _. x) (evaluation s)) (sym value)) in
      record { same = r.same ∙ put; ready = r.ready }

-- ---- the walk

-- the walk leaves the expression as it is
pub walked-same : (m u : Stack) → u.act ≡ m.act → IsThere (frames_in m) (shown (focus_in m)) (frames_in u) (focus_in u) → evaluation u ≡ evaluation m
walked-same m u act there = let alike = there.alike in rw act (both _ _ _ _ (alike.base m.act) (alike.expr m.act))

-- and the stack valid
pub walked-valid : (m u : Stack) → u.depth ≡ m.depth → IsCounted m → AllByRecursion IsFit u.heads.items
    → IsThere (frames_in m) (shown (focus_in m)) (frames_in u) (focus_in u) → IsLaid u.heads.items u.hand → IsValid u
walked-valid m u depth counted fit there laid =
    let same = there.alike.calls in
    record {
      laid = inr laid;
      fit = fit;
      at = there.at;
      counted = record { depth = depth ∙ counted.depth ∙ sym same; small = rw depth counted.small };
    }

-- what three facts say of a good answer
pub all_ok : {X E : Type 0} {A B C D : Type 0} (r : Result X E) → (A → B → C → D) → OnOk r A → OnOk r B → OnOk r C → OnOk r D
all_ok (Ok x) f a b c = f a b c
all_ok (Err e) f a b c = tt

-- putting what g gives for the redex is rewriting by g
pub by-redex : (g : Running → Running) (e : Evaluation) → rewritten_in (λ _. g (redex e.expr)) e ≡ rewritten_in g e
by-redex g e = both _ _ _ _ refl (sym (rewritten-redex g e.expr))

-- the same of an equal evaluation
pub put-by : (g : Running → Running) (t : Evaluation) (e f : Evaluation) → t ≡ rewritten_in (λ _. g (redex e.expr)) e → e ≡ f → t ≡ rewritten_in g f
put-by g t e f p q = p ∙ by-redex g e ∙ ap (rewritten_in g) q

-- the same of a stack that is kept where its change was made
pub kept-by : {T E : Type 0} (g : Running → Running) (done : Result T E) (result : Result T E) (s t u : Stack) (e : Evaluation)
    → result ≡ done → OnOk done (u ≡ t) → OnOk done (evaluation t ≡ rewritten_in (λ _. g (redex (evaluation s).expr)) (evaluation s)) → evaluation s ≡ e
    → OnOk result (evaluation u ≡ rewritten_in g e)
kept-by g (Ok x) result s t u e is kept by same = rw is (ap evaluation kept ∙ put-by g (evaluation t) (evaluation s) e by same)
kept-by g (Err x) result s t u e is kept by same = rw is tt

-- ---- a variable's value

row-binding : (l : Expr-F Doc Expr Handler) → IsRow l → IsBinding (layer l) → ⊥
row-binding (Expr-F.Let x e) h b = h
row-binding (Expr-F.Set x e) h b = h
row-binding _ h b = b

-- it has a value at hand
pub binding-free : (s : Stack) → IsValid s → IsBinding (redex (evaluation s).expr) → s.hand.form ≡ None
binding-free s v b = by s.hand.form refl where
  by : (form : Option Expr) → s.hand.form ≡ form → s.hand.form ≡ None
  by None h = h
  by (Some e) h = absurd (row-binding (out-Expr e) (form-row s e h v) (rw (form-layer s e e h refl v) at b))

around-bound : (l : Expr-F Doc Expr Handler) (vs : List Val) (v : Val) (n : ℕ) → IsBinding (around l vs (Done v)) → IsFew l n → (n ≡ 0) × (bound (around l vs (Done v)) ≡ Done v)
around-bound (Expr-F.Let x e) vs v n h few = (few, refl)
around-bound (Expr-F.Set x e) vs v n h few = (few, refl)
around-bound (Expr-F.Apply e es) [] v n h few = absurd h
around-bound (Expr-F.Apply e es) (w ∷ vs) v n h few = absurd h
around-bound _ vs v n h few = absurd h

-- its frame holds none, and it becomes the value
pub frame-bound : (f : Head) (vs : List Val) (a : ActId) (v : Val) → IsBinding (wrap (with_values f vs) a (Done v)) → IsFit f
    → (held f ≡ 0) × (bound (wrap (with_values f vs) a (Done v)) ≡ Done v)
frame-bound (head.Part e n) vs a v h fit = around-bound (out-Expr e) vs v n h fit
frame-bound (head.Do es n) vs a v h fit = absurd h
frame-bound (head.Loop e) vs a v h fit = absurd h
frame-bound head.Last vs a v h fit = absurd h
frame-bound (head.Inside b) vs a v h fit = absurd h

-- of a stack, in its innermost frame
pub binding-bare : (s : Stack) (rest : List Head) (f : Head) → s.heads.items ≡ rest ++ f ∷ [] → IsValid s → IsBinding (redex (evaluation s).expr)
    → (held f ≡ 0) × (bound (redex (evaluation s).expr) ≡ shown (focus_in s))
binding-bare s rest f was v b =
    let top = top-of s rest f was (binding-free s v b) v in
    let is = frame-is s rest f top v in
    let r = frame-bound f top.own s.act top.value (rw is at b) (fit-last rest f (rw was at v.fit)).1 in
    (r.0, rw (is, top.focused) r.1)
