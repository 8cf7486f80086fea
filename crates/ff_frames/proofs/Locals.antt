-- What no store decides, and the branches.
use Rattle.std.proofs.Common.{◌≡◌, ◌+◌, ◌≤◌, ◌++◌, ◌∷◌, ◌∙◌, [], ℕ, zero, suc, List, true, false, drop, length, refl, add-one, arith, Some, None, slice_get}
use Rattle.std.proofs.lemmas.List.{append_assoc, length-append}
use Rattle.ff_tree.specs.declared.tree.Doc.{Doc}
use Rattle.ff_tree.specs.declared.tree.Expr.{Expr, out-Expr}
use Rattle.ff_tree.specs.declared.tree.Expr.TheVariants as expr
use Rattle.ff_tree.specs.declared.tree.Handler.{Handler}
use Rattle.ff_tree.specs.declared.tree.Doc.TheOpen.{Expr-F}
use Rattle.ff_value.specs.declared.ids.ActId.{ActId}
use Rattle.ff_value.specs.declared.value.Val.{Val}
use Rattle.ff_value.specs.declared.value.Val.TheVariants as val
use Rattle.ff_term.specs.Running.{Running, Done, Do, more}
use Rattle.ff_term.specs.Rows.{IsLocal, branch, local_row}
use Rattle.ff_term.specs.Whole.{layer, whole, wholes}
use Rattle.ff_term.proofs.Forms.{whole-While}
use Rattle.ff_frames.specs.declared.frame.Head.{Head}
use Rattle.ff_frames.specs.declared.frame.Head.TheVariants as head
use Rattle.ff_frames.specs.declared.frame.Focus.{Focus}
use Rattle.ff_frames.specs.declared.frame.Focus.TheVariants as focus
use Rattle.ff_frames.specs.declared.hand.Hand.{Hand}
use Rattle.ff_frames.specs.Frames.{around, is_call, shown, wrap}
use Rattle.ff_frames.specs.Heads.{IsHolding, held, with_values}
use Rattle.ff_frames.specs.Seeking.{IsHeld, IsHeldFor, IsRow, Shows}
use Rattle.ff_frames.specs.Rewrites.{IsNoCall, IsPut, IsPutOn, IsRest, IsTurned, test_of}
use Rattle.ff_frames.proofs.Steps.{drop-get}
use Rattle.ff_frames.proofs.Reading.{drop-none}
use Rattle.ff_frames.proofs.Walk.{held-none, held-some}

-- ---- what is put behind what is there

-- a part alone
pub put-alone : (t : ActId → Running) (hs : List Head) (h k : Hand) (x : Focus) → IsHolding h.values.items x k → IsPut t (None, x) → IsPutOn t hs h.values.items hs k
put-alone t hs h k x i p = record { put = (None, x); heads = refl; hand = i; is = p }

-- with a frame around it
pub put-framed : (t : ActId → Running) (hs gs : List Head) (h k : Hand) (g : Head) (x : Focus) → gs ≡ hs ++ g ∷ [] → IsHolding h.values.items x k → IsPut t (Some g, x)
    → IsPutOn t hs h.values.items gs k
put-framed t hs gs h k g x heads i p = record { put = (Some g, x); heads = heads; hand = i; is = p }

-- a value
pub put-value : (v : Val) (t : ActId → Running) (hs : List Head) (h k : Hand) → ((a : ActId) → Done v ≡ t a) → IsHolding h.values.items (focus.Value v) k → IsPutOn t hs h.values.items hs k
put-value v t hs h k same i = put-alone t hs h k (focus.Value v) i (record { same = same; settled = tt; no_call = tt })

-- an expression
pub put-shown : (e : Expr) (t : ActId → Running) (hs : List Head) (h k : Hand) → ((a : ActId) → whole e ≡ t a) → (x : Focus) × Shows e x × IsHolding h.values.items x k → IsPutOn t hs h.values.items hs k
put-shown e t hs h k same (x, s, i) = put-alone t hs h k x i (record { same = λ a. rw s.same (same a); settled = s.settled; no_call = tt })

-- ---- a form that is the redex as it stands

test-around : (l : Expr-F Doc Expr Handler) (e : Expr) → test_of l ≡ Some e → around l [] (whole e) ≡ local_row (layer l)
test-around (Expr-F.While e f) g h = let p : e ≡ g = cc in rw p refl
test-around (Expr-F.And e f) g h = let p : e ≡ g = cc in rw p refl
test-around (Expr-F.Or e f) g h = let p : e ≡ g = cc in rw p refl
test-around _ g h = cc

-- its test
pub put-test : (form : Expr) (hs gs : List Head) (h k : Hand) → IsHeld (test_of (out-Expr form)) h true k → gs ≡ hs ++ head.Part form 0 ∷ []
    → IsPutOn (λ a. local_row (layer (out-Expr form))) hs h.values.items gs k
put-test form hs gs h k on heads =
    let s = held-some (test_of (out-Expr form)) h k on in
    let shows = s.2.1 in
    put-framed (λ a. local_row (layer (out-Expr form))) hs gs h k (head.Part form 0) s.2.0 heads s.2.2
    (record { same = λ a. rw shows.same (test-around (out-Expr form) s.0 s.1); settled = shows.settled; no_call = (refl, refl) })

-- no test is in an empty `do`
none-local : (l : Expr-F Doc Expr Handler) → test_of l ≡ None → IsRow l → IsLocal (layer l) → Done val.Null ≡ local_row (layer l)
none-local (Expr-F.Do []) h r i = refl
none-local (Expr-F.Do (e ∷ es)) h r i = absurd r
none-local (Expr-F.While e f) h r i = cc
none-local (Expr-F.And e f) h r i = cc
none-local (Expr-F.Or e f) h r i = cc
none-local (Expr-F.Lit l) h r i = absurd r
none-local (Expr-F.Let x e) h r i = absurd r
none-local (Expr-F.Set x e) h r i = absurd r
none-local (Expr-F.If e f g) h r i = absurd r
none-local (Expr-F.Apply e es) h r i = absurd r
none-local _ h r i = absurd i

-- and `null` stands for it
pub put-untested : (form : Expr) (hs : List Head) (g h k : Hand) → IsHeld (test_of (out-Expr form)) g false h → IsRow (out-Expr form) → IsLocal (layer (out-Expr form))
    → IsHolding h.values.items (focus.Value val.Null) k → IsPutOn (λ a. local_row (layer (out-Expr form))) hs g.values.items hs k
put-untested form hs g h k off row local i =
    let s = held-none (test_of (out-Expr form)) g h off in
    put-value val.Null (λ a. local_row (layer (out-Expr form))) hs g k (λ a. none-local (out-Expr form) s.0 row local) (rw s.1 at i)

-- ---- a value and the frame around it

-- the frame and the value are rewritten where they stand
turned : (f g : Head) (h k : Hand) (e : Expr) → is_call (with_values f []) ≡ 0 → IsNoCall (Some g)
    → ((own : List Val) (a : ActId) (v : Val) (x : Focus) → shown x ≡ whole e → wrap (with_values g []) a (shown x) ≡ local_row (wrap (with_values f own) a (Done v)))
    → IsHeldFor (held f + 1) e h k → IsTurned f h true g k
turned f g h k e call no_call row on = (
  call,
  λ kept own v values many.
      let s = on kept (own ++ v ∷ []) (values ∙ append_assoc kept own (v ∷ [])) (length-append own (v ∷ []) ∙ (let m = many in omega (arith, m))) in
      (s.0, s.2, record { same = λ a. row own a v s.0 s.1.same; settled = s.1.settled; no_call = no_call }),
)

-- a `do` that waits for a part, at a place in its list
pub record IsDoAt (f : Head) (es : List Expr) (n : ℕ) : Type 0 where
  pub same : (own : List Val) (a : ActId) (v : Val) → wrap (with_values f own) a (Done v) ≡ Do (more (Done v) (wholes (drop n es)))
  pub call : is_call (with_values f []) ≡ 0

-- as a frame of its own
pub do-at : (es : List Expr) (n : ℕ) → IsDoAt (head.Do es n) es n
do-at es n = record { same = λ own a v. refl; call = refl }

-- as the frame of a form
pub form-at : (e : Expr) (es : List Expr) (held : ℕ) → e ≡ expr.Do es → IsDoAt (head.Part e held) es 1
form-at e es held is = record { same = λ own a v. rw (is, expr.outs-Do es) refl; call = refl }

-- the parts after the next wait in a frame
pub rest-at : (es : List Expr) (n : ℕ) → IsRest es n (head.Do es (n + 1))
rest-at es n = record { same = λ a x. refl; no_call = (refl, refl) }

-- its part there is put at hand, and the parts after it wait
pub turned-next : (f g : Head) (es : List Expr) (n : ℕ) (h k : Hand) → IsDoAt f es n → IsRest es n g
    → (e : Expr) × (slice_get es n ≡ Some e) × IsHeldFor (held f + 1) e h k → IsTurned f h true g k
turned-next f g es n h k is r (e, there, on) =
    turned f g h k e is.call r.no_call (λ own a v x shows. rw (is.same own a v, drop-get es n e there, ← shows) (rw add-one at (r.same a (shown x)))) on

past-none : {A : Type 0} (xs : List A) (n : ℕ) → length xs ≤ n → slice_get xs n ≡ None
past-none [] n h = refl
past-none (x ∷ xs) zero h = absurd (omega (arith, h))
past-none (x ∷ xs) (suc n) h = past-none xs n (omega (arith, h))

-- there is none, and the value is left
pub turned-last : (f : Head) (es : List Expr) (n : ℕ) (h : Hand) → IsDoAt f es n → length es ≤ n → IsTurned f h false f h
turned-last f es n h is past = (refl, refl, λ own a v. rw (is.same own a v, drop-none es n (past-none es n past)) refl)

-- ---- the branches

-- the body of a loop
pub put-turn : (form e f : Expr) (vs : List Val) (v : Val) (hs gs : List Head) (h k : Hand) → form ≡ expr.While e f
    → (x : Focus) × Shows f x × IsHolding h.values.items x k → gs ≡ hs ++ head.Loop form ∷ []
    → IsPutOn (λ a. branch true (around (out-Expr form) vs (Done v))) hs h.values.items gs k
put-turn form e f vs v hs gs h k is (x, s, i) heads =
    put-framed (λ a. branch true (around (out-Expr form) vs (Done v))) hs gs h k (head.Loop form) x heads i
    (record { same = λ a. rw (is, expr.outs-While e f, s.same, whole-While e f) refl; settled = s.settled; no_call = (refl, refl) })
