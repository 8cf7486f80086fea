-- The walk to the redex, step by step.
use Rattle.std.proofs.Common.{◌≡◌, ◌+◌, ◌<◌, ◌++◌, ◌∷◌, ℕ, suc, Bool, true, false, List, [], length, Option, None, Some, slice_get, refl, sym, ap, ◌∙◌, arith}
use Rattle.std.proofs.lemmas.List.{append-nil, append_assoc, length-append}
use Rattle.std.specs.List.{AllByRecursion}
use Rattle.ff_tree.specs.declared.tree.Doc.{Doc}
use Rattle.ff_tree.specs.declared.tree.Expr.{Expr, out-Expr}
use Rattle.ff_tree.specs.declared.tree.Handler.{Handler}
use Rattle.ff_tree.specs.declared.tree.Doc.TheOpen.{Expr-F}
use Rattle.ff_value.specs.declared.value.Val.{Val}
use Rattle.ff_term.specs.Running.{Running, Done}
use Rattle.ff_term.specs.Whole.{whole}
use Rattle.ff_frames.specs.Frame.{Frame}
use Rattle.ff_frames.specs.declared.frame.Focus.{Focus}
use Rattle.ff_frames.specs.declared.frame.Focus.TheVariants as focus
use Rattle.ff_frames.specs.Frames.{outside, base_of, plug, shown}
use Rattle.ff_frames.specs.Loads.{inner, load, frame_load, loads}
use Rattle.ff_frames.specs.Frame as frame
use Rattle.ff_frames.specs.declared.frame.Head.{Head}
use Rattle.ff_frames.specs.declared.frame.Head.TheVariants as head
use Rattle.ff_frames.specs.declared.hand.Hand.{Hand}
use Rattle.ff_frames.specs.Heads.{IsEmptyHanded, IsFew, IsFit, IsHolding, IsLaid, all_held, at_hand, form_in, frames, frames_of, held, value_in, with_values}
use Rattle.ff_frames.specs.Seeking.{Alike, Opens, Feeds, IsFed, IsFull, IsHeld, IsTopFull, IsNearer, IsStep, Shows}
use Rattle.ff_frames.proofs.Heads.{Holds, all_held-snoc, fit-last, fit-snoc, frames-snoc, holds-at, holds-frames, holds-laid, laid-holds, parted}
use Rattle.ff_frames.specs.Frames.{operands}
use Rattle.ff_frames.proofs.Plugs.{base-snoc, plug-snoc, calls-snoc, full-snoc}
use Rattle.ff_frames.proofs.Steps.{feeds, length-snoc, opens}

loads-snoc : (fs : List Frame) (f : Frame) → loads (fs ++ f ∷ []) ≡ loads fs + frame_load f
loads-snoc [] f = omega arith
loads-snoc (g ∷ fs) f = let p = loads-snoc fs f in omega arith

-- a stack stands for what it does
pub alike : (fs : List Frame) (x : Running) → Alike fs x fs x
alike fs x = record { base = λ a. refl; expr = λ a. refl; calls = refl }

-- an operand is entered
pub alike-opened : (fs gs : List Frame) (f : Frame) (e : Expr) (x : Focus) → gs ≡ fs ++ f ∷ [] → Opens e f x → Alike fs (whole e) gs (shown x)
alike-opened fs gs f e x g o = record {
  base = λ a. rw (g, base-snoc fs f a) (ap (base_of fs) (o.outside a));
  expr = λ a. rw (g, plug-snoc fs f a (shown x), o.outside a) (ap (plug fs a) (o.expr a));
  calls = let p = calls-snoc fs f in let q = o.call in rw g (omega arith);
}

-- less is left then
pub less-opened : (fs gs : List Frame) (f : Frame) (e : Expr) (x : Focus) → gs ≡ fs ++ f ∷ [] → Opens e f x
    → loads gs + load x < loads fs + inner (out-Expr e)
less-opened fs gs f e x g o = let p = loads-snoc fs f in let q = o.less in rw g (omega arith)

module _ (fs gs rest : List Frame) (f g : Frame) (v : Val) (x : Focus) (was : fs ≡ rest ++ f ∷ []) (is : gs ≡ rest ++ g ∷ []) (o : Feeds f v g x) where
  pub alike-fed : Alike fs (Done v) gs (shown x)
  alike-fed = record {
    base = λ a. rw (was, is, base-snoc rest f a, base-snoc rest g a) (ap (base_of rest) (o.outside a));
    expr = λ a. rw (was, is, plug-snoc rest f a (Done v), plug-snoc rest g a (shown x), o.outside a) (ap (plug rest (outside f a)) (o.expr a));
    calls = let p = calls-snoc rest f in let q = calls-snoc rest g in let r = o.call in rw (was, is) (omega arith);
  }

  pub less-fed : loads gs + load x < loads fs + 0
  less-fed = let p = loads-snoc rest f in let q = loads-snoc rest g in let r = o.less in rw (was, is) (omega arith)

-- the innermost frame is the last
pub full-last : (gs rest : List Frame) (g : Frame) → gs ≡ rest ++ g ∷ [] → IsFull g → IsTopFull gs
full-last gs rest g is h = rw (is, full-snoc rest g) h

-- a step that enters the first operand
pub step-opened : (fs gs : List Frame) (f : Frame) (e : Expr) (x : Focus) → gs ≡ fs ++ f ∷ [] → Opens e f x → IsNearer fs (focus.Part e) gs x
step-opened fs gs f e x g o = record { alike = alike-opened fs gs f e x g o; settled = o.settled; less = less-opened fs gs f e x g o }

-- ---- heads and a hand

-- what was put at hand
pub held-some : (o : Option Expr) (h k : Hand) → IsHeld o h true k → (e : Expr) × (o ≡ Some e) × ((x : Focus) × Shows e x × IsHolding h.values.items x k)
held-some None h k is = cc
held-some (Some e) h k is = (e, refl, is.1)

-- nothing was
pub held-none : (o : Option Expr) (h k : Hand) → IsHeld o h false k → (o ≡ None) × (k ≡ h)
held-none None h k is = (refl, is.1)
held-none (Some e) h k is = cc

-- the heads are laid, and stand one step nearer or at the redex
pub record Went (fs : List Frame) (x : Focus) (on : Bool) (gs : List Head) (k : Hand) : Type 0 where
  pub laid : IsLaid gs k
  pub step : IsStep fs x on (frames gs k) (at_hand gs k)

went : (fs : List Frame) (x : Focus) (on : Bool) (gs : List Head) (k : Hand) (kept : List Val) (y : Focus) → Holds gs k kept y → IsStep fs x on (frames_of gs kept) y
    → Went fs x on gs k
went fs x on gs k kept y holds step = record {
  laid = holds-laid gs k kept y holds;
  step = rw (holds-frames gs k kept y holds, holds-at gs k kept y holds) step;
}

-- the first operand of a form is entered
pub went-down : (hs gs : List Head) (h k : Hand) (e : Expr) → IsEmptyHanded hs h → gs ≡ hs ++ head.Part e 0 ∷ []
    → IsHeld (slice_get (operands (out-Expr e)) 0) h true k → Went (frames hs h) (focus.Part e) true gs k
went-down hs gs h k e empty is on =
    let vs = h.values.items in
    let s = held-some (slice_get (operands (out-Expr e)) 0) h k on in
    let x = s.2.0 in
    let count : length vs ≡ all_held gs = rw is (empty.count ∙ (let p = all_held-snoc hs (head.Part e 0) in omega (arith, p))) in
    let framed : frames_of gs vs ≡ frames_of hs vs ++ frame.Part e [] ∷ [] =
    rw is (ap (frames_of (hs ++ head.Part e 0 ∷ [])) (sym (append-nil vs)) ∙ frames-snoc hs (head.Part e 0) vs [] empty.count refl) in
    let opened : Opens e (frame.Part e []) x = opens e [] (Some s.0) x s.1 refl s.2.1 in
    went (frames hs h) (focus.Part e) true gs k vs x (record { count = count; hand = s.2.2 })
    (step-opened (frames_of hs vs) (frames_of gs vs) (frame.Part e []) e x framed opened)

-- the part at hand where no form is
value_at : (x : Focus) → None ≡ form_in x → (v : Val) × (x ≡ focus.Value v)
value_at (focus.Value v) h = (v, refl)
value_at (focus.Part e) h = cc

-- a hand with a value behind those of the frames, the innermost frame's last
pub record Topped (hs rest : List Head) (f : Head) (h : Hand) : Type 0 where
  pub below : List Val
  pub own : List Val
  pub value : Val
  pub values : h.values.items ≡ below ++ own ++ value ∷ []
  pub under : length below ≡ all_held rest
  pub many : length own ≡ held f
  pub framed : frames hs h ≡ frames_of rest below ++ with_values f own ∷ []
  pub focused : at_hand hs h ≡ focus.Value value

pub topped : (hs rest : List Head) (f : Head) (h : Hand) → hs ≡ rest ++ f ∷ [] → h.form ≡ None → IsLaid hs h → Topped hs rest f h
topped hs rest f h was free laid =
    let l = laid-holds hs h laid in
    let kept = l.0 in
    let v = value_at (at_hand hs h) (sym free ∙ l.1.hand.form) in
    let p = parted kept (all_held rest) (held f) (l.1.count ∙ ap all_held was ∙ all_held-snoc rest f) in
    record {
      below = p.front;
      own = p.back;
      value = v.0;
      values = l.1.hand.values ∙ ap (λ vs. vs ++ value_in (at_hand hs h)) p.whole ∙ ap (λ x. p.front ++ p.back ++ value_in x) v.1;
      under = p.in_front;
      many = p.in_back;
      framed = holds-frames hs h kept (at_hand hs h) l.1 ∙ ap (frames_of hs) p.whole ∙ ap (λ gs. frames_of gs (p.front ++ p.back)) was ∙ frames-snoc rest f p.front p.back p.in_front p.in_back;
      focused = v.1;
    }

-- nothing is left of the innermost frame
module _ (hs rest : List Head) (f : Head) (h : Hand) (was : hs ≡ rest ++ f ∷ []) (laid : IsLaid hs h) (t : Topped hs rest f h) where
  went-nowhere : (gs : List Head) (k : Hand) → gs ≡ hs → k ≡ h → IsFull (with_values f t.own) → Went (frames hs h) (focus.Value t.value) false gs k
  went-nowhere gs k same held full =
      rw (same, held) (record {
        laid = laid;
        step = rw t.focused (record { alike = alike (frames hs h) (Done t.value); at = full-last (frames hs h) (frames_of rest t.below) (with_values f t.own) t.framed full });
      })

-- the operand after the one at hand is entered
went-on : (hs rest : List Head) (e : Expr) (n : ℕ) (h k : Hand)
    → IsHeld (slice_get (operands (out-Expr e)) (suc n)) h true k
    → (t : Topped hs rest (head.Part e n) h) → Went (frames hs h) (focus.Value t.value) true (rest ++ head.Part e (suc n) ∷ []) k
went-on hs rest e n h k on t =
    let gs = rest ++ head.Part e (suc n) ∷ [] in
    let s = held-some (slice_get (operands (out-Expr e)) (suc n)) h k on in
    let x = s.2.0 in
    let kept = t.below ++ (t.own ++ t.value ∷ []) in
    let many : length (t.own ++ t.value ∷ []) ≡ suc n = length-snoc t.own t.value ∙ ap suc t.many in
    let count : length kept ≡ all_held gs = length-append t.below (t.own ++ t.value ∷ []) ∙ (let p = all_held-snoc rest (head.Part e (suc n)) in let q = t.under in omega (arith, p, q, many)) in
    let hand : IsHolding kept x k = record { values = s.2.2.values ∙ ap (λ vs. vs ++ value_in x) (t.values ∙ append_assoc t.below t.own (t.value ∷ [])); form = s.2.2.form } in
    let framed : frames_of gs kept ≡ frames_of rest t.below ++ frame.Part e (t.own ++ t.value ∷ []) ∷ [] = frames-snoc rest (head.Part e (suc n)) t.below (t.own ++ t.value ∷ []) t.under many in
    let fed : Feeds (frame.Part e t.own) t.value (frame.Part e (t.own ++ t.value ∷ [])) x =
    feeds e t.own (t.own ++ t.value ∷ []) t.value (Some s.0) x (ap (λ m. slice_get (operands (out-Expr e)) (suc m)) t.many ∙ s.1) refl s.2.1 in
    let fs = frames hs h in
    let new = frames_of gs kept in
    went fs (focus.Value t.value) true gs k kept x (record { count = count; hand = hand })
    (record {
      alike = alike-fed fs new (frames_of rest t.below) (frame.Part e t.own) (frame.Part e (t.own ++ t.value ∷ [])) t.value x t.framed framed fed;
      settled = fed.settled;
      less = less-fed fs new (frames_of rest t.below) (frame.Part e t.own) (frame.Part e (t.own ++ t.value ∷ [])) t.value x t.framed framed fed;
    })

-- a value at hand in the innermost frame
pub went-up : (hs gs rest : List Head) (f g : Head) (h k : Hand) (on : Bool) → hs ≡ rest ++ f ∷ [] → gs ≡ rest ++ g ∷ [] → h.form ≡ None → IsLaid hs h → IsFed f h on g k
    → Went (frames hs h) (at_hand hs h) on gs k
went-up hs gs rest f g h k on was is free laid fed =
    let t = topped hs rest f h was free laid in
    rw t.focused (by f on was fed t) where
      by : (f : Head) (on : Bool) → hs ≡ rest ++ f ∷ [] → IsFed f h on g k → (t : Topped hs rest f h) → Went (frames hs h) (focus.Value t.value) on gs k
      by (head.Part e n) true was fed t = rw (is, fed.1) (went-on hs rest e n h k fed.0 t)
      by (head.Part e n) false was fed t =
          let r = held-none (slice_get (operands (out-Expr e)) (suc n)) h k fed.0 in
          went-nowhere hs rest (head.Part e n) h was laid t gs k (is ∙ ap (λ i. rest ++ i ∷ []) fed.1 ∙ sym was) r.1
          (ap (λ m. slice_get (operands (out-Expr e)) (suc m)) t.many ∙ r.0)
      by (head.Do es n) false was fed t = went-nowhere hs rest (head.Do es n) h was laid t gs k (is ∙ ap (λ i. rest ++ i ∷ []) fed.1 ∙ sym was) fed.2 tt
      by (head.Loop e) false was fed t = went-nowhere hs rest (head.Loop e) h was laid t gs k (is ∙ ap (λ i. rest ++ i ∷ []) fed.1 ∙ sym was) fed.2 tt
      by head.Last false was fed t = went-nowhere hs rest head.Last h was laid t gs k (is ∙ ap (λ i. rest ++ i ∷ []) fed.1 ∙ sym was) fed.2 tt
      by (head.Inside a) false was fed t = went-nowhere hs rest (head.Inside a) h was laid t gs k (is ∙ ap (λ i. rest ++ i ∷ []) fed.1 ∙ sym was) fed.2 tt
      by (head.Do es n) true was fed t = cc
      by (head.Loop e) true was fed t = cc
      by head.Last true was fed t = cc
      by (head.Inside a) true was fed t = cc

-- there is a value behind those of the innermost frame
pub enough-held : (hs rest : List Head) (f : Head) (h : Hand) → hs ≡ rest ++ f ∷ [] → h.form ≡ None → IsLaid hs h → held f < length h.values.items
enough-held hs rest f h was free laid =
    let t = topped hs rest f h was free laid in
    let n : length h.values.items ≡ length (t.below ++ t.own) + length (t.value ∷ []) = ap length t.values ∙ length-append (t.below ++ t.own) (t.value ∷ []) in
    let m = length-append t.below t.own in let o = t.many in omega (arith, n, m, o)

few-more : (l : Expr-F Doc Expr Handler) (n : ℕ) (e : Expr) → slice_get (operands l) (suc n) ≡ Some e → IsFew l (suc n)
few-more (Expr-F.Apply f es) n e h = tt
few-more (Expr-F.Prim op es) n e h = tt
few-more (Expr-F.Let x f) n e h = cc
few-more (Expr-F.Set x f) n e h = cc
few-more (Expr-F.If f g g') n e h = cc
few-more (Expr-F.Do []) n e h = cc
few-more (Expr-F.Do (f ∷ fs)) n e h = cc
few-more _ n e h = cc

fed-fit : (f g : Head) (h k : Hand) (on : Bool) → IsFed f h on g k → IsFit f → IsFit g
fed-fit (head.Part e n) g h k true fed fit =
    let s = held-some (slice_get (operands (out-Expr e)) (suc n)) h k fed.0 in rw fed.1 (few-more (out-Expr e) n s.0 s.1)
fed-fit (head.Part e n) g h k false fed fit = rw fed.1 fit
fed-fit (head.Do es n) g h k on (off, same, kept) fit = rw same tt
fed-fit (head.Loop e) g h k on (off, same, kept) fit = rw same tt
fed-fit head.Last g h k on (off, same, kept) fit = rw same tt
fed-fit (head.Inside a) g h k on (off, same, kept) fit = rw same tt

-- a step leaves all frames fit
pub went-fit : (hs gs rest : List Head) (f g : Head) (h k : Hand) (on : Bool) → hs ≡ rest ++ f ∷ [] → gs ≡ rest ++ g ∷ [] → IsFed f h on g k
    → AllByRecursion IsFit hs → AllByRecursion IsFit gs
went-fit hs gs rest f g h k on was is fed fit =
    let all = fit-last rest f (rw was at fit) in rw is (fit-snoc rest g all.0 (fed-fit f g h k on fed all.1))
