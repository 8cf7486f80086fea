-- Inputs are drawn and multi-executed, one after another.
use Rattle.std.proofs.Common.{◌≡◌, ℕ, zero, suc, ◌+◌, ◌<◌, ◌≤◌, ◌⊎◌, inl, inr, Option, Some, None, Result, Ok, Err, IfOk, IfErr, Vec, Global, List, [], ◌∷◌, ◌++◌, refl, sym, ap, ap₂, subst, ◌∙◌, append_assoc, append-nil, arith}
use Rattle.std.proofs.lemmas.Bool.{cases_eq}
use Rattle.std.proofs.lemmas.Option.{same_Some}
use Rattle.ff_confinement.proofs.Lines.{text_start, text_more}
use Rattle.ff_confinement.proofs.Sharing.{work_start, work_more, work_grows}
use Rattle.ff_lattice.specs.Order.{Order}
use Rattle.ff_value.specs.declared.input.Input.{Input}
use Rattle.ff_value.specs.Same.{same_input}
use Rattle.ff_pool.specs.Pooled.{Pooled}
use Rattle.ff_confinement.specs.Standings.{fresh}
use Rattle.ff_confinement.specs.Text.{text_of}
use Rattle.ff_confinement.proofs.Standings.{puts_fresh, turns_fresh}
use Rattle.ff_policy.specs.Assignment.{Assignment}
use Rattle.ff_gen.specs.Workload.{following, number_at}
use Rattle.ff_session.specs.Levels.{levels, machine}
use Rattle.ff_session.specs.Giving.{Gives}
use Rattle.ff_session.specs.Once.{gives_once}
use Rattle.ff_session.specs.Multi.{seen_by, multi_text, multi_turns, copies_entry, copies_turns, AreCopiesAt}
use Rattle.ff_status.specs.declared.status.TraceFault.{TraceFault}
use Rattle.ff_writing.proofs.DrawnLines.{same_front}
use Rattle.ff_io.specs.Port.{Told}
use Rattle.ff_status.specs.declared.status.Status.{Status}
use Rattle.ff_status.specs.declared.status.Status.TheVariants.{Done, Leaks, Usage, Policy, Trace, ReadFault, WriteFault, ShelfFault, NoMemory, Saved, Release}
use Rattle.ff_writing.specs.Checked.{IsPut}
use Rattle.ff_writing.specs.Generated.{IsDrawn, AreDrawn, RanDrawn, AtMostDrawn, Generates, summary}

-- ---- lines give inputs in one way

abbrev input_or_none : Result (Option Input) TraceFault → Option Input
input_or_none (Ok given) = given
input_or_none (Err fault) = None

drawn_once : (order : Order) (number : ℕ) (i j : Input) → IsDrawn order number i → IsDrawn order number j → i ≡ j
drawn_once order number i j a b =
    let same : b.line ≡ a.line = same_front b.line a.line 10 10 (sym b.line_is ∙ a.line_is) in
    same_Some i j (ap input_or_none (gives_once order a.line (Ok (Some i)) (Ok (Some j)) a.gives (subst (λ line. Gives order line (Ok (Some j))) same b.gives)))

all_once : (order : Order) (start n : ℕ) (is js : List Input) → AreDrawn order start n is → AreDrawn order start n js → is ≡ js
all_once order start zero is js a b = a ∙ sym b
all_once order start (suc n) is js (before, i, is_are, drawn, last) (before', j, js_are, drawn', last') =
    is_are ∙ ap₂ (λ xs x. xs ++ x ∷ []) (all_once order start n before before' drawn drawn') (drawn_once order (number_at start (suc n)) i j last last') ∙ sym js_are

-- fewer lines give the first of the inputs of more
drawn_front : (order : Order) (start k n : ℕ) (is js : List Input) → k ≤ n → AreDrawn order start k is → AreDrawn order start n js → (rest : List Input) × (js ≡ is ++ rest)
drawn_front order start k zero is js low few many =
    let none : k ≡ 0 = omega arith in
    ([], many ∙ sym (subst (λ m. AreDrawn order start m is) none few) ∙ sym (append-nil is))
drawn_front order start k (suc n) is js low few (before, j, js_are, drawn, last) = from (cases_eq k (suc n)) (λ less. drawn_front order start k n is before less few drawn)
  where
    from : (k ≡ suc n) ⊎ (k ≡ suc n → ⊥) → (k ≤ n → (rest : List Input) × (before ≡ is ++ rest)) → (rest : List Input) × (js ≡ is ++ rest)
    from (inl all) shorter = ([], sym (all_once order start (suc n) is js (subst (λ m. AreDrawn order start m is) all few) (before, j, js_are, drawn, last)) ∙ sym (append-nil is))
    from (inr more) shorter =
        let front = shorter (omega arith) in
        (front.0 ++ j ∷ [], js_are ∙ ap (λ xs. xs ++ j ∷ []) front.1 ∙ append_assoc is front.0 (j ∷ []))

-- the turns of fewer inputs are at most those of more
pub at_most : (p : Assignment) (start k n before turns : ℕ) (is : List Input) → k ≤ n → AreDrawn p.order start k is → turns ≤ before + multi_turns p is → AtMostDrawn p start n before turns
at_most p start k n before turns is low few within js many =
    let front = drawn_front p.order start k n is js low few many in
    let grows = work_grows (machine p) (levels p) same_input is front.0 in
    let same = ap (multi_turns p) front.1 in
    omega (arith, grows, same)

-- what follows for the text
pub ran_then : {p : Assignment} {start n before turns : ℕ} {P Q : List ℕ → Type 0} → RanDrawn p start n before turns P → ((text : List ℕ) → P text → Q text) → RanDrawn p start n before turns Q
ran_then {p} run follows = record { drawn = run.drawn; are_drawn = run.are_drawn; counted = run.counted; held = follows (multi_text p run.drawn) run.held }

-- the summary was made and written, or there was no memory for it
pub generated : {E : Type 0} (p : Assignment) (start n before turns : ℕ) (made : Result (Vec ℕ Global) E) (told now : Told) (status : Status)
    → IfOk made (λ sum. RanDrawn p start n before turns (λ text. sum.items ≡ summary p.order n text)) → AtMostDrawn p start n before turns
    → IfOk made (λ sum. IsPut sum.items told now status) → IfErr made (λ refused. status ≡ NoMemory) → IfErr made (λ refused. now ≡ told) → Generates p start n told now before turns status
generated p start n before turns (Err refused) told now status ran most put none same = subst (Generates p start n told now before turns) (sym none) (same, most)
generated p start n before turns (Ok sum) told now Done ran most put none same = ran_then ran (λ text is. subst (λ bytes. IsPut bytes told now Done) is put)
generated p start n before turns (Ok sum) told now WriteFault ran most put none same = ran_then ran (λ text is. subst (λ bytes. IsPut bytes told now WriteFault) is put)
generated p start n before turns (Ok sum) told now NoMemory ran most put none same = (put, most)
generated p start n before turns (Ok sum) told now (Policy fault) ran most put none same = put
generated p start n before turns (Ok sum) told now (Trace number fault) ran most put none same = put
generated p start n before turns (Ok sum) told now Usage ran most put none same = put
generated p start n before turns (Ok sum) told now Leaks ran most put none same = put
generated p start n before turns (Ok sum) told now ReadFault ran most put none same = put
generated p start n before turns (Ok sum) told now ShelfFault ran most put none same = put
generated p start n before turns (Ok sum) told now (Saved fault) ran most put none same = put
generated p start n before turns (Ok sum) told now (Release fault) ran most put none same = put

-- ---- the loop over the lines

text_longer : (p : Assignment) (is : List Input) (i : Input) → multi_text p (is ++ i ∷ []) ≡ multi_text p is ++ copies_entry p (seen_by p) (fresh (machine p)) is i
text_longer p is i = text_more (machine p) (levels p) is i ∙ ap (λ os. multi_text p is ++ text_of (levels p) os) (sym (puts_fresh (machine p) (levels p) is i))

work_longer : (p : Assignment) (is : List Input) (i : Input) → multi_turns p (is ++ i ∷ []) ≡ multi_turns p is + copies_turns p (seen_by p) (fresh (machine p)) is i
work_longer p is i = work_more (machine p) (levels p) same_input is i ∙ ap (λ n. multi_turns p is + n) (sym (turns_fresh (machine p) (levels p) same_input is i))

-- Where it stands: so many inputs were drawn and multi-executed.
pub record IsDrawing (p : Assignment) (start before draws : ℕ) (pool : Pooled) (text : List ℕ) (turns k : ℕ) : Type 0 where
  pub drawn : List Input
  pub are_drawn : AreDrawn p.order start k drawn
  pub draws_is : draws ≡ number_at start k
  pub at : AreCopiesAt p (seen_by p) (fresh (machine p)) pool drawn
  pub text_is : text ≡ multi_text p drawn
  pub counted : turns ≡ before + multi_turns p drawn

pub drawing_start : (p : Assignment) (start before draws : ℕ) (pool : Pooled) (text : List ℕ) → draws ≡ number_at start 0 → AreCopiesAt p (seen_by p) (fresh (machine p)) pool [] → text ≡ [] → IsDrawing p start before draws pool text before 0
drawing_start p start before draws pool text draws_is at none = record {
  drawn = [];
  are_drawn = refl;
  draws_is = draws_is;
  at = at;
  text_is = none ∙ sym (text_start (machine p) (levels p));
  counted = let zero_is = work_start (machine p) (levels p) same_input in omega (arith, zero_is);
}

module _ (p : Assignment) (start before draws : ℕ) (pool : Pooled) (text : List ℕ) (turns k : ℕ) (on : IsDrawing p start before draws pool text turns k) where
  pub drawing_at_most : (inputs : ℕ) → k ≤ inputs → AtMostDrawn p start inputs before turns
  drawing_at_most inputs low = let counted = on.counted in at_most p start k inputs before turns on.drawn low on.are_drawn (omega arith)

  module _ (next : ℕ) (i : Input) (following_is : next ≡ following draws) (drawn : IsDrawn p.order next i) where
    -- one input more
    one_more : AreDrawn p.order start (suc k) (on.drawn ++ i ∷ [])
    one_more = (on.drawn, i, refl, on.are_drawn, subst (λ n. IsDrawn p.order n i) (following_is ∙ ap following on.draws_is) drawn)

    pub drawing_more : (pool' : Pooled) (longer : List ℕ) (more : ℕ) → AreCopiesAt p (seen_by p) (fresh (machine p)) pool' (on.drawn ++ i ∷ []) → longer ≡ text ++ copies_entry p (seen_by p) (fresh (machine p)) on.drawn i → more ≡ turns + copies_turns p (seen_by p) (fresh (machine p)) on.drawn i
        → IsDrawing p start before next pool' longer more (k + 1)
    drawing_more pool' longer more at added count =
        let one : suc k ≡ k + 1 = omega arith in
        subst (IsDrawing p start before next pool' longer more) one (record {
          drawn = on.drawn ++ i ∷ [];
          are_drawn = one_more;
          draws_is = following_is ∙ ap following on.draws_is;
          at = at;
          text_is = added ∙ ap (λ bs. bs ++ copies_entry p (seen_by p) (fresh (machine p)) on.drawn i) on.text_is ∙ sym (text_longer p on.drawn i);
          counted = let so_far = on.counted in let sum = work_longer p on.drawn i in omega (arith, so_far, sum, count);
        })

    -- and where it found no memory
    pub drawing_within : (inputs more : ℕ) → k < inputs → more ≤ turns + copies_turns p (seen_by p) (fresh (machine p)) on.drawn i → AtMostDrawn p start inputs before more
    drawing_within inputs more low few =
        let so_far = on.counted in
        let sum = work_longer p on.drawn i in
        at_most p start (suc k) inputs before more (on.drawn ++ i ∷ []) (omega arith) one_more (omega (arith, so_far, sum, few))
