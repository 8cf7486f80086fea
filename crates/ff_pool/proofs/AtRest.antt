-- The browsers of classes at rest, level by level.
use Rattle.std.proofs.Common.{◌≡◌, ◌≢◌, ℕ, suc, ◌+◌, ◌<◌, ◌≤◌, List, [], ◌∷◌, ◌++◌, length, map, All, Contains, get_or, refl, sym, ap, ap₂, subst, ◌∙◌, arith, add-one}
use Rattle.std.specs.List.{remove}
use Rattle.std.proofs.lemmas.List.{get_or_push, get_or_append_left, length-map, length_push, length-append, append_assoc, append-nil, map-append, nil_from_length}
use Rattle.std.proofs.lemmas.List.Elements.{All-contains, All-push, All-head, All-tail, Contains-append_left, Contains-append_right, Contains-push}
use Rattle.ff_machine.specs.State.{State}
use Rattle.ff_machine.specs.Valid.{IsState}
use Rattle.ff_machine.proofs.Empty.{empty_state}
use Rattle.ff_confinement.specs.Worlds.{leader}
use Rattle.ff_pool.specs.Classes.{tops}
use Rattle.ff_pool.proofs.Leaders.{tops_below, tops_more, tops_same, tops_less, tops_grow}
use Rattle.ff_pool.specs.Heads.{Head, head_at, new_head}
use Rattle.ff_pool.specs.Restored.{IsReady, IsFresh, HaveBrowsers}

-- the heads of the levels below l: those that lead have browsers, and the others are left
pub record AreHeads (fuel : ℕ) (leaders : List ℕ) (browsers rest : List State) (heads : List Head) (l : ℕ) : Type 0 where
  pub count : length heads ≡ l
  pub joined : map (λ k. (head_at fuel heads k).state) (tops_below leaders l) ++ rest ≡ browsers
  pub fresh : All (IsFresh fuel) heads

-- a new head, and one of a browser at rest
pub fresh_new : (fuel : ℕ) (h : Head) → h ≡ new_head fuel → IsFresh fuel h
fresh_new fuel h e = subst (IsFresh fuel) (sym e) (record { valid = empty_state fuel; quiet = refl; no_inputs = refl })

pub fresh_of : (fuel : ℕ) (s : State) (h : Head) → h ≡ record { state = s; inbox = [] } → IsState s.budget s → IsReady fuel s → IsFresh fuel h
fresh_of fuel s h e valid ready =
    subst (IsFresh fuel) (sym e) (record { valid = subst (λ n. IsState n s) ready.budget valid; quiet = ready.quiet; no_inputs = refl })

-- states of the heads that stay
states_same : (fuel : ℕ) (leaders : List ℕ) (heads : List Head) (h : Head) (m : ℕ) → m ≤ length heads
    → map (λ k. (head_at fuel (heads ++ h ∷ []) k).state) (tops_below leaders m) ≡ map (λ k. (head_at fuel heads k).state) (tops_below leaders m)
states_same fuel leaders heads h m up = map_on (tops_below leaders m) (tops_less leaders m)
  where
    map_on : (ls : List ℕ) → All (λ l. l < m) ls → map (λ k. (head_at fuel (heads ++ h ∷ []) k).state) ls ≡ map (λ k. (head_at fuel heads k).state) ls
    map_on [] all = refl
    map_on (l ∷ ls) all =
        let less = All-head (λ k. k < m) l ls all in
        ap₂ (λ (s : State) ss. s ∷ ss)
        (ap (λ (g : Head). g.state) (get_or_append_left heads (h ∷ []) (new_head fuel) l (omega (arith, less, up)))) (map_on ls (All-tail (λ k. k < m) l ls all))

-- the first of some, and the others
pub first_left : {X : Type 0} (xs : List X) (x : X) → 0 < length xs → x ≡ get_or xs 0 x → xs ≡ x ∷ remove xs 0
first_left [] x some at = absurd (omega (arith, some))
first_left (y ∷ ys) x some at = ap (λ z. z ∷ ys) (sym at)

module _ {fuel : ℕ} {leaders : List ℕ} {browsers : List State} where
  pub heads_start : (heads : List Head) (rest : List State) → heads ≡ [] → rest ≡ browsers → AreHeads fuel leaders browsers rest heads 0
  heads_start heads rest none all = record {
    count = ap length none;
    joined = all;
    fresh = subst (All (IsFresh fuel)) (sym none) (λ k d less. absurd (omega (arith, less)));
  }

  -- a level that leads gets the first browser that is left
  pub heads_lead : (s : State) (rest old : List State) (heads : List Head) (l : ℕ) (h : Head) → AreHeads fuel leaders browsers old heads l → old ≡ s ∷ rest
      → leader leaders l ≡ l → IsFresh fuel h → h.state ≡ s → AreHeads fuel leaders browsers rest (heads ++ h ∷ []) (l + 1)
  heads_lead s rest old heads l h at first leads_itself fresh same = record {
    count = length_push heads h ∙ ap (λ k. k + 1) at.count;
    joined =
        ap (λ ls. map state_of ls ++ rest) (ap (tops_below leaders) (add-one l) ∙ tops_more leaders l leads_itself)
        ∙ ap (λ ss. ss ++ rest) (map-append state_of (tops_below leaders l) (l ∷ []))
        ∙ ap₂ (λ ss t. (ss ++ t ∷ []) ++ rest) (states_same fuel leaders heads h l (omega (arith, at.count))) (ap (λ (g : Head). g.state) (get_or_push heads h (new_head fuel) l at.count) ∙ same)
        ∙ append_assoc (map (λ k. (head_at fuel heads k).state) (tops_below leaders l)) (s ∷ []) rest
        ∙ ap (λ ss. map (λ k. (head_at fuel heads k).state) (tops_below leaders l) ++ ss) (sym first)
        ∙ at.joined;
    fresh = All-push (IsFresh fuel) heads h at.fresh fresh;
  }
    where
      state_of : ℕ → State
      state_of k = (head_at fuel (heads ++ h ∷ []) k).state

  pub heads_other : (rest : List State) (heads : List Head) (l : ℕ) (h : Head) → AreHeads fuel leaders browsers rest heads l
      → leader leaders l ≢ l → IsFresh fuel h → AreHeads fuel leaders browsers rest (heads ++ h ∷ []) (l + 1)
  heads_other rest heads l h at led fresh = record {
    count = length_push heads h ∙ ap (λ k. k + 1) at.count;
    joined =
        ap (λ ls. map (λ k. (head_at fuel (heads ++ h ∷ []) k).state) ls ++ rest) (ap (tops_below leaders) (add-one l) ∙ tops_same leaders l led)
        ∙ ap (λ ss. ss ++ rest) (states_same fuel leaders heads h l (omega (arith, at.count)))
        ∙ at.joined;
    fresh = All-push (IsFresh fuel) heads h at.fresh fresh;
  }

  -- what is left while a level leads: a browser, that is at rest
  pub heads_wait : (rest : List State) (heads : List Head) (l : ℕ) → AreHeads fuel leaders browsers rest heads l → l < length leaders → leader leaders l ≡ l
      → length (tops leaders) ≡ length browsers → 0 < length rest
  heads_wait rest heads l at lt leads_itself count =
      let a = tops_grow leaders (suc l) (length leaders) (omega (arith, lt)) in
      let b = ap length (tops_more leaders l leads_itself) ∙ length_push (tops_below leaders l) l in
      let c = sym (ap length at.joined) ∙ length-append (map (λ k. (head_at fuel heads k).state) (tops_below leaders l)) rest in
      let d = length-map (tops_below leaders l) (λ k. (head_at fuel heads k).state) in
      omega (arith, a, b, c, d, count)

  pub heads_ready : (s : State) (rest old : List State) (heads : List Head) (l : ℕ) → AreHeads fuel leaders browsers old heads l → old ≡ s ∷ rest → All (IsReady fuel) browsers → IsReady fuel s
  heads_ready s rest old heads l at first ready =
      let left = map (λ k. (head_at fuel heads k).state) (tops_below leaders l) in
      let e : left ++ s ∷ rest ≡ browsers = ap (λ ss. left ++ ss) (sym first) ∙ at.joined in
      All-contains (IsReady fuel) browsers s ready (subst (λ ss. Contains ss s) e (Contains-append_right left (s ∷ rest) s (Contains-append_left (s ∷ []) rest s (Contains-push [] s))))

  -- all of them
  pub heads_done : (rest : List State) (heads : List Head) (l : ℕ) → AreHeads fuel leaders browsers rest heads l → l ≡ length leaders → length (tops leaders) ≡ length browsers
      → HaveBrowsers fuel leaders browsers heads
  heads_done rest heads l at all count = record {
    count = at.count ∙ all;
    browsers_are = sym (append-nil (states (length leaders))) ∙ ap (λ ss. states (length leaders) ++ ss) (sym none) ∙ joined;
    fresh = at.fresh;
  }
    where
      states : ℕ → List State
      states n = map (λ k. (head_at fuel heads k).state) (tops_below leaders n)

      joined : states (length leaders) ++ rest ≡ browsers
      joined = ap (λ n. states n ++ rest) (sym all) ∙ at.joined

      none : rest ≡ []
      none =
          let c = sym (ap length joined) ∙ length-append (states (length leaders)) rest in
          let d = length-map (tops leaders) (λ k. (head_at fuel heads k).state) in
          nil_from_length rest (omega (arith, c, d, count))
