-- The bridge from worlds of copies to runs: between two inputs of a run the world is at rest, and
-- an input that arrives, is drained and is taken gives the run's entry and its part of the work.
use Rattle.std.proofs.Common.{◌≡◌, ℕ, ◌+◌, ◌<◌, ◌≤◌, Bool, true, false, cond, not, ◌&&◌, ◌||◌, ◌==◌, Option, Some, None, List, [], ◌∷◌, ◌++◌, length, sum_by, refl, sym, ap, ap₂, subst, ◌∙◌, arith, true≢false, ◌⊎◌, inl, inr, zero-add}
use Rattle.std.specs.Option.{option_eq}
use Rattle.std.proofs.lemmas.Bool.{cases_lt, eqb-true, eq-eqb, ne_eqb, and_parts, and_from}
use Rattle.std.proofs.lemmas.List.Folds.{list_all_at}
use Rattle.ff_confinement.specs.Runs.{Machine, handle_seen}
use Rattle.ff_confinement.specs.Copies.{Levels, at_level}
use Rattle.ff_contract.specs.Lists.{below}
use Rattle.ff_confinement.specs.Turns.{Reactor, machine_of}
use Rattle.ff_confinement.specs.Standings.{Standing, Offering, fresh, state_after, handles, puts_own, stay_alike, leads, turns_all}
use Rattle.ff_confinement.specs.Worlds.{Copy, World, leader, offer, levels, new_leader, copy_at, new_world, offered, emptied, has_work, world_arrive, world_take, world_drain, world_left, finish, left, Ends, IsWorld, AreAtRest, AreOffers, OfferOk}
use Rattle.ff_confinement.specs.Rested.{offers_of, IsRested, IsTaking}
use Rattle.ff_confinement.proofs.Below.{length-each, length-below, get_or-below, get_or-each, sum_agree_below, list_all_below}
use Rattle.ff_confinement.proofs.Standings.{state_start, state_more, stay_more}
use Rattle.ff_confinement.proofs.Finishing.{finish_rest, finish_offered, left_rest, left_offered}
use Rattle.ff_confinement.proofs.Classes.{IsSame, option_same, option_equal, leader-split, length-split, new_leader_same, new_leader_apart, together_parts, together}
use Rattle.ff_confinement.proofs.Worlds.{copy-arrive, copy-take, copy-drain, copy-new, leader-new, levels-new, leaders-arrive, leaders-take, leaders-drain, arrive_ok, drained_rests}

-- two tests that mean the same are equal
same_test : (a b : Bool) → (a ≡ true → b ≡ true) → (b ≡ true → a ≡ true) → a ≡ b
same_test true b to back = sym (to refl)
same_test false true to back = back refl
same_test false false to back = refl

module _ {I O S : Type 0} {r : Reactor I O S} {most : ℕ} {InputOk : I → Type 0} {StateOk : S → Type 0} (law : Ends r most InputOk StateOk) (v : Levels I O) (offers : Offering I) (from : Standing S) (same : I → I → Bool) (decides : IsSame same) where
  abbrev m : Machine I O S
  m = machine_of r most

  offer_of : (before : List I) (i : I) (l : ℕ) → l < v.count → offer (offers_of offers v.count before i) l ≡ offers before l i
  offer_of before i l lt = get_or-each (λ k. offers before k i) v.count l None lt

  -- offers of well formed inputs
  pub offers_ok : (before : List I) (i : I) → ((l : ℕ) (x : I) → offers before l i ≡ Some x → InputOk x) → AreOffers InputOk v.count (offers_of offers v.count before i)
  offers_ok before i ok = record {
    count = length-each (λ l. offers before l i) v.count;
    ok = λ k d lt.
        let long = length-each (λ l. offers before l i) v.count in
        let e = get_or-each (λ l. offers before l i) v.count k d (omega arith) in
        subst (OfferOk InputOk) (sym e) (good k (offers before k i) refl);
  }
    where
      good : (k : ℕ) (o : Option I) → offers before k i ≡ o → OfferOk InputOk o
      good k None e = tt
      good k (Some x) e = ok k x e

  -- a world at rest that stands there is at rest before all inputs
  pub rested_from : (w : World I O S) → levels w ≡ v.count → AreAtRest r w
      → ((l : ℕ) → l < levels w → (copy_at r w l).state ≡ from.states l)
      → ((k l : ℕ) → k < levels w → l < levels w → (leader w.leaders k == leader w.leaders l) ≡ from.alike k l)
      → ((l : ℕ) → l < levels w → (copy_at r w l).outputs ≡ []) → IsRested r most v offers from same w []
  rested_from w count rests states classes taken = record {
    count = count;
    rests = rests;
    states = λ l lt. states l lt ∙ sym (state_start m v offers from l);
    classes = λ k l in_k in_l. classes k l in_k in_l ∙ sym (and_end (from.alike k l));
    taken = taken;
  }
    where
      and_end : (b : Bool) → (b && true) ≡ b
      and_end true = refl
      and_end false = refl

  module _ (w : World I O S) (before : List I) (i : I) (is : IsWorld r most InputOk StateOk w) (at : IsRested r most v offers from same w before) where
    abbrev arrived : World I O S
    arrived = world_arrive r same w (offers_of offers v.count before i)

    in_levels : (l : ℕ) → l < v.count → l < levels w
    in_levels l lt = let e = at.count in omega (arith, e)

    arrived_levels : levels arrived ≡ levels w
    arrived_levels = ap length (leaders-arrive r same w (offers_of offers v.count before i)) ∙ length-split same decides w.leaders (offers_of offers v.count before i)

    arrived_leader : (l : ℕ) → l < levels w → leader arrived.leaders l ≡ new_leader same w.leaders (offers_of offers v.count before i) l
    arrived_leader l lt = ap (λ ls. leader ls l) (leaders-arrive r same w (offers_of offers v.count before i)) ∙ leader-split same decides w.leaders (offers_of offers v.count before i) l lt

    arrived_copy : (l : ℕ) → l < levels w → copy_at r arrived l ≡ offered r (copy_at r w l) (offers before l i)
    arrived_copy l lt = copy-arrive r same w (offers_of offers v.count before i) l lt ∙ ap (offered r (copy_at r w l)) (offer_of before i l (let e = at.count in omega (arith, e)))

    -- the classes are then the levels that see the same, this input included
    arrived_classes : (k l : ℕ) → k < levels w → l < levels w → (leader arrived.leaders k == leader arrived.leaders l) ≡ stay_alike m v offers from same k l (before ++ i ∷ [])
    arrived_classes k l in_k in_l = same_test (leader arrived.leaders k == leader arrived.leaders l) (stay_alike m v offers from same k l (before ++ i ∷ [])) to back
      where
        in_v : (j : ℕ) → j < levels w → j < v.count
        in_v j lt = let e = at.count in omega (arith, e)

        to : (leader arrived.leaders k == leader arrived.leaders l) ≡ true → stay_alike m v offers from same k l (before ++ i ∷ []) ≡ true
        to e =
            let one = eqb-true (leader arrived.leaders k) (leader arrived.leaders l) e in
            let parts = together_parts same decides w.leaders (offers_of offers v.count before i) k l (new_leader_apart same decides w.leaders (offers_of offers v.count before i) k l (sym (arrived_leader k in_k) ∙ one ∙ arrived_leader l in_l)) in
            stay_more m v offers from same k l before i
            ∙ and_from (stay_alike m v offers from same k l before) (option_eq same (offers before k i) (offers before l i))
            (sym (at.classes k l in_k in_l) ∙ eq-eqb (leader w.leaders k) (leader w.leaders l) parts.0)
            (option_equal same decides (offers before k i) (offers before l i) (sym (offer_of before i k (in_v k in_k)) ∙ parts.1 ∙ offer_of before i l (in_v l in_l)))

        back : stay_alike m v offers from same k l (before ++ i ∷ []) ≡ true → (leader arrived.leaders k == leader arrived.leaders l) ≡ true
        back e =
            let parts = and_parts (stay_alike m v offers from same k l before) (option_eq same (offers before k i) (offers before l i)) (sym (stay_more m v offers from same k l before i) ∙ e) in
            let one = eqb-true (leader w.leaders k) (leader w.leaders l) (at.classes k l in_k in_l ∙ parts.0) in
            let seen_same = offer_of before i k (in_v k in_k) ∙ option_same same decides (offers before k i) (offers before l i) parts.1 ∙ sym (offer_of before i l (in_v l in_l)) in
            eq-eqb (leader arrived.leaders k) (leader arrived.leaders l)
            (arrived_leader k in_k ∙ new_leader_same same decides w.leaders (offers_of offers v.count before i) k l (together same decides w.leaders (offers_of offers v.count before i) k l one seen_same) ∙ sym (arrived_leader l in_l))

    -- where a level's copy comes to
    arrived_end : (l : ℕ) → l < levels w → let h = handle_seen m (state_after m v offers from l before) (offers before l i) in
        finish r most (copy_at r arrived l) ≡ record { state = h.after; inbox = []; outputs = h.outputs }
    arrived_end l lt =
        let grown : Copy I O S → Copy I O S = λ d. let h = handle_seen m d.state (offers before l i) in record { state = h.after; inbox = []; outputs = d.outputs ++ h.outputs } in
        let from : S → List O → Copy I O S = λ s os. let h = handle_seen m s (offers before l i) in record { state = h.after; inbox = []; outputs = os ++ h.outputs } in
        ap (finish r most) (arrived_copy l lt)
        ∙ finish_offered r most (copy_at r w l) (offers before l i)
        ∙ ap grown (finish_rest r most (copy_at r w l) (at.rests l lt))
        ∙ ap₂ from (at.states l lt) (at.taken l lt)

    -- after an input that arrived and was drained, nothing was taken yet
    pub taking_begun : AreOffers InputOk (levels w) (offers_of offers v.count before i) → IsTaking r most v offers from same (world_drain r most arrived) before i 0
    taking_begun good = record {
      count = drained_levels ∙ arrived_levels ∙ at.count;
      rests = drained_rests law arrived (arrive_ok law same decides w (offers_of offers v.count before i) is good);
      states = λ k lt.
          ap (λ c. c.state) (copy-drain r most arrived k (in_arrived k lt) ∙ arrived_end k (in_w k lt)) ∙ sym (state_more m v offers from k before i);
      classes = λ j k in_j in_k.
          ap (λ ls. leader ls j == leader ls k) (leaders-drain r most arrived) ∙ arrived_classes j k (in_w j in_j) (in_w k in_k);
      done = λ k lt none. absurd (omega arith);
      waiting = λ k lt all. ap (λ c. c.outputs) (copy-drain r most arrived k (in_arrived k lt) ∙ arrived_end k (in_w k lt));
    }
      where
        drained_levels : levels (world_drain r most arrived) ≡ levels arrived
        drained_levels = ap length (leaders-drain r most arrived)

        in_arrived : (k : ℕ) → k < levels (world_drain r most arrived) → k < levels arrived
        in_arrived k lt = let e = drained_levels in omega (arith, e)

        in_w : (k : ℕ) → k < levels (world_drain r most arrived) → k < levels w
        in_w k lt = let e = drained_levels in let f = arrived_levels in omega (arith, e, f)

    -- the leader of a class is the least level that sees the same
    arrived_least : (l : ℕ) → l < levels w → IsWorld r most InputOk StateOk arrived → (leader arrived.leaders l == l) ≡ leads m v offers from same l (before ++ i ∷ [])
    arrived_least l lt good = same_test (leader arrived.leaders l == l) (leads m v offers from same l (before ++ i ∷ [])) to back
      where
        in_arrived : (k : ℕ) → k < levels w → k < levels arrived
        in_arrived k lt' = let e = arrived_levels in omega (arith, e)

        test : ℕ → Bool
        test k = not (stay_alike m v offers from same k l (before ++ i ∷ []))

        to : (leader arrived.leaders l == l) ≡ true → leads m v offers from same l (before ++ i ∷ []) ≡ true
        to e = list_all_below test l (λ k less.
            let leads = eqb-true (leader arrived.leaders l) l e in
            let up = good.led.before k (in_arrived k (omega arith)) in
            let apart : (leader arrived.leaders k == leader arrived.leaders l) ≡ false = ne_eqb (leader arrived.leaders k) (leader arrived.leaders l) (λ one. omega (arith, one, leads, up)) in
            ap not (sym (arrived_classes k l (omega arith) lt) ∙ apart))

        back : leads m v offers from same l (before ++ i ∷ []) ≡ true → (leader arrived.leaders l == l) ≡ true
        back e = at_least (cases_lt (leader arrived.leaders l) l)
          where
            at_least : (leader arrived.leaders l < l) ⊎ (l ≤ leader arrived.leaders l) → (leader arrived.leaders l == l) ≡ true
            at_least (inr more) = let less = good.led.before l (in_arrived l lt) in eq-eqb (leader arrived.leaders l) l (omega arith)
            at_least (inl less) =
                let k = leader arrived.leaders l in
                let itself = good.led.itself l (in_arrived l lt) in
                let alike : stay_alike m v offers from same k l (before ++ i ∷ []) ≡ true = sym (arrived_classes k l (omega arith) lt) ∙ eq-eqb (leader arrived.leaders k) (leader arrived.leaders l) itself in
                let fails : test k ≡ false = ap not alike in
                let long = length-below l in
                absurd (true≢false (sym e ∙ list_all_at test (below l) k 0 (omega arith) (ap test (get_or-below l k 0 less) ∙ fails)))

    -- what is left then is this input's part of the work
    pub rested_left : AreOffers InputOk (levels w) (offers_of offers v.count before i) → world_left r most arrived ≡ turns_all m v offers from same before i
    unfolding world_left
    rested_left good =
        ap (λ n. sum_by (λ l. cond (leader arrived.leaders l == l) (left r most (copy_at r arrived l)) 0) (below n)) (arrived_levels ∙ at.count)
        ∙ sum_agree_below (λ l. cond (leader arrived.leaders l == l) (left r most (copy_at r arrived l)) 0) (λ l. cond (leads m v offers from same l (before ++ i ∷ [])) ((handles m v offers from l before i).turns) 0) v.count
        (λ l lt. ap₂ (λ b n. cond b n 0) (arrived_least l (in_levels l lt) (arrive_ok law same decides w (offers_of offers v.count before i) is good)) (turns l (in_levels l lt)))
      where
        turns : (l : ℕ) → l < levels w → left r most (copy_at r arrived l) ≡ (handles m v offers from l before i).turns
        turns l lt =
            ap (left r most) (arrived_copy l lt)
            ∙ left_offered r most (copy_at r w l) (offers before l i)
            ∙ ap₂ (λ n c. n + (handle_seen m c.state (offers before l i)).turns) (left_rest r most (copy_at r w l) (at.rests l lt)) (finish_rest r most (copy_at r w l) (at.rests l lt))
            ∙ zero-add (handle_seen m (copy_at r w l).state (offers before l i)).turns
            ∙ ap (λ s. (handle_seen m s (offers before l i)).turns) (at.states l lt)

  -- a level's outputs that are of its own level are its entry of the run
  pub taking_entry : (w : World I O S) (before : List I) (i : I) (l : ℕ) → IsTaking r most v offers from same w before i l → l < v.count → at_level v l (copy_at r w l).outputs ≡ puts_own m v offers from l before i
  taking_entry w before i l at lt =
      let e = at.count in
      ap (at_level v l) (at.waiting l (omega arith) (omega arith))

  -- one level more is taken
  pub taking_more : (w : World I O S) (before : List I) (i : I) (l : ℕ) → IsTaking r most v offers from same w before i l → l < v.count → IsTaking r most v offers from same (world_take r w l) before i (l + 1)
  taking_more w before i l at lt = record {
    count = taken_levels ∙ at.count;
    rests = λ k lt'. ap (has_work r) (copy-take r w l k (in' k lt')) ∙ rests (k == l) (copy_at r w k) ∙ at.rests k (in' k lt');
    states = λ k lt'. ap (λ c. c.state) (copy-take r w l k (in' k lt')) ∙ states (k == l) (copy_at r w k) ∙ at.states k (in' k lt');
    classes = λ j k in_j in_k. ap (λ ls. leader ls j == leader ls k) (leaders-take r w l) ∙ at.classes j k (in' j in_j) (in' k in_k);
    done = λ k lt' less. ap (λ c. c.outputs) (copy-take r w l k (in' k lt')) ∙ emptied_at k (in' k lt') less (cases_lt k l);
    waiting = λ k lt' more.
        let other : (k == l) ≡ false = ne_eqb k l (λ one. omega arith) in
        ap (λ c. c.outputs) (copy-take r w l k (in' k lt')) ∙ ap (λ b. (cond b (emptied r (copy_at r w k)) (copy_at r w k)).outputs) other ∙ at.waiting k (in' k lt') (omega arith);
  }
    where
      taken_levels : levels (world_take r w l) ≡ levels w
      taken_levels = ap length (leaders-take r w l)

      in' : (k : ℕ) → k < levels (world_take r w l) → k < levels w
      in' k lt' = let e = taken_levels in omega (arith, e)

      rests : (b : Bool) (c : Copy I O S) → has_work r (cond b (emptied r c) c) ≡ has_work r c
      rests true c = refl
      rests false c = refl

      states : (b : Bool) (c : Copy I O S) → (cond b (emptied r c) c).state ≡ c.state
      states true c = refl
      states false c = refl

      emptied_at : (k : ℕ) → k < levels w → k < l + 1 → (k < l) ⊎ (l ≤ k) → (cond (k == l) (emptied r (copy_at r w k)) (copy_at r w k)).outputs ≡ []
      emptied_at k lt' less (inl below_l) =
          let other : (k == l) ≡ false = ne_eqb k l (λ one. omega arith) in
          ap (λ b. (cond b (emptied r (copy_at r w k)) (copy_at r w k)).outputs) other ∙ at.done k lt' below_l
      emptied_at k lt' less (inr here) = ap (λ b. (cond b (emptied r (copy_at r w k)) (copy_at r w k)).outputs) (eq-eqb k l (omega arith))

  -- all levels were taken: the world is at rest again
  pub taking_done : (w : World I O S) (before : List I) (i : I) → IsTaking r most v offers from same w before i v.count → IsRested r most v offers from same w (before ++ i ∷ [])
  taking_done w before i at = record {
    count = at.count;
    rests = at.rests;
    states = at.states;
    classes = at.classes;
    taken = λ l lt. let e = at.count in at.done l lt (omega arith);
  }

-- a new world is at rest before all inputs
pub rested_new : {I O S : Type 0} {r : Reactor I O S} {most : ℕ} {InputOk : I → Type 0} {StateOk : S → Type 0} (law : Ends r most InputOk StateOk) (v : Levels I O) (offers : Offering I) (same : I → I → Bool) (decides : IsSame same)
    → IsRested r most v offers (fresh (machine_of r most)) same (new_world r v.count) []
rested_new {r = r} {most = most} law v offers same decides = rested_from law v offers (fresh (machine_of r most)) same decides (new_world r v.count) (levels-new r v.count)
    (λ l lt. ap (has_work r) (copy-new r v.count l (in' l lt)) ∙ ap (λ b. not b || false) law.start_quiet)
    (λ l lt. ap (λ c. c.state) (copy-new r v.count l (in' l lt)))
    (λ k l in_k in_l. eq-eqb (leader (new_world r v.count).leaders k) (leader (new_world r v.count).leaders l) (leader-new r v.count k (in' k in_k) ∙ sym (leader-new r v.count l (in' l in_l))))
    (λ l lt. ap (λ c. c.outputs) (copy-new r v.count l (in' l lt)))
  where
    in' : (l : ℕ) → l < levels (new_world r v.count) → l < v.count
    in' l lt = let e = levels-new r v.count in omega (arith, e)
