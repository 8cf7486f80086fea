-- Worlds of copies: each step keeps them well formed, leaves what they come to as it is, and counts
-- the turns that are left down.
use Rattle.std.proofs.Common.{◌≡◌, ℕ, ◌+◌, ◌<◌, Bool, true, false, cond, not, ◌||◌, ◌==◌, Option, None, List, [], ◌∷◌, ◌++◌, length, refl, sym, ap, ap₂, subst, ◌∙◌, arith, true≢false}
use Rattle.std.specs.List.{sum_by}
use Rattle.std.proofs.lemmas.Bool.{eqb-true, eq-eqb, ne_eqb}
use Rattle.std.specs.List.{cons_option}
use Rattle.std.proofs.lemmas.List.{get_or_default}
use Rattle.std.proofs.lemmas.List.Elements.{All-get_or}
use Rattle.ff_contract.specs.Lists.{below}
use Rattle.ff_confinement.specs.Turns.{Reactor, settle}
use Rattle.ff_confinement.specs.Worlds.{Copy, World, leader, offer, levels, each, new_leader, split, new_copy, copy_at, new_world, taken, turned_once, stepped, step_copy, offered, waits, works, has_work, step_turns, emptied, world_arrive, world_turn, world_take, finish, left, world_drain, world_left, world_steps, Ends, IsCopy, AreLeaders, IsWorld, AreAtRest, OfferOk, AreOffers}
use Rattle.ff_confinement.proofs.Below.{length-each, get_or-each, each_agree, each_is, sum_one_below, sum_none_below}
use Rattle.ff_confinement.proofs.Finishing.{finish_rest, left_rest, finish_step, left_step, finish_alike, finish_inbox, new_copy_ok, step_copy_ok, offered_ok, emptied_ok, finish_ok}
use Rattle.ff_confinement.proofs.Classes.{IsSame, together_parts, new_leader_within, new_leader_together, leader-split, length-split, split_leads}

module _ {I O S : Type 0} (r : Reactor I O S) where
  -- the world with these copies and leaders
  abbrev world_of : (ℕ → Copy I O S) → ℕ → List ℕ → World I O S
  world_of f n leaders = record { copies = each f n; leaders = leaders }

  -- copies after each step
  pub copy-arrive : (same : I → I → Bool) (w : World I O S) (offers : List (Option I)) (k : ℕ) → k < levels w → copy_at r (world_arrive r same w offers) k ≡ offered r (copy_at r w k) (offer offers k)
  unfolding world_arrive
  copy-arrive same w offers k lt = get_or-each (λ j. offered r (copy_at r w j) (offer offers j)) (levels w) k (new_copy r) lt

  pub copy-turn : (w : World I O S) (l k : ℕ) → k < levels w → copy_at r (world_turn r w l) k ≡ cond (leader w.leaders k == leader w.leaders l) (step_copy r (copy_at r w k)) (copy_at r w k)
  unfolding world_turn
  copy-turn w l k lt = get_or-each (λ j. cond (leader w.leaders j == leader w.leaders l) (step_copy r (copy_at r w j)) (copy_at r w j)) (levels w) k (new_copy r) lt

  pub copy-take : (w : World I O S) (l k : ℕ) → k < levels w → copy_at r (world_take r w l) k ≡ cond (k == l) (emptied r (copy_at r w k)) (copy_at r w k)
  unfolding world_take
  copy-take w l k lt = get_or-each (λ j. cond (j == l) (emptied r (copy_at r w j)) (copy_at r w j)) (levels w) k (new_copy r) lt

  pub copy-drain : (most : ℕ) (w : World I O S) (k : ℕ) → k < levels w → copy_at r (world_drain r most w) k ≡ finish r most (copy_at r w k)
  unfolding world_drain
  copy-drain most w k lt = get_or-each (λ j. finish r most (copy_at r w j)) (levels w) k (new_copy r) lt

  -- leaders after each step
  pub leaders-arrive : (same : I → I → Bool) (w : World I O S) (offers : List (Option I)) → (world_arrive r same w offers).leaders ≡ split same w.leaders offers
  unfolding world_arrive
  leaders-arrive same w offers = refl

  pub leaders-turn : (w : World I O S) (l : ℕ) → (world_turn r w l).leaders ≡ w.leaders
  unfolding world_turn
  leaders-turn w l = refl

  pub leaders-take : (w : World I O S) (l : ℕ) → (world_take r w l).leaders ≡ w.leaders
  unfolding world_take
  leaders-take w l = refl

  pub leaders-drain : (most : ℕ) (w : World I O S) → (world_drain r most w).leaders ≡ w.leaders
  unfolding world_drain
  leaders-drain most w = refl

  -- the copies and the leaders of a new world
  pub copy-new : (n k : ℕ) → k < n → copy_at r (new_world r n) k ≡ new_copy r
  unfolding new_world
  copy-new n k lt = get_or-each (λ l. new_copy r) n k (new_copy r) lt

  pub leader-new : (n k : ℕ) → k < n → leader (new_world r n).leaders k ≡ 0
  unfolding new_world
  leader-new n k lt = get_or-each {X = ℕ} (λ l. 0) n k 0 lt

  pub levels-new : (n : ℕ) → levels (new_world r n) ≡ n
  unfolding new_world
  levels-new n = length-each {X = ℕ} (λ l. 0) n

  -- a world's copies are those at its levels
  pub copies_are : (w : World I O S) → length w.copies ≡ levels w → w.copies ≡ each (λ k. copy_at r w k) (levels w)
  copies_are w long = each_is (λ k. copy_at r w k) w.copies (levels w) long (λ k d lt. get_or_default w.copies k d (new_copy r) (omega (arith, long)))

module _ {I O S : Type 0} {r : Reactor I O S} {most : ℕ} {InputOk : I → Type 0} {StateOk : S → Type 0} (law : Ends r most InputOk StateOk) where
  abbrev Ok : World I O S → Type 0
  Ok w = IsWorld r most InputOk StateOk w

  -- a world that is given by its copies
  world_ok : (f : ℕ → Copy I O S) (n : ℕ) (leaders : List ℕ) → length leaders ≡ n → AreLeaders leaders
      → ((l : ℕ) → l < n → IsCopy r most InputOk StateOk (f l))
      → ((l : ℕ) → l < n → (f l).state ≡ (f (leader leaders l)).state)
      → ((l : ℕ) → l < n → (f l).inbox ≡ (f (leader leaders l)).inbox)
      → Ok (world_of r f n leaders)
  world_ok f n leaders long led ok states inboxes = record {
    count = length-each f n ∙ sym long;
    led = led;
    ok = λ l lt. let e = at l (omega (arith, long)) in subst (IsCopy r most InputOk StateOk) (sym e) (ok l (omega (arith, long)));
    states_alike = λ l lt.
        let less = led.before l lt in
        ap (λ c. c.state) (at l (omega (arith, long))) ∙ states l (omega (arith, long)) ∙ sym (ap (λ c. c.state) (at (leader leaders l) (omega (arith, long, less))));
    inboxes_alike = λ l lt.
        let less = led.before l lt in
        ap (λ c. c.inbox) (at l (omega (arith, long))) ∙ inboxes l (omega (arith, long)) ∙ sym (ap (λ c. c.inbox) (at (leader leaders l) (omega (arith, long, less))));
  }
    where
      at : (l : ℕ) → l < n → copy_at r (world_of r f n leaders) l ≡ f l
      at l lt = get_or-each f n l (new_copy r) lt

  -- levels of one class stand alike
  pub states_same : (w : World I O S) → Ok w → (k l : ℕ) → k < levels w → l < levels w → leader w.leaders k ≡ leader w.leaders l → (copy_at r w k).state ≡ (copy_at r w l).state
  states_same w is k l in_k in_l e = is.states_alike k in_k ∙ ap (λ j. (copy_at r w j).state) e ∙ sym (is.states_alike l in_l)

  pub inboxes_same : (w : World I O S) → Ok w → (k l : ℕ) → k < levels w → l < levels w → leader w.leaders k ≡ leader w.leaders l → (copy_at r w k).inbox ≡ (copy_at r w l).inbox
  inboxes_same w is k l in_k in_l e = is.inboxes_alike k in_k ∙ ap (λ j. (copy_at r w j).inbox) e ∙ sym (is.inboxes_alike l in_l)

  -- a leader is a level
  pub leader_in : (w : World I O S) → Ok w → (l : ℕ) → l < levels w → leader w.leaders l < levels w
  leader_in w is l lt = let less = is.led.before l lt in omega (arith, less)

  pub new_world_ok : (n : ℕ) → Ok (new_world r n)
  unfolding new_world
  new_world_ok n = world_ok (λ l. new_copy r) n (each {X = ℕ} (λ l. 0) n) (length-each {X = ℕ} (λ l. 0) n)
      (record {
        before = λ l lt. let e = get_or-each {X = ℕ} (λ j. 0) n l 0 (let long = length-each {X = ℕ} (λ j. 0) n in omega (arith, long)) in omega (arith, e);
        itself = λ l lt.
            let e = get_or-each {X = ℕ} (λ j. 0) n l 0 (let long = length-each {X = ℕ} (λ j. 0) n in omega (arith, long)) in
            let zero_in : 0 < n = let long = length-each {X = ℕ} (λ j. 0) n in omega (arith, long) in
            ap (leader (each {X = ℕ} (λ j. 0) n)) e ∙ get_or-each {X = ℕ} (λ j. 0) n 0 0 zero_in ∙ sym e;
      })
      (λ l lt. new_copy_ok law) (λ l lt. refl) (λ l lt. refl)

  pub arrive_ok : (same : I → I → Bool) → IsSame same → (w : World I O S) (offers : List (Option I)) → Ok w → AreOffers InputOk (levels w) offers → Ok (world_arrive r same w offers)
  unfolding world_arrive
  arrive_ok same decides w offers is good =
      world_ok (λ k. offered r (copy_at r w k) (offer offers k)) (levels w) (split same w.leaders offers) (length-split same decides w.leaders offers) (split_leads same decides w.leaders offers)
      (λ l lt. offered_ok law (copy_at r w l) (offer offers l) (is.ok l lt) (All-get_or (OfferOk InputOk) offers l None (let e = good.count in omega (arith, e)) good.ok))
      (λ l lt. states_same w is l (leader (split same w.leaders offers) l) lt (within l lt) (parted l lt).0)
      (λ l lt. ap₂ (λ is o. is ++ cons_option o []) (inboxes_same w is l (leader (split same w.leaders offers) l) lt (within l lt) (parted l lt).0) (parted l lt).1)
    where
      at : (l : ℕ) → l < levels w → leader (split same w.leaders offers) l ≡ new_leader same w.leaders offers l
      at l lt = leader-split same decides w.leaders offers l lt

      within : (l : ℕ) → l < levels w → leader (split same w.leaders offers) l < levels w
      within l lt = let e = at l lt in let less = new_leader_within same decides w.leaders offers l in omega (arith, e, less)

      parted : (l : ℕ) → l < levels w → (leader w.leaders l ≡ leader w.leaders (leader (split same w.leaders offers) l)) × (offer offers l ≡ offer offers (leader (split same w.leaders offers) l))
      parted l lt =
          let parts = together_parts same decides w.leaders offers (new_leader same w.leaders offers l) l (new_leader_together same decides w.leaders offers l) in
          (sym (ap (leader w.leaders) (at l lt) ∙ parts.0), sym (ap (offer offers) (at l lt) ∙ parts.1))

  pub turn_ok : (w : World I O S) (l : ℕ) → Ok w → Ok (world_turn r w l)
  unfolding world_turn
  turn_ok w l is =
      world_ok f (levels w) w.leaders refl is.led
      (λ k lt. ok (leader w.leaders k == leader w.leaders l) (copy_at r w k) (is.ok k lt))
      (λ k lt. ap (λ b. (cond b (step_copy r (copy_at r w k)) (copy_at r w k)).state) (class k lt)
      ∙ states (leader w.leaders (leader w.leaders k) == leader w.leaders l) (copy_at r w k) (copy_at r w (leader w.leaders k)) (is.states_alike k lt) (is.inboxes_alike k lt))
      (λ k lt. ap (λ b. (cond b (step_copy r (copy_at r w k)) (copy_at r w k)).inbox) (class k lt)
      ∙ inboxes (leader w.leaders (leader w.leaders k) == leader w.leaders l) (copy_at r w k) (copy_at r w (leader w.leaders k)) (is.states_alike k lt) (is.inboxes_alike k lt))
    where
      f : ℕ → Copy I O S
      f k = cond (leader w.leaders k == leader w.leaders l) (step_copy r (copy_at r w k)) (copy_at r w k)

      class : (k : ℕ) → k < levels w → (leader w.leaders k == leader w.leaders l) ≡ (leader w.leaders (leader w.leaders k) == leader w.leaders l)
      class k lt = ap (λ j. j == leader w.leaders l) (sym (is.led.itself k lt))

      ok : (b : Bool) (c : Copy I O S) → IsCopy r most InputOk StateOk c → IsCopy r most InputOk StateOk (cond b (step_copy r c) c)
      ok true c good = step_copy_ok law c good
      ok false c good = good

      states : (b : Bool) (c d : Copy I O S) → c.state ≡ d.state → c.inbox ≡ d.inbox → (cond b (step_copy r c) c).state ≡ (cond b (step_copy r d) d).state
      states true c d s j = ap₂ (λ t js. (stepped r t js).state) s j
      states false c d s j = s

      inboxes : (b : Bool) (c d : Copy I O S) → c.state ≡ d.state → c.inbox ≡ d.inbox → (cond b (step_copy r c) c).inbox ≡ (cond b (step_copy r d) d).inbox
      inboxes true c d s j = ap₂ (λ t js. (stepped r t js).inbox) s j
      inboxes false c d s j = j

  pub take_ok : (w : World I O S) (l : ℕ) → Ok w → Ok (world_take r w l)
  unfolding world_take
  take_ok w l is =
      world_ok (λ k. cond (k == l) (emptied r (copy_at r w k)) (copy_at r w k)) (levels w) w.leaders refl is.led
      (λ k lt. ok (k == l) (copy_at r w k) (is.ok k lt))
      (λ k lt. states (k == l) (copy_at r w k) ∙ is.states_alike k lt ∙ sym (states (leader w.leaders k == l) (copy_at r w (leader w.leaders k))))
      (λ k lt. inboxes (k == l) (copy_at r w k) ∙ is.inboxes_alike k lt ∙ sym (inboxes (leader w.leaders k == l) (copy_at r w (leader w.leaders k))))
    where
      ok : (b : Bool) (c : Copy I O S) → IsCopy r most InputOk StateOk c → IsCopy r most InputOk StateOk (cond b (emptied r c) c)
      ok true c good = emptied_ok law c good
      ok false c good = good

      states : (b : Bool) (c : Copy I O S) → (cond b (emptied r c) c).state ≡ c.state
      states true c = refl
      states false c = refl

      inboxes : (b : Bool) (c : Copy I O S) → (cond b (emptied r c) c).inbox ≡ c.inbox
      inboxes true c = refl
      inboxes false c = refl

  pub drain_ok : (w : World I O S) → Ok w → Ok (world_drain r most w)
  unfolding world_drain
  drain_ok w is =
      world_ok (λ k. finish r most (copy_at r w k)) (levels w) w.leaders refl is.led
      (λ k lt. (finish_ok law (copy_at r w k) (is.ok k lt)).0)
      (λ k lt. (finish_alike r most (copy_at r w k) (copy_at r w (leader w.leaders k)) (is.states_alike k lt) (is.inboxes_alike k lt)).0)
      (λ k lt. finish_inbox r most (copy_at r w k) ∙ sym (finish_inbox r most (copy_at r w (leader w.leaders k))))

  -- one step leaves what the world comes to as it is
  pub drain-turn : (w : World I O S) (l : ℕ) → Ok w → world_drain r most (world_turn r w l) ≡ world_drain r most w
  unfolding world_drain world_turn
  drain-turn w l is = ap (λ cs. record { copies = cs; leaders = w.leaders })
      (each_agree (λ k. finish r most (copy_at r (world_of r f (levels w) w.leaders) k)) (λ k. finish r most (copy_at r w k)) (levels w)
      (λ k lt. ap (finish r most) (get_or-each f (levels w) k (new_copy r) lt) ∙ from (leader w.leaders k == leader w.leaders l) (copy_at r w k) (is.ok k lt).ends))
    where
      f : ℕ → Copy I O S
      f k = cond (leader w.leaders k == leader w.leaders l) (step_copy r (copy_at r w k)) (copy_at r w k)

      from : (b : Bool) (c : Copy I O S) → r.quiet (settle r most c.state).after ≡ true → finish r most (cond b (step_copy r c) c) ≡ finish r most c
      from true c ends = finish_step r most c ends
      from false c ends = refl

  -- a sum over classes, of which one step lowers the part of its class
  abbrev pub class_part : (Copy I O S → ℕ) → World I O S → ℕ → ℕ
  class_part g w l = cond (leader w.leaders l == l) (g (copy_at r w l)) 0

  abbrev pub class_sum : (Copy I O S → ℕ) → World I O S → ℕ
  class_sum g w = sum_by (class_part g w) (below (levels w))

  pub class_sum-turn : (g : Copy I O S → ℕ) (w : World I O S) (l d : ℕ) → Ok w → l < levels w
      → (let c = copy_at r w (leader w.leaders l) in g c ≡ g (step_copy r c) + d)
      → class_sum g w ≡ class_sum g (world_turn r w l) + d
  class_sum-turn g w l d is lt falls = from (leaders-turn r w l) (copy-turn r w l)
    where
      top : ℕ
      top = leader w.leaders l

      from : (world_turn r w l).leaders ≡ w.leaders → ((k : ℕ) → k < levels w → copy_at r (world_turn r w l) k ≡ cond (leader w.leaders k == leader w.leaders l) (step_copy r (copy_at r w k)) (copy_at r w k))
          → class_sum g w ≡ class_sum g (world_turn r w l) + d
      from same copies =
          sum_one_below (class_part g w) (class_part g (world_turn r w l)) top (levels w) d (leader_in w is l lt) here others
          ∙ ap (λ n. sum_by (class_part g (world_turn r w l)) (below n) + d) (ap length (sym same))
        where
          part : (k : ℕ) → k < levels w → class_part g (world_turn r w l) k ≡ cond (leader w.leaders k == k) (g (cond (leader w.leaders k == leader w.leaders l) (step_copy r (copy_at r w k)) (copy_at r w k))) 0
          part k lt' = ap₂ (λ ls c. cond (leader ls k == k) (g c) 0) same (copies k lt')

          here : class_part g w top ≡ class_part g (world_turn r w l) top + d
          here =
              let itself = is.led.itself l lt in
              let e : (leader w.leaders top == top) ≡ true = eq-eqb (leader w.leaders top) top itself in
              let f : (leader w.leaders top == leader w.leaders l) ≡ true = eq-eqb (leader w.leaders top) (leader w.leaders l) itself in
              let stepped_copy = step_copy r (copy_at r w top) in
              ap (λ b. cond b (g (copy_at r w top)) 0) e ∙ falls
              ∙ ap (λ n. n + d) (sym (part top (leader_in w is l lt) ∙ ap (λ b. cond b (g (cond (leader w.leaders top == leader w.leaders l) stepped_copy (copy_at r w top))) 0) e
              ∙ ap (λ b. g (cond b stepped_copy (copy_at r w top))) f))

          others : (k : ℕ) → k < levels w → (k ≡ top → ⊥) → class_part g w k ≡ class_part g (world_turn r w l) k
          others k lt' differ = apart (leader w.leaders k == k) refl ∙ sym (part k lt')
            where
              apart : (b : Bool) → (leader w.leaders k == k) ≡ b → class_part g w k ≡ cond (leader w.leaders k == k) (g (cond (leader w.leaders k == leader w.leaders l) (step_copy r (copy_at r w k)) (copy_at r w k))) 0
              apart true e =
                  let leads = eqb-true (leader w.leaders k) k e in
                  let other : (leader w.leaders k == leader w.leaders l) ≡ false = ne_eqb (leader w.leaders k) (leader w.leaders l) (λ same_class. differ (sym leads ∙ same_class)) in
                  ap (λ b. cond (leader w.leaders k == k) (g (cond b (step_copy r (copy_at r w k)) (copy_at r w k))) 0) (sym other)
              apart false e =
                  ap (λ b. cond b (g (copy_at r w k)) 0) e ∙ ap (λ b. cond b (g (cond (leader w.leaders k == leader w.leaders l) (step_copy r (copy_at r w k)) (copy_at r w k))) 0) (sym e)

  -- the turns that are left, less those that one step counts
  pub left-turn : (w : World I O S) (l : ℕ) → Ok w → l < levels w → world_left r most w ≡ world_left r most (world_turn r w l) + step_turns r (copy_at r w l).state
  unfolding world_left
  left-turn w l is lt =
      class_sum-turn (left r most) w l (step_turns r (copy_at r w l).state) is lt
      (left_step r most (copy_at r w (leader w.leaders l)) (is.ok (leader w.leaders l) (leader_in w is l lt)).ends
      ∙ ap (λ s. left r most (step_copy r (copy_at r w (leader w.leaders l))) + step_turns r s) (sym (is.states_alike l lt)))

  -- how many steps are left: turns, and inputs to take
  abbrev pub effort : Copy I O S → ℕ
  effort c = left r most c + length c.inbox

  pub effort_step : (c : Copy I O S) → r.quiet (settle r most c.state).after ≡ true → has_work r c ≡ true → effort c ≡ effort (step_copy r c) + 1
  effort_step c ends work = from c.inbox (r.quiet c.state) work (left_step r most c ends)
    where
      from : (is : List I) (b : Bool) → (not b || waits r is) ≡ true
          → left r most c ≡ left r most (step_copy r c) + cond b 0 1
          → left r most c + length is ≡ (left r most (step_copy r c) + length (cond b (taken r c.state is) (turned_once r c.state is)).inbox) + 1
      from [] true nothing e = absurd (true≢false (sym nothing))
      from (i ∷ is) true some e = omega (arith, e)
      from is false some e = omega (arith, e)

  pub steps-turn : (w : World I O S) (l : ℕ) → Ok w → l < levels w → has_work r (copy_at r w l) ≡ true → world_steps r most w ≡ world_steps r most (world_turn r w l) + 1
  unfolding world_steps
  steps-turn w l is lt work =
      class_sum-turn effort w l 1 is lt
      (effort_step (copy_at r w (leader w.leaders l)) (is.ok (leader w.leaders l) (leader_in w is l lt)).ends
      (sym (ap₂ (λ s js. works r s js) (is.states_alike l lt) (is.inboxes_alike l lt)) ∙ work))

  -- levels of one class have work together
  pub works_alike : (w : World I O S) (l : ℕ) → Ok w → l < levels w → has_work r (copy_at r w l) ≡ has_work r (copy_at r w (leader w.leaders l))
  works_alike w l is lt = ap₂ (λ s js. works r s js) (is.states_alike l lt) (is.inboxes_alike l lt)

  -- a world where no class has work is at its end
  pub rests_by_leaders : (w : World I O S) → Ok w → ((l : ℕ) → l < levels w → leader w.leaders l ≡ l → has_work r (copy_at r w l) ≡ false) → AreAtRest r w
  rests_by_leaders w is rests l lt = works_alike w l is lt ∙ rests (leader w.leaders l) (leader_in w is l lt) (is.led.itself l lt)

  pub drain_rest : (w : World I O S) → Ok w → AreAtRest r w → world_drain r most w ≡ w
  unfolding world_drain
  drain_rest w is rests = ap (λ cs. record { copies = cs; leaders = w.leaders })
      (each_agree (λ k. finish r most (copy_at r w k)) (λ k. copy_at r w k) (levels w) (λ k lt. finish_rest r most (copy_at r w k) (rests k lt)) ∙ sym (copies_are r w is.count))

  pub left_at_rest : (w : World I O S) → Ok w → AreAtRest r w → world_left r most w ≡ 0
  unfolding world_left
  left_at_rest w is rests = sum_none_below (class_part (left r most) w) (levels w) (λ k lt. from (leader w.leaders k == k) (left_rest r most (copy_at r w k) (rests k lt)))
    where
      from : {n : ℕ} (b : Bool) → n ≡ 0 → cond b n 0 ≡ 0
      from true e = e
      from false e = refl

  pub drained_rests : (w : World I O S) → Ok w → AreAtRest r (world_drain r most w)
  drained_rests w is l lt =
      let same = ap length (leaders-drain r most w) in
      let at : l < levels w = omega (arith, same) in
      ap (has_work r) (copy-drain r most w l at) ∙ (finish_ok law (copy_at r w l) (is.ok l at)).1
