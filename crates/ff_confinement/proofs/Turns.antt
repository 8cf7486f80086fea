-- Turns until a reactor is quiet: a loop of them, and the bound that fuel gives.
use Rattle.std.proofs.Common.{◌≡◌, ℕ, zero, suc, ◌+◌, ◌-◌, ◌<◌, ◌≤◌, Bool, true, false, cond, ◌⊎◌, inl, inr, List, [], ◌++◌, All, refl, sym, ap, subst, ◌∙◌, append_assoc, append-nil, add-zero, zero-add, add-one, arith, true≢false}
use Rattle.std.proofs.lemmas.List.Elements.{All-nil, All-append}
use Rattle.ff_confinement.specs.Runs.{Handled}
use Rattle.ff_confinement.specs.Turns.{Reactor, settle, machine_of, KeepsOk, IsFuelled, turns_left, IsSettling}

module _ {I O S : Type 0} (r : Reactor I O S) where
  -- no turn is made, and one turn comes before the rest
  abbrev still : S → Handled O S
  still s = record { outputs = []; after = s; turns = 0 }

  abbrev turned : ℕ → S → Handled O S
  turned n s =
      let rest = settle r n (r.turn s).after in
      record { outputs = (r.turn s).outputs ++ rest.outputs; after = rest.after; turns = suc rest.turns }

  pub settle_quiet : (n : ℕ) (s : S) → r.quiet s ≡ true → settle r n s ≡ still s
  settle_quiet zero s is_quiet = refl
  settle_quiet (suc n) s is_quiet = ap (λ b. cond b (still s) (turned n s)) is_quiet

  pub settle_turn : (n : ℕ) (s : S) → r.quiet s ≡ false → settle r (suc n) s ≡ turned n s
  settle_turn n s busy = ap (λ b. cond b (still s) (turned n s)) busy

  -- at most as many turns are made as are given
  pub settle_turns : (n : ℕ) (s : S) → (settle r n s).turns ≤ n
  settle_turns zero s = omega arith
  settle_turns (suc n) s = from (r.quiet s) (settle_turns n (r.turn s).after)
    where
      from : (b : Bool) → (settle r n (r.turn s).after).turns ≤ n → (cond b (still s) (turned n s)).turns ≤ suc n
      from true rest = omega arith
      from false rest = omega arith

  -- where the end is quiet, more turns change nothing
  pub settle_more : (n k : ℕ) (s : S) → r.quiet (settle r n s).after ≡ true → settle r (n + k) s ≡ settle r n s
  settle_more zero k s is_quiet = ap (λ j. settle r j s) (zero-add k) ∙ settle_quiet k s is_quiet
  settle_more (suc n) k s is_quiet = ap (λ j. settle r j s) longer ∙ from (r.quiet s) (settle_more n k (r.turn s).after) is_quiet
    where
      longer : suc n + k ≡ suc (n + k)
      longer = omega arith

      from : (b : Bool) → (r.quiet (settle r n (r.turn s).after).after ≡ true → settle r (n + k) (r.turn s).after ≡ settle r n (r.turn s).after)
          → r.quiet (cond b (still s) (turned n s)).after ≡ true → cond b (still s) (turned (n + k) s) ≡ cond b (still s) (turned n s)
      from true rest at_rest = refl
      from false rest at_rest =
          let onto : Handled O S → Handled O S = λ h. record { outputs = (r.turn s).outputs ++ h.outputs; after = h.after; turns = suc h.turns } in
          ap onto (rest at_rest)

  -- A loop of turns: before the first, after one more, and at a quiet state.
  pub settling_start : (most : ℕ) (s : S) (base : List O) → IsSettling r most s base s base 0
  settling_start most s base =
      let all : most - 0 ≡ most = omega arith in
      record {
        within = omega arith;
        outputs_so_far = ap (λ n. base ++ (settle r n s).outputs) (sym all);
        after_it = ap (λ n. (settle r n s).after) (sym all);
        turns_so_far = ap (λ n. (settle r n s).turns) (sym all) ∙ sym (zero-add (settle r (most - 0) s).turns);
      }

  pub settling_turn : (most : ℕ) (begun : S) (base : List O) (now : S) (so_far : List O) (turns : ℕ) → IsSettling r most begun base now so_far turns
      → r.quiet now ≡ false → turns < most → IsSettling r most begun base (r.turn now).after (so_far ++ (r.turn now).outputs) (turns + 1)
  settling_turn most begun base now so_far turns at busy room =
      let left = most - (turns + 1) in
      let fewer : most - turns ≡ suc left = omega arith in
      let one : settle r (most - turns) now ≡ turned left now = ap (λ n. settle r n now) fewer ∙ settle_turn left now busy in
      let rest = settle r left (r.turn now).after in
      record {
        within = omega arith;
        outputs_so_far = at.outputs_so_far ∙ ap (λ h. so_far ++ h.outputs) one ∙ sym (append_assoc so_far (r.turn now).outputs rest.outputs);
        after_it = at.after_it ∙ ap (λ h. h.after) one;
        turns_so_far = at.turns_so_far ∙ ap (λ h. turns + h.turns) one ∙ (omega arith);
      }

  pub settling_done : (most : ℕ) (begun : S) (base : List O) (now : S) (so_far : List O) (turns : ℕ) → IsSettling r most begun base now so_far turns
      → r.quiet now ≡ true → (so_far ≡ base ++ (settle r most begun).outputs) × (now ≡ (settle r most begun).after) × (turns ≡ (settle r most begun).turns)
  settling_done most begun base now so_far turns at is_quiet =
      let end = settle_quiet (most - turns) now is_quiet in (
        sym (at.outputs_so_far ∙ ap (λ h. so_far ++ h.outputs) end ∙ append-nil so_far),
        sym (at.after_it ∙ ap (λ h. h.after) end),
        sym (at.turns_so_far ∙ ap (λ h. turns + h.turns) end ∙ add-zero turns),
      )

  -- the same where the loop follows the beginning of an input: then the input is handled
  pub handling_done : (most : ℕ) (s : S) (i : I) (base : List O) (now : S) (so_far : List O) (turns : ℕ)
      → IsSettling r most (r.begin s i).after (base ++ (r.begin s i).outputs) now so_far turns → r.quiet now ≡ true
      → (so_far ≡ base ++ ((machine_of r most).handle s i).outputs) × (now ≡ ((machine_of r most).handle s i).after) × (turns ≡ ((machine_of r most).handle s i).turns)
  handling_done most s i base now so_far turns at is_quiet =
      let done = settling_done most (r.begin s i).after (base ++ (r.begin s i).outputs) now so_far turns at is_quiet in
      (done.0 ∙ append_assoc base (r.begin s i).outputs (settle r most (r.begin s i).after).outputs, done.1, done.2)

  -- a turn that is due still has room among those that settle the state
  pub settling_room : (most : ℕ) (begun : S) (base : List O) (now : S) (so_far : List O) (turns : ℕ) → IsSettling r most begun base now so_far turns
      → r.quiet (settle r most begun).after ≡ true → r.quiet now ≡ false → turns < most
  settling_room most begun base now so_far turns at settled busy = from (most - turns) refl
    where
      from : (left : ℕ) → most - turns ≡ left → turns < most
      from zero e = absurd (true≢false (sym settled ∙ ap r.quiet (at.after_it ∙ ap (λ n. (settle r n now).after) e) ∙ busy))
      from (suc left) e = omega arith

module _ {I O S : Type 0} {r : Reactor I O S} {InputOk : I → Type 0} {StateOk : S → Type 0} {OutputOk : O → Type 0} (keeps : KeepsOk r InputOk StateOk OutputOk) where
  -- settling keeps to well formed states and outputs, and so does the machine that the reactor is
  pub settle_ok : (n : ℕ) (s : S) → StateOk s → StateOk (settle r n s).after × All OutputOk (settle r n s).outputs
  settle_ok zero s ok = (ok, All-nil OutputOk)
  settle_ok (suc n) s ok = from (r.quiet s) refl (settle_ok n (r.turn s).after)
    where
      from : (b : Bool) → r.quiet s ≡ b → (StateOk (r.turn s).after → StateOk (settle r n (r.turn s).after).after × All OutputOk (settle r n (r.turn s).after).outputs)
          → StateOk (cond b (still r s) (turned r n s)).after × All OutputOk (cond b (still r s) (turned r n s)).outputs
      from true is_quiet rest = (ok, All-nil OutputOk)
      from false busy rest =
          let next = rest (keeps.turn_ok s ok busy) in
          (next.0, All-append OutputOk (r.turn s).outputs (settle r n (r.turn s).after).outputs (keeps.turn_outputs s ok busy) next.1)

  pub machine_handle_ok : (most : ℕ) (s : S) (i : I) → StateOk s → InputOk i → StateOk ((machine_of r most).handle s i).after
  machine_handle_ok most s i ok good = (settle_ok most (r.begin s i).after (keeps.begin_ok s i ok good)).0

  pub machine_outputs_ok : (most : ℕ) (s : S) (i : I) → StateOk s → InputOk i → All OutputOk ((machine_of r most).handle s i).outputs
  machine_outputs_ok most s i ok good =
      let begun = (r.begin s i).after in
      All-append OutputOk (r.begin s i).outputs (settle r most begun).outputs (keeps.begin_outputs s i ok good) (settle_ok most begun (keeps.begin_ok s i ok good)).1

  module _ {fuel : S → ℕ} {most : ℕ} (fuelled : IsFuelled r fuel most InputOk StateOk) where
    settle_enough_turn : (n : ℕ) (s : S) → StateOk s
        → (fuel (r.turn s).after < fuel s → StateOk (r.turn s).after → r.quiet (settle r n (r.turn s).after).after ≡ true)
        → r.quiet (settle r (suc n) s).after ≡ true
    settle_enough_turn n s ok rest = from (r.quiet s) refl
      where
        busy_turn : r.quiet s ≡ false → (fuel (r.turn s).after < fuel s) ⊎ (r.quiet (r.turn s).after ≡ true) → r.quiet (settle r n (r.turn s).after).after ≡ true
        busy_turn busy (inl spent) = rest spent (keeps.turn_ok s ok busy)
        busy_turn busy (inr is_quiet) = ap (λ h. r.quiet h.after) (settle_quiet r n (r.turn s).after is_quiet) ∙ is_quiet

        from : (b : Bool) → r.quiet s ≡ b → r.quiet (cond b (still r s) (turned r n s)).after ≡ true
        from true is_quiet = is_quiet
        from false busy = busy_turn busy (fuelled.spends s ok busy)

    settle_enough_suc : (n : ℕ) (s : S) → StateOk s → fuel s ≤ n → r.quiet (settle r (suc n) s).after ≡ true
    settle_enough_suc zero s ok within = settle_enough_turn zero s ok (λ spent next_ok. absurd (omega arith))
    settle_enough_suc (suc n) s ok within = settle_enough_turn (suc n) s ok (λ spent next_ok. settle_enough_suc n (r.turn s).after next_ok (omega arith))

    -- one turn more than there is fuel is enough to be quiet
    pub settle_enough : (n : ℕ) (s : S) → StateOk s → fuel s ≤ n → r.quiet (settle r (n + 1) s).after ≡ true
    settle_enough n s ok within = ap (λ k. r.quiet (settle r k s).after) (add-one n) ∙ settle_enough_suc n s ok within

    -- so the machine handles each input to its end in at most `most + 1` turns, and would do the
    -- same with more of them
    pub handle_quiet : (s : S) (i : I) → StateOk s → InputOk i → r.quiet ((machine_of r (most + 1)).handle s i).after ≡ true
    handle_quiet s i ok good = settle_enough most (r.begin s i).after (keeps.begin_ok s i ok good) (fuelled.brings s i ok good)

    pub handle_turns : (s : S) (i : I) → ((machine_of r (most + 1)).handle s i).turns ≤ most + 1
    handle_turns s i = settle_turns r (most + 1) (r.begin s i).after

    pub handle_more : (k : ℕ) (s : S) (i : I) → StateOk s → InputOk i → (machine_of r (most + 1 + k)).handle s i ≡ (machine_of r (most + 1)).handle s i
    handle_more k s i ok good =
        let onto : Handled O S → Handled O S = λ h. record { outputs = (r.begin s i).outputs ++ h.outputs; after = h.after; turns = h.turns } in
        ap onto (settle_more r (most + 1) k (r.begin s i).after (handle_quiet s i ok good))

    -- each turn brings the end nearer
    pub turns_left_falls : (s : S) → StateOk s → r.quiet s ≡ false → turns_left r fuel (r.turn s).after < turns_left r fuel s
    turns_left_falls s ok busy = subst (λ b. turns_left r fuel (r.turn s).after < cond b 0 (suc (fuel s))) (sym busy) (from (fuelled.spends s ok busy))
      where
        fewer : (b : Bool) → fuel (r.turn s).after < fuel s → cond b 0 (suc (fuel (r.turn s).after)) < suc (fuel s)
        fewer true spent = omega arith
        fewer false spent = omega arith

        from : (fuel (r.turn s).after < fuel s) ⊎ (r.quiet (r.turn s).after ≡ true) → turns_left r fuel (r.turn s).after < suc (fuel s)
        from (inl spent) = fewer (r.quiet (r.turn s).after) spent
        from (inr is_quiet) = subst (λ b. cond b 0 (suc (fuel (r.turn s).after)) < suc (fuel s)) (sym is_quiet) (omega arith)
