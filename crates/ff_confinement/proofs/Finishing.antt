-- One copy: its steps leave what it comes to in the end as it is, and count its turns down.
use Rattle.std.proofs.Common.{◌≡◌, ℕ, zero, suc, ◌+◌, Bool, true, false, cond, not, ◌||◌, Option, Some, None, List, [], ◌∷◌, ◌++◌, All, refl, sym, ap, ap₂, ◌∙◌, append_assoc, append-nil, add-zero, zero-add, add-one, arith, true≢false}
use Rattle.std.proofs.lemmas.List.Elements.{All-nil, All-head, All-tail, All-append, All-push}
use Rattle.std.proofs.lemmas.List.Concat.{flat_map-append}
use Rattle.ff_confinement.specs.Runs.{Handled, joined, after_from, plain_from, turns_from, handle_seen}
use Rattle.ff_confinement.specs.Turns.{Reactor, settle, machine_of, KeepsOk, IsFuelled}
use Rattle.ff_contract.specs.Lists.{Begins}
use Rattle.ff_confinement.specs.Worlds.{Copy, new_copy, taken, turned_once, stepped, step_copy, offered, waits, has_work, works, step_turns, emptied, finish, left, Ends, IsCopy, OfferOk}
use Rattle.ff_confinement.proofs.Runs.{after_from-append, plain_from-append, turns_from-append}
use Rattle.ff_confinement.proofs.Turns.{settle_quiet, settle_turn, settle_more, handle_quiet}

module _ {I O S : Type 0} (r : Reactor I O S) (most : ℕ) where
  -- what turns come to, after one of them
  abbrev after_turn : S → Handled O S
  after_turn s =
      let rest = settle r most (r.turn s).after in
      record { outputs = (r.turn s).outputs ++ rest.outputs; after = rest.after; turns = suc rest.turns }

  settle_next_at : (n : ℕ) (s : S) → r.quiet s ≡ false → r.quiet (settle r n s).after ≡ true → r.quiet (settle r n (r.turn s).after).after ≡ true
      × (settle r n s ≡ record { outputs = (r.turn s).outputs ++ (settle r n (r.turn s).after).outputs; after = (settle r n (r.turn s).after).after; turns = suc (settle r n (r.turn s).after).turns })
  settle_next_at zero s busy ends = absurd (true≢false (sym ends ∙ busy))
  settle_next_at (suc n) s busy ends =
      let one = settle_turn r n s busy in
      let rests : r.quiet (settle r n (r.turn s).after).after ≡ true = sym (ap (λ h. r.quiet h.after) one) ∙ ends in
      let more : settle r (suc n) (r.turn s).after ≡ settle r n (r.turn s).after = ap (λ k. settle r k (r.turn s).after) (sym (add-one n)) ∙ settle_more r n 1 (r.turn s).after rests in
      let onto : Handled O S → Handled O S = λ h. record { outputs = (r.turn s).outputs ++ h.outputs; after = h.after; turns = suc h.turns } in
      (ap (λ h. r.quiet h.after) more ∙ rests, one ∙ ap onto (sym more))

  settle_next : (s : S) → r.quiet s ≡ false → r.quiet (settle r most s).after ≡ true → settle r most s ≡ after_turn s
  settle_next s busy ends = (settle_next_at most s busy ends).1

  settle_still : (s : S) → r.quiet s ≡ true → settle r most s ≡ record { outputs = []; after = s; turns = 0 }
  settle_still s is_quiet = settle_quiet r most s is_quiet

  -- what a copy comes to, from what its turns come to
  abbrev done_from : List O → Handled O S → List I → Copy I O S
  done_from outs h is = record {
    state = after_from (machine_of r most) h.after is;
    inbox = [];
    outputs = (outs ++ h.outputs) ++ joined (plain_from (machine_of r most) h.after is);
  }

  abbrev left_from : Handled O S → List I → ℕ
  left_from h is = h.turns + turns_from (machine_of r most) h.after is

  abbrev with_outs : S → List I → List O → Copy I O S
  with_outs s is os = record { state = s; inbox = is; outputs = os }

  -- a copy at rest has come to its end
  pub finish_rest : (c : Copy I O S) → has_work r c ≡ false → finish r most c ≡ c
  unfolding finish
  finish_rest c rests = from c.state c.inbox c.outputs (rest_parts c.state c.inbox rests)
    where
      quiet_from : (b : Bool) (is : List I) → (not b || waits r is) ≡ false → (b ≡ true) × (is ≡ [])
      quiet_from true [] e = (refl, refl)
      quiet_from true (i ∷ is) e = absurd (true≢false e)
      quiet_from false is e = absurd (true≢false e)

      rest_parts : (s : S) (is : List I) → works r s is ≡ false → (r.quiet s ≡ true) × (is ≡ [])
      rest_parts s is e = quiet_from (r.quiet s) is e

      from : (s : S) (is : List I) (os : List O) → (r.quiet s ≡ true) × (is ≡ []) → done_from os (settle r most s) is ≡ with_outs s is os
      from s is os (is_quiet, none) =
          ap (λ js. done_from os (settle r most s) js) none
          ∙ ap (λ h. done_from os h []) (settle_still s is_quiet)
          ∙ ap (λ ps. with_outs s [] ps) (append-nil (os ++ []) ∙ append-nil os)
          ∙ ap (λ js. with_outs s js os) (sym none)

  pub left_rest : (c : Copy I O S) → has_work r c ≡ false → left r most c ≡ 0
  unfolding left
  left_rest c rests = from c.state c.inbox (parts (r.quiet c.state) c.inbox rests)
    where
      parts : (b : Bool) (is : List I) → (not b || waits r is) ≡ false → (b ≡ true) × (is ≡ [])
      parts true [] e = (refl, refl)
      parts true (i ∷ is) e = absurd (true≢false e)
      parts false is e = absurd (true≢false e)

      from : (s : S) (is : List I) → (r.quiet s ≡ true) × (is ≡ []) → left_from (settle r most s) is ≡ 0
      from s is (is_quiet, none) = ap (λ js. left_from (settle r most s) js) none ∙ ap (λ h. left_from h []) (settle_still s is_quiet)

  -- a quiet copy that takes its next input
  taken_same : (s : S) (i : I) (is : List I) (os : List O) → r.quiet s ≡ true
      → (done_from os (settle r most s) (i ∷ is) ≡ done_from (os ++ (r.begin s i).outputs) (settle r most (r.begin s i).after) is)
      × (left_from (settle r most s) (i ∷ is) ≡ left_from (settle r most (r.begin s i).after) is)
  taken_same s i is os is_quiet =
      let begun = r.begin s i in
      let rest = settle r most begun.after in
      let end = joined (plain_from (machine_of r most) rest.after is) in
      let still = settle_still s is_quiet in
      let tail : List O → Copy I O S = λ ps. record { state = after_from (machine_of r most) rest.after is; inbox = []; outputs = ps } in (
        ap (λ h. done_from os h (i ∷ is)) still
            ∙ ap tail (ap (λ ps. ps ++ ((begun.outputs ++ rest.outputs) ++ end)) (append-nil os)
            ∙ sym (append_assoc os (begun.outputs ++ rest.outputs) end)
            ∙ ap (λ ps. ps ++ end) (sym (append_assoc os begun.outputs rest.outputs))),
        ap (λ h. left_from h (i ∷ is)) still ∙ zero-add (rest.turns + turns_from (machine_of r most) rest.after is),
      )

  -- a copy that makes a turn
  turned_same : (s : S) (is : List I) (os : List O) → r.quiet s ≡ false → r.quiet (settle r most s).after ≡ true
      → (done_from os (settle r most s) is ≡ done_from (os ++ (r.turn s).outputs) (settle r most (r.turn s).after) is)
      × (left_from (settle r most s) is ≡ left_from (settle r most (r.turn s).after) is + 1)
  turned_same s is os busy ends =
      let made = r.turn s in
      let rest = settle r most made.after in
      let end = joined (plain_from (machine_of r most) rest.after is) in
      let next = settle_next s busy ends in
      let tail : List O → Copy I O S = λ ps. record { state = after_from (machine_of r most) rest.after is; inbox = []; outputs = ps } in (
        ap (λ h. done_from os h is) next ∙ ap tail (ap (λ ps. ps ++ end) (sym (append_assoc os made.outputs rest.outputs))),
        ap (λ h. left_from h is) next ∙ (omega arith),
      )

  -- one step leaves the end as it is, and the turns that are left are as many less as it counts
  step_parts : (s : S) (is : List I) (os : List O) → r.quiet (settle r most s).after ≡ true
      → (done_from os (settle r most s) is ≡ done_from (os ++ (stepped r s is).outputs) (settle r most (stepped r s is).state) (stepped r s is).inbox)
      × (left_from (settle r most s) is ≡ left_from (settle r most (stepped r s is).state) (stepped r s is).inbox + step_turns r s)
  step_parts s is os ends = from (r.quiet s) is refl
    where
      at : Bool → List I → Copy I O S
      at b js = cond b (taken r s js) (turned_once r s js)

      from : (b : Bool) (js : List I) → r.quiet s ≡ b
          → (done_from os (settle r most s) js ≡ done_from (os ++ (cond b (taken r s js) (turned_once r s js)).outputs) (settle r most (cond b (taken r s js) (turned_once r s js)).state) (cond b (taken r s js) (turned_once r s js)).inbox)
          × (left_from (settle r most s) js ≡ left_from (settle r most (cond b (taken r s js) (turned_once r s js)).state) (cond b (taken r s js) (turned_once r s js)).inbox + cond b 0 1)
      from true [] is_quiet = (ap (λ ps. done_from ps (settle r most s) []) (sym (append-nil os)), sym (add-zero (left_from (settle r most s) [])))
      from true (j ∷ js) is_quiet =
          let same = taken_same s j js os is_quiet in
          (same.0, same.1 ∙ sym (add-zero (left_from (settle r most (r.begin s j).after) js)))
      from false js busy = turned_same s js os busy ends

  pub finish_step : (c : Copy I O S) → r.quiet (settle r most c.state).after ≡ true → finish r most (step_copy r c) ≡ finish r most c
  unfolding finish
  finish_step c ends = sym ((step_parts c.state c.inbox c.outputs ends).0)

  pub left_step : (c : Copy I O S) → r.quiet (settle r most c.state).after ≡ true → left r most c ≡ left r most (step_copy r c) + step_turns r c.state
  unfolding left
  left_step c ends = (step_parts c.state c.inbox c.outputs ends).1

  -- what a copy comes to with one offer more
  pub finish_offered : (c : Copy I O S) (o : Option I) → let h = handle_seen (machine_of r most) (finish r most c).state o in
      finish r most (offered r c o) ≡ record { state = h.after; inbox = []; outputs = (finish r most c).outputs ++ h.outputs }
  unfolding finish
  finish_offered c None =
      let h = settle r most c.state in
      ap (λ is. done_from c.outputs h is) (append-nil c.inbox)
      ∙ ap (λ ps. with_outs (after_from (machine_of r most) h.after c.inbox) [] ps) (sym (append-nil ((c.outputs ++ h.outputs) ++ joined (plain_from (machine_of r most) h.after c.inbox))))
  finish_offered c (Some i) =
      let m = machine_of r most in
      let h = settle r most c.state in
      let last = m.handle (after_from m h.after c.inbox) i in
      let so_far = joined (plain_from m h.after c.inbox) in
      let all : joined (plain_from m h.after (c.inbox ++ i ∷ [])) ≡ so_far ++ last.outputs =
      ap joined (plain_from-append m h.after c.inbox (i ∷ []))
      ∙ flat_map-append (λ xs. xs) (plain_from m h.after c.inbox) (last.outputs ∷ [])
      ∙ ap (λ os. so_far ++ os) (append-nil last.outputs) in
      let both : S → List O → Copy I O S = λ s os. record { state = s; inbox = []; outputs = os } in
      ap₂ both (after_from-append m h.after c.inbox (i ∷ []))
      (ap (λ os. (c.outputs ++ h.outputs) ++ os) all ∙ sym (append_assoc (c.outputs ++ h.outputs) so_far last.outputs))

  pub left_offered : (c : Copy I O S) (o : Option I) → left r most (offered r c o) ≡ left r most c + (handle_seen (machine_of r most) (finish r most c).state o).turns
  unfolding left finish
  left_offered c None =
      ap (λ is. left_from (settle r most c.state) is) (append-nil c.inbox) ∙ sym (add-zero (left_from (settle r most c.state) c.inbox))
  left_offered c (Some i) =
      let m = machine_of r most in
      let h = settle r most c.state in
      let e = turns_from-append m h.after c.inbox (i ∷ []) in
      let last = (m.handle (after_from m h.after c.inbox) i).turns in
      let one : turns_from m (after_from m h.after c.inbox) (i ∷ []) ≡ last = add-zero last in
      omega (arith, e, one)

  -- what a copy has put begins all that it comes to put
  pub finish_begins : (c : Copy I O S) → Begins (finish r most c).outputs c.outputs
  unfolding finish
  finish_begins c =
      let h = settle r most c.state in
      (h.outputs ++ joined (plain_from (machine_of r most) h.after c.inbox), append_assoc c.outputs h.outputs (joined (plain_from (machine_of r most) h.after c.inbox)))

  -- the end has an empty inbox
  pub finish_inbox : (c : Copy I O S) → (finish r most c).inbox ≡ []
  unfolding finish
  finish_inbox c = refl

  -- what was put before has no part in where a copy comes to, and stands before all else
  pub finish_emptied : (c : Copy I O S) → ((finish r most (emptied r c)).state ≡ (finish r most c).state) × (c.outputs ++ (finish r most (emptied r c)).outputs ≡ (finish r most c).outputs)
  unfolding finish
  finish_emptied c =
      let h = settle r most c.state in
      (refl, sym (append_assoc c.outputs h.outputs (joined (plain_from (machine_of r most) h.after c.inbox))))

  -- copies with equal states and inboxes come to equal states, in as many turns
  pub finish_alike : (c d : Copy I O S) → c.state ≡ d.state → c.inbox ≡ d.inbox → ((finish r most c).state ≡ (finish r most d).state) × (left r most c ≡ left r most d)
  unfolding finish left
  finish_alike c d s is = (
    ap₂ (λ t js. after_from (machine_of r most) (settle r most t).after js) s is,
    ap₂ (λ t js. left_from (settle r most t) js) s is,
  )

module _ {I O S : Type 0} {r : Reactor I O S} {most : ℕ} {InputOk : I → Type 0} {StateOk : S → Type 0} (law : Ends r most InputOk StateOk) where
  -- steps, offers and takes keep copies well formed
  pub new_copy_ok : IsCopy r most InputOk StateOk (new_copy r)
  new_copy_ok = record {
    state_ok = law.start_ok;
    ends = ap (λ h. r.quiet h.after) (settle_quiet r most r.start law.start_quiet) ∙ law.start_quiet;
    inbox_ok = All-nil InputOk;
  }

  stepped_ok : (s : S) (is : List I) → StateOk s → r.quiet (settle r most s).after ≡ true → All InputOk is
      → StateOk (stepped r s is).state × (r.quiet (settle r most (stepped r s is).state).after ≡ true) × All InputOk (stepped r s is).inbox
  stepped_ok s is ok ends good = from (r.quiet s) is refl good
    where
      from : (b : Bool) (js : List I) → r.quiet s ≡ b → All InputOk js
          → StateOk (cond b (taken r s js) (turned_once r s js)).state × (r.quiet (settle r most (cond b (taken r s js) (turned_once r s js)).state).after ≡ true) × All InputOk (cond b (taken r s js) (turned_once r s js)).inbox
      from true [] is_quiet all = (ok, ends, all)
      from true (j ∷ js) is_quiet all =
          (law.begin_ok s j ok (All-head InputOk j js all), law.begin_ends s j ok (All-head InputOk j js all), All-tail InputOk j js all)
      from false js busy all = (law.turn_ok s ok busy, (settle_next_at r most most s busy ends).0, all)

  pub step_copy_ok : (c : Copy I O S) → IsCopy r most InputOk StateOk c → IsCopy r most InputOk StateOk (step_copy r c)
  step_copy_ok c is =
      let done = stepped_ok c.state c.inbox is.state_ok is.ends is.inbox_ok in
      record { state_ok = done.0; ends = done.1; inbox_ok = done.2 }

  pub offered_ok : (c : Copy I O S) (o : Option I) → IsCopy r most InputOk StateOk c → OfferOk InputOk o → IsCopy r most InputOk StateOk (offered r c o)
  offered_ok c None is ok = record { state_ok = is.state_ok; ends = is.ends; inbox_ok = All-append InputOk c.inbox [] is.inbox_ok (All-nil InputOk) }
  offered_ok c (Some i) is ok = record { state_ok = is.state_ok; ends = is.ends; inbox_ok = All-push InputOk c.inbox i is.inbox_ok ok }

  pub emptied_ok : (c : Copy I O S) → IsCopy r most InputOk StateOk c → IsCopy r most InputOk StateOk (emptied r c)
  emptied_ok c is = record { state_ok = is.state_ok; ends = is.ends; inbox_ok = is.inbox_ok }

  -- a state that has settled is well formed and quiet, and so is one that has handled inputs
  abbrev handled : List O → S → ℕ → Handled O S
  handled os t k = record { outputs = os; after = t; turns = k }

  settle_state_ok : (n : ℕ) (s : S) → StateOk s → StateOk (settle r n s).after
  settle_state_ok zero s ok = ok
  settle_state_ok (suc n) s ok = from (r.quiet s) refl (settle_state_ok n (r.turn s).after)
    where
      from : (b : Bool) → r.quiet s ≡ b → (StateOk (r.turn s).after → StateOk (settle r n (r.turn s).after).after)
          → StateOk (cond b (handled [] s 0) (handled ((r.turn s).outputs ++ (settle r n (r.turn s).after).outputs) (settle r n (r.turn s).after).after (suc (settle r n (r.turn s).after).turns))).after
      from true is_quiet rest = ok
      from false busy rest = rest (law.turn_ok s ok busy)

  after_from_ok : (s : S) (is : List I) → StateOk s → r.quiet s ≡ true → All InputOk is → StateOk (after_from (machine_of r most) s is) × (r.quiet (after_from (machine_of r most) s is) ≡ true)
  after_from_ok s [] ok is_quiet good = (ok, is_quiet)
  after_from_ok s (i ∷ is) ok is_quiet good =
      let here = All-head InputOk i is good in
      after_from_ok ((machine_of r most).handle s i).after is (settle_state_ok most (r.begin s i).after (law.begin_ok s i ok here)) (law.begin_ends s i ok here) (All-tail InputOk i is good)

  pub finish_ok : (c : Copy I O S) → IsCopy r most InputOk StateOk c → IsCopy r most InputOk StateOk (finish r most c) × (has_work r (finish r most c) ≡ false)
  unfolding finish
  finish_ok c is =
      let end = after_from_ok (settle r most c.state).after c.inbox (settle_state_ok most c.state is.state_ok) is.ends is.inbox_ok in (
        record {
          state_ok = end.0;
          ends = ap (λ h. r.quiet h.after) (settle_quiet r most (after_from (machine_of r most) (settle r most c.state).after c.inbox) end.1) ∙ end.1;
          inbox_ok = All-nil InputOk;
        },
        ap (λ b. not b || false) end.1,
      )

-- a reactor whose turns spend fuel ends each input in one turn more than it brings
pub ends_by_fuel : {I O S : Type 0} {r : Reactor I O S} {InputOk : I → Type 0} {StateOk : S → Type 0} {OutputOk : O → Type 0} → KeepsOk r InputOk StateOk OutputOk
    → {fuel : S → ℕ} {most : ℕ} → IsFuelled r fuel most InputOk StateOk → r.quiet r.start ≡ true → Ends r (most + 1) InputOk StateOk
ends_by_fuel keeps fuelled is_quiet = record {
  start_ok = keeps.start_ok;
  start_quiet = is_quiet;
  begin_ok = keeps.begin_ok;
  begin_ends = handle_quiet keeps fuelled;
  turn_ok = keeps.turn_ok;
}
