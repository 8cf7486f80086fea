-- The law of every schedule: what a world of copies comes to, whatever the order of arrivals and
-- turns was.
use Rattle.std.proofs.Common.{◌≡◌, ◌↔◌, ℕ, ◌<◌, Bool, true, false, cond, not, ◌||◌, ◌==◌, Option, Some, None, List, [], ◌∷◌, ◌++◌, length, All, refl, sym, ap, ap₂, subst, ◌∙◌, arith, append-nil, append_assoc}
use Rattle.std.specs.List.{cons_option}
use Rattle.std.proofs.lemmas.List.Elements.{All-head, All-tail}
use Rattle.ff_confinement.specs.Runs.{joined, after, plain, handle_seen}
use Rattle.ff_confinement.specs.Turns.{Reactor, settle, machine_of}
use Rattle.ff_confinement.specs.Worlds.{Copy, World, Event, leader, offer, levels, new_leader, split, new_copy, copy_at, new_world, step_copy, offered, has_work, world_arrive, world_turn, finish, play_event, play_events, offered_to, OfferedAlike, Ends, IsWorld, EventOk, IsPlayed}
use Rattle.ff_confinement.specs.Worlds.Event.{arrive, turn}
use Rattle.ff_confinement.proofs.Lists.{joined_push, Begins-same}
use Rattle.ff_confinement.proofs.Runs.{after_start, after_more, plain_start, plain_more}
use Rattle.ff_confinement.proofs.Finishing.{finish_rest, finish_step, finish_offered, finish_begins}
use Rattle.ff_confinement.proofs.Classes.{IsSame, together_parts, together, leader-split, length-split, new_leader_same, new_leader_apart}
use Rattle.ff_confinement.proofs.Worlds.{copy-arrive, copy-turn, copy-new, leader-new, levels-new, leaders-arrive, leaders-turn, new_world_ok, arrive_ok, turn_ok}

-- One event more.
onto_option : {X : Type 0} (o : Option X) (xs ys : List X) → cons_option o (xs ++ ys) ≡ cons_option o xs ++ ys
onto_option None xs ys = refl
onto_option (Some x) xs ys = refl

pub offered_to_arrive : {I : Type 0} (l : ℕ) (es : List (Event I)) (offers : List (Option I)) → offered_to l (es ++ arrive offers ∷ []) ≡ offered_to l es ++ cons_option (offer offers l) []
offered_to_arrive l [] offers = refl
offered_to_arrive l (arrive os ∷ es) offers =
    ap (cons_option (offer os l)) (offered_to_arrive l es offers) ∙ onto_option (offer os l) (offered_to l es) (cons_option (offer offers l) [])
offered_to_arrive l (turn k ∷ es) offers = offered_to_arrive l es offers

pub offered_to_turn : {I : Type 0} (l : ℕ) (es : List (Event I)) (j : ℕ) → offered_to l (es ++ turn j ∷ []) ≡ offered_to l es
offered_to_turn l [] j = refl
offered_to_turn l (arrive os ∷ es) j = ap (cons_option (offer os l)) (offered_to_turn l es j)
offered_to_turn l (turn k ∷ es) j = offered_to_turn l es j

pub alike_arrive : {I : Type 0} (k l : ℕ) (es : List (Event I)) (offers : List (Option I)) → OfferedAlike k l (es ++ arrive offers ∷ []) ↔ (OfferedAlike k l es × (offer offers k ≡ offer offers l))
alike_arrive k l [] offers = (λ both. (tt, both.0), λ both. (both.1, tt))
alike_arrive k l (arrive os ∷ es) offers =
    let rest = alike_arrive k l es offers in
    (λ both. ((both.0, (rest.0 both.1).0), (rest.0 both.1).1), λ both. (both.0.0, rest.1 (both.0.1, both.1)))
alike_arrive k l (turn j ∷ es) offers = alike_arrive k l es offers

pub alike_turn : {I : Type 0} (k l : ℕ) (es : List (Event I)) (j : ℕ) → OfferedAlike k l (es ++ turn j ∷ []) ↔ OfferedAlike k l es
alike_turn k l [] j = (λ e. e, λ e. e)
alike_turn k l (arrive os ∷ es) j =
    let rest = alike_turn k l es j in
    (λ both. (both.0, rest.0 both.1), λ both. (both.0, rest.1 both.1))
alike_turn k l (turn i ∷ es) j = alike_turn k l es j

module _ {I O S : Type 0} (r : Reactor I O S) (most : ℕ) where
  -- what a copy comes to that these inputs were offered to
  abbrev pub end_of : List I → Copy I O S
  end_of is = record { state = after (machine_of r most) is; inbox = []; outputs = joined (plain (machine_of r most) is) }

  abbrev made : S → List O → Copy I O S
  made s os = record { state = s; inbox = []; outputs = os }

  end_more : (is : List I) (o : Option I) → let h = handle_seen (machine_of r most) (after (machine_of r most) is) o in
      made h.after (joined (plain (machine_of r most) is) ++ h.outputs) ≡ end_of (is ++ cons_option o [])
  end_more is None = ap (made (after (machine_of r most) is)) (append-nil (joined (plain (machine_of r most) is))) ∙ ap end_of (sym (append-nil is))
  end_more is (Some i) =
      let m = machine_of r most in
      ap₂ made (sym (after_more m is i)) (sym (ap joined (plain_more m is i) ∙ joined_push (plain m is) (m.handle (after m is) i).outputs))

  pub finish_offered_end : (c : Copy I O S) (is : List I) (o : Option I) → finish r most c ≡ end_of is → finish r most (offered r c o) ≡ end_of (is ++ cons_option o [])
  finish_offered_end c is o e =
      let m = machine_of r most in
      let grown : Copy I O S → Copy I O S = λ d. let h = handle_seen m d.state o in made h.after (d.outputs ++ h.outputs) in
      finish_offered r most c o ∙ ap grown e ∙ end_more is o

  pub finish_new_end : r.quiet r.start ≡ true → finish r most (new_copy r) ≡ end_of []
  finish_new_end is_quiet =
      let m = machine_of r most in
      finish_rest r most (new_copy r) (ap (λ b. not b || false) is_quiet)
      ∙ ap₂ made (sym (after_start m)) (ap joined (sym (plain_start m)))

  -- where a world stands after these events
  pub record Comes (n : ℕ) (w : World I O S) (es : List (Event I)) : Type 0 where
    pub count : levels w ≡ n
    pub come : (l : ℕ) → l < n → finish r most (copy_at r w l) ≡ end_of (offered_to l es)
    pub classes : (k l : ℕ) → k < n → l < n → (leader w.leaders k ≡ leader w.leaders l) ↔ OfferedAlike k l es

  pub comes_start : (n : ℕ) → r.quiet r.start ≡ true → Comes n (new_world r n) []
  comes_start n is_quiet = record {
    count = levels-new r n;
    come = λ l lt. ap (finish r most) (copy-new r n l lt) ∙ finish_new_end is_quiet;
    classes = λ k l in_k in_l. (λ e. tt, λ e. leader-new r n k in_k ∙ sym (leader-new r n l in_l));
  }

  comes_turn : (n : ℕ) (w : World I O S) (es : List (Event I)) (j : ℕ) → ((l : ℕ) → l < levels w → r.quiet (settle r most (copy_at r w l).state).after ≡ true) → Comes n w es → Comes n (world_turn r w j) (es ++ turn j ∷ [])
  comes_turn n w es j ends at = record {
    count = ap length (leaders-turn r w j) ∙ at.count;
    come = λ l lt.
        let e = at.count in
        ap (finish r most) (copy-turn r w j l (omega arith))
        ∙ from (leader w.leaders l == leader w.leaders j) (copy_at r w l) (ends l (omega arith)) ∙ at.come l lt ∙ ap end_of (sym (offered_to_turn l es j));
    classes = λ k l in_k in_l.
        let old = at.classes k l in_k in_l in
        let more = alike_turn k l es j in
        let same = leaders-turn r w j in (
          λ e. more.1 (old.0 (ap (λ ls. leader ls k) (sym same) ∙ e ∙ ap (λ ls. leader ls l) same)),
          λ e. ap (λ ls. leader ls k) same ∙ old.1 (more.0 e) ∙ ap (λ ls. leader ls l) (sym same),
        );
  }
    where
      from : (b : Bool) (c : Copy I O S) → r.quiet (settle r most c.state).after ≡ true → finish r most (cond b (step_copy r c) c) ≡ finish r most c
      from true c e = finish_step r most c e
      from false c e = refl

  -- a step of a level that isn't one, or has no work, changes nothing
  comes_still : (n : ℕ) (w : World I O S) (es : List (Event I)) (j : ℕ) → Comes n w es → Comes n w (es ++ turn j ∷ [])
  comes_still n w es j at = record {
    count = at.count;
    come = λ l lt. at.come l lt ∙ ap end_of (sym (offered_to_turn l es j));
    classes = λ k l in_k in_l.
        let old = at.classes k l in_k in_l in
        let more = alike_turn k l es j in
        (λ e. more.1 (old.0 e), λ e. old.1 (more.0 e));
  }

  comes_arrive : (same : I → I → Bool) → IsSame same → (n : ℕ) (w : World I O S) (es : List (Event I)) (offers : List (Option I)) → Comes n w es → Comes n (world_arrive r same w offers) (es ++ arrive offers ∷ [])
  comes_arrive same decides n w es offers at = record {
    count = ap length parted ∙ length-split same decides w.leaders offers ∙ at.count;
    come = λ l lt.
        let e = at.count in
        ap (finish r most) (copy-arrive r same w offers l (omega arith))
        ∙ finish_offered_end (copy_at r w l) (offered_to l es) (offer offers l) (at.come l lt)
        ∙ ap end_of (sym (offered_to_arrive l es offers));
    classes = λ k l in_k in_l.
        let old = at.classes k l in_k in_l in
        let more = alike_arrive k l es offers in
        let up = lead k in_k in
        let down = lead l in_l in (
          λ e. let parts = together_parts same decides w.leaders offers k l (new_leader_apart same decides w.leaders offers k l (sym up ∙ e ∙ down)) in more.1 (old.0 parts.0, parts.1),
          λ e. let parts = more.0 e in up ∙ new_leader_same same decides w.leaders offers k l (together same decides w.leaders offers k l (old.1 parts.0) parts.1) ∙ sym down,
        );
  }
    where
      parted : (world_arrive r same w offers).leaders ≡ split same w.leaders offers
      parted = leaders-arrive r same w offers

      lead : (k : ℕ) → k < n → leader (world_arrive r same w offers).leaders k ≡ new_leader same w.leaders offers k
      lead k lt = let e = at.count in ap (λ ls. leader ls k) parted ∙ leader-split same decides w.leaders offers k (omega arith)

module _ {I O S : Type 0} {r : Reactor I O S} {most : ℕ} {InputOk : I → Type 0} {StateOk : S → Type 0} (law : Ends r most InputOk StateOk) (same : I → I → Bool) (decides : IsSame same) where
  -- each event keeps the world well formed
  pub play_event_ok : (w : World I O S) (e : Event I) → IsWorld r most InputOk StateOk w → EventOk InputOk (levels w) e → IsWorld r most InputOk StateOk (play_event r same w e)
  play_event_ok w (arrive offers) is ok = arrive_ok law same decides w offers is ok
  play_event_ok w (turn l) is ok = from (has_work r (copy_at r w l))
    where
      from : (b : Bool) → IsWorld r most InputOk StateOk (cond b (world_turn r w l) w)
      from true = turn_ok law w l is
      from false = is

  pub levels-event : (w : World I O S) (e : Event I) → levels (play_event r same w e) ≡ levels w
  levels-event w (arrive offers) = ap length (leaders-arrive r same w offers) ∙ length-split same decides w.leaders offers
  levels-event w (turn l) = from (has_work r (copy_at r w l))
    where
      from : (b : Bool) → levels (cond b (world_turn r w l) w) ≡ levels w
      from true = ap length (leaders-turn r w l)
      from false = refl

  comes_event : (n : ℕ) (w : World I O S) (es : List (Event I)) (e : Event I) → IsWorld r most InputOk StateOk w → Comes r most n w es → Comes r most n (play_event r same w e) (es ++ e ∷ [])
  comes_event n w es (arrive offers) is at = comes_arrive r most same decides n w es offers at
  comes_event n w es (turn l) is at = from (has_work r (copy_at r w l))
    where
      from : (b : Bool) → Comes r most n (cond b (world_turn r w l) w) (es ++ turn l ∷ [])
      from true = comes_turn r most n w es l (λ k lt. (is.ok k lt).ends) at
      from false = comes_still r most n w es l at

  comes_events : (n : ℕ) (w : World I O S) (es fs : List (Event I)) → IsWorld r most InputOk StateOk w → All (EventOk InputOk n) fs → Comes r most n w es
      → IsWorld r most InputOk StateOk (play_events r same w fs) × Comes r most n (play_events r same w fs) (es ++ fs)
  comes_events n w es [] is ok at = (is, subst (Comes r most n w) (sym (append-nil es)) at)
  comes_events n w es (e ∷ fs) is ok at =
      let here = All-head (EventOk InputOk n) e fs ok in
      let next = play_event_ok w e is (subst (λ k. EventOk InputOk k e) (sym at.count) here) in
      let done = comes_events n (play_event r same w e) (es ++ e ∷ []) fs next (All-tail (EventOk InputOk n) e fs ok) (comes_event n w es e is at) in
      (done.0, subst (Comes r most n (play_events r same (play_event r same w e) fs)) (append_assoc es (e ∷ []) fs) done.1)

  played : (n : ℕ) (w : World I O S) (es : List (Event I)) → Comes r most n w es → IsPlayed r most w es
  played n w es at = record {
    begins = λ l lt.
        let e = at.count in
        Begins-same (joined (plain (machine_of r most) (offered_to l es))) (finish r most (copy_at r w l)).outputs (copy_at r w l).outputs
        (ap (λ c. c.outputs) (sym (at.come l (omega arith)))) (finish_begins r most (copy_at r w l));
    all_put = λ l lt rests.
        let e = at.count in
        ap (λ c. c.outputs) (sym (finish_rest r most (copy_at r w l) rests) ∙ at.come l (omega arith));
    classes = λ k l in_k in_l. let e = at.count in at.classes k l (omega arith) (omega arith);
  }

  -- after any list of events from a new world
  pub every_schedule : (n : ℕ) (es : List (Event I)) → All (EventOk InputOk n) es → IsPlayed r most (play_events r same (new_world r n) es) es
  every_schedule n es ok = played n (play_events r same (new_world r n) es) es (comes_events n (new_world r n) [] es (new_world_ok law n) ok (comes_start r most n law.start_quiet)).1

  -- any list of events keeps a world well formed
  pub play_events_ok : (w : World I O S) (es : List (Event I)) → IsWorld r most InputOk StateOk w → All (EventOk InputOk (levels w)) es → IsWorld r most InputOk StateOk (play_events r same w es)
  play_events_ok w [] is ok = is
  play_events_ok w (e ∷ es) is ok =
      play_events_ok (play_event r same w e) es (play_event_ok w e is (All-head (EventOk InputOk (levels w)) e es ok))
      (subst (λ k. All (EventOk InputOk k) es) (sym (levels-event w e)) (All-tail (EventOk InputOk (levels w)) e es ok))
