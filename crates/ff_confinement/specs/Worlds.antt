-- A world of copies: a state for each level, with the inputs that wait for it and the outputs that
-- nobody took, and the classes of levels that are one copy.
use Rattle.std.specs.Prelude.{◌≡◌, ◌↔◌, ℕ, ◌+◌, ◌<◌, ◌≤◌, Bool, true, false, cond, not, ◌==◌, ◌&&◌, ◌||◌, Option, Some, None, List, [], ◌∷◌, ◌++◌, length, map, sum_by, All, ⊤, slice_index, slice_index_or}
use Rattle.std.specs.List.{position_or_len, cons_option}
use Rattle.std.specs.Option.{option_eq}
use Rattle.ff_confinement.specs.Runs.{joined, after_from, plain_from, turns_from, plain}
use Rattle.ff_confinement.specs.Turns.{Reactor, settle, machine_of}
use Rattle.ff_contract.specs.Lists.{below, Begins}

-- A copy: its state, the inputs that wait in order, and the outputs that weren't taken.
pub record Copy (I O S : Type 0) : Type 0 where
  pub state : S
  pub inbox : List I
  pub outputs : List O

-- A copy for each level. `leaders` has for each level the least level of its class: the levels of a
-- class have been one copy so far.
pub record World (I O S : Type 0) : Type 0 where
  pub copies : List (Copy I O S)
  pub leaders : List ℕ

-- What comes to a world: an offer for each level, or a step of the class of a level.
pub data Event (I : Type 0) : Type 0 where
  arrive : List (Option I) → Event I
  turn : ℕ → Event I

-- A level's leader, and what it is offered.
abbrev pub leader : List ℕ → ℕ → ℕ
leader leaders l = slice_index leaders l

abbrev pub offer : {I : Type 0} → List (Option I) → ℕ → Option I
offer offers l = slice_index_or offers l None

-- The number of levels.
abbrev pub levels : {I O S : Type 0} → World I O S → ℕ
levels w = length w.leaders

-- A list with an entry for each of the numbers below n.
abbrev pub each : {X : Type 0} → (ℕ → X) → ℕ → List X
each f n = map f (below n)

-- The classes that are left where levels with different offers part: whether a level keeps with
-- another one, and the least level that it keeps with.
abbrev pub keep_together : {I : Type 0} → (I → I → Bool) → List ℕ → List (Option I) → ℕ → ℕ → Bool
keep_together same leaders offers k l = leader leaders k == leader leaders l && option_eq same (offer offers k) (offer offers l)

abbrev pub new_leader : {I : Type 0} → (I → I → Bool) → List ℕ → List (Option I) → ℕ → ℕ
new_leader same leaders offers l = position_or_len (λ k. keep_together same leaders offers k l) (below l)

unfoldable pub split : {I : Type 0} → (I → I → Bool) → List ℕ → List (Option I) → List ℕ
split same leaders offers = each (new_leader same leaders offers) (length leaders)

module _ {I O S : Type 0} (r : Reactor I O S) where
  -- The copy of a level that nothing was offered to.
  abbrev pub new_copy : Copy I O S
  new_copy = record { state = r.start; inbox = []; outputs = [] }

  abbrev pub copy_at : World I O S → ℕ → Copy I O S
  copy_at w l = slice_index_or w.copies l new_copy

  -- All levels in one class, and nothing was offered to any of them.
  unfoldable pub new_world : ℕ → World I O S
  new_world n = record { copies = each (λ l. new_copy) n; leaders = each (λ l. 0) n }

  -- What one step makes of a state and an inbox, and what it puts: a quiet state takes the first
  -- input, if there is one, and any other makes a turn.
  abbrev pub taken : S → List I → Copy I O S
  taken s [] = record { state = s; inbox = []; outputs = [] }
  taken s (i ∷ is) = record { state = (r.begin s i).after; inbox = is; outputs = (r.begin s i).outputs }

  abbrev pub turned_once : S → List I → Copy I O S
  turned_once s is = record { state = (r.turn s).after; inbox = is; outputs = (r.turn s).outputs }

  abbrev pub stepped : S → List I → Copy I O S
  stepped s is = cond (r.quiet s) (taken s is) (turned_once s is)

  -- A copy with that behind its outputs.
  abbrev pub gone_on : Copy I O S → Copy I O S → Copy I O S
  gone_on c done = record { state = done.state; inbox = done.inbox; outputs = c.outputs ++ done.outputs }

  abbrev pub step_copy : Copy I O S → Copy I O S
  step_copy c = gone_on c (stepped c.state c.inbox)

  -- The copy with an offer, where there is one, at the end of its inbox.
  abbrev pub offered : Copy I O S → Option I → Copy I O S
  offered c o = record { state = c.state; inbox = c.inbox ++ cons_option o []; outputs = c.outputs }

  -- A copy has work where it isn't quiet or an input waits.
  abbrev pub waits : List I → Bool
  waits [] = false
  waits (i ∷ is) = true

  abbrev pub works : S → List I → Bool
  works s is = not (r.quiet s) || waits is

  abbrev pub has_work : Copy I O S → Bool
  has_work c = works c.state c.inbox

  -- How many turns one step counts.
  abbrev pub step_turns : S → ℕ
  step_turns s = cond (r.quiet s) 0 1

  -- Each level's offer arrives, and levels of a class that are offered different things part.
  unfoldable pub world_arrive : (I → I → Bool) → World I O S → List (Option I) → World I O S
  world_arrive same w offers = record { copies = each (λ k. offered (copy_at w k) (offer offers k)) (levels w); leaders = split same w.leaders offers }

  -- The class of a level makes one step.
  unfoldable pub world_turn : World I O S → ℕ → World I O S
  world_turn w l = record { copies = each (λ k. cond (leader w.leaders k == leader w.leaders l) (step_copy (copy_at w k)) (copy_at w k)) (levels w); leaders = w.leaders }

  -- The outputs of a level are taken.
  abbrev pub emptied : Copy I O S → Copy I O S
  emptied c = record { state = c.state; inbox = c.inbox; outputs = [] }

  unfoldable pub world_take : World I O S → ℕ → World I O S
  world_take w l = record { copies = each (λ k. cond (k == l) (emptied (copy_at w k)) (copy_at w k)) (levels w); leaders = w.leaders }

  -- One event after another, where a step of a level without work changes nothing.
  abbrev pub play_event : (I → I → Bool) → World I O S → Event I → World I O S
  play_event same w (arrive offers) = world_arrive same w offers
  play_event same w (turn l) = cond (has_work (copy_at w l)) (world_turn w l) w

  abbrev pub play_events : (I → I → Bool) → World I O S → List (Event I) → World I O S
  play_events same w [] = w
  play_events same w (e ∷ es) = play_events same (play_event same w e) es

  -- With at most `most` turns for what a state began.
  module _ (most : ℕ) where
    -- A copy that has done all that waits for it, and the turns that this takes.
    abbrev pub settled : Copy I O S → S
    settled c = (settle r most c.state).after

    unfoldable pub finish : Copy I O S → Copy I O S
    finish c = record {
      state = after_from (machine_of r most) (settled c) c.inbox;
      inbox = [];
      outputs = (c.outputs ++ (settle r most c.state).outputs) ++ joined (plain_from (machine_of r most) (settled c) c.inbox);
    }

    unfoldable pub left : Copy I O S → ℕ
    left c = (settle r most c.state).turns + turns_from (machine_of r most) (settled c) c.inbox

    -- Every copy has done all that waits for it.
    unfoldable pub world_drain : World I O S → World I O S
    world_drain w = record { copies = each (λ k. finish (copy_at w k)) (levels w); leaders = w.leaders }

    -- The turns that this takes, where those of a class are made once.
    unfoldable pub world_left : World I O S → ℕ
    world_left w = sum_by (λ l. cond (leader w.leaders l == l) (left (copy_at w l)) 0) (below (levels w))

    -- The steps that this takes: turns, and inputs that are taken.
    unfoldable pub world_steps : World I O S → ℕ
    world_steps w = sum_by (λ l. cond (leader w.leaders l == l) (left (copy_at w l) + length (copy_at w l).inbox) 0) (below (levels w))

-- What a level was offered, in order.
abbrev pub offered_to : {I : Type 0} → ℕ → List (Event I) → List I
offered_to l [] = []
offered_to l (arrive offers ∷ es) = cons_option (offer offers l) (offered_to l es)
offered_to l (turn k ∷ es) = offered_to l es

-- Two levels were offered the same each time.
abbrev pub OfferedAlike : {I : Type 0} → ℕ → ℕ → List (Event I) → Type 0
OfferedAlike k l [] = ⊤
OfferedAlike k l (arrive offers ∷ es) = (offer offers k ≡ offer offers l) × OfferedAlike k l es
OfferedAlike k l (turn j ∷ es) = OfferedAlike k l es

-- A reactor ends each input in at most `most` turns, from well formed states and inputs.
pub record Ends {I O S : Type 0} (r : Reactor I O S) (most : ℕ) (InputOk : I → Type 0) (StateOk : S → Type 0) : Type 0 where
  pub start_ok : StateOk r.start
  pub start_quiet : r.quiet r.start ≡ true
  pub begin_ok : (s : S) (i : I) → StateOk s → InputOk i → StateOk (r.begin s i).after
  pub begin_ends : (s : S) (i : I) → StateOk s → InputOk i → r.quiet (settle r most (r.begin s i).after).after ≡ true
  pub turn_ok : (s : S) → StateOk s → r.quiet s ≡ false → StateOk (r.turn s).after

-- A well formed copy, whose state is quiet after at most `most` turns.
pub record IsCopy {I O S : Type 0} (r : Reactor I O S) (most : ℕ) (InputOk : I → Type 0) (StateOk : S → Type 0) (c : Copy I O S) : Type 0 where
  pub state_ok : StateOk c.state
  pub ends : r.quiet (settle r most c.state).after ≡ true
  pub inbox_ok : All InputOk c.inbox

-- Leaders are the least levels of their classes: a leader is at or before its level, and leads
-- itself.
pub record AreLeaders (leaders : List ℕ) : Type 0 where
  pub before : (l : ℕ) → l < length leaders → leader leaders l ≤ l
  pub itself : (l : ℕ) → l < length leaders → leader leaders (leader leaders l) ≡ leader leaders l

-- A world: well formed copies, and in each class they stand alike.
pub record IsWorld {I O S : Type 0} (r : Reactor I O S) (most : ℕ) (InputOk : I → Type 0) (StateOk : S → Type 0) (w : World I O S) : Type 0 where
  pub count : length w.copies ≡ length w.leaders
  pub led : AreLeaders w.leaders
  pub ok : (l : ℕ) → l < length w.leaders → IsCopy r most InputOk StateOk (copy_at r w l)
  pub states_alike : (l : ℕ) → l < length w.leaders → (copy_at r w l).state ≡ (copy_at r w (leader w.leaders l)).state
  pub inboxes_alike : (l : ℕ) → l < length w.leaders → (copy_at r w l).inbox ≡ (copy_at r w (leader w.leaders l)).inbox

-- No level has work.
abbrev pub AreAtRest : {I O S : Type 0} → Reactor I O S → World I O S → Type 0
AreAtRest r w = (l : ℕ) → l < levels w → has_work r (copy_at r w l) ≡ false

-- Offers of well formed inputs, one for each of n levels, and events of such offers.
abbrev pub OfferOk : {I : Type 0} → (I → Type 0) → Option I → Type 0
OfferOk InputOk None = ⊤
OfferOk InputOk (Some i) = InputOk i

pub record AreOffers {I : Type 0} (InputOk : I → Type 0) (n : ℕ) (offers : List (Option I)) : Type 0 where
  pub count : length offers ≡ n
  pub ok : All (OfferOk InputOk) offers

abbrev pub EventOk : {I : Type 0} → (I → Type 0) → ℕ → Event I → Type 0
EventOk InputOk n (arrive offers) = AreOffers InputOk n offers
EventOk InputOk n (turn l) = l < n

-- What holds of a world after any list of events, from a new one: what a level's copy has put
-- begins its plain run over what it was offered, and is all of that where the level has no work;
-- its class are the levels that were offered the same each time.
pub record IsPlayed {I O S : Type 0} (r : Reactor I O S) (most : ℕ) (w : World I O S) (es : List (Event I)) : Type 0 where
  pub begins : (l : ℕ) → l < levels w → Begins (joined (plain (machine_of r most) (offered_to l es))) (copy_at r w l).outputs
  pub all_put : (l : ℕ) → l < levels w → has_work r (copy_at r w l) ≡ false → (copy_at r w l).outputs ≡ joined (plain (machine_of r most) (offered_to l es))
  pub classes : (k l : ℕ) → k < levels w → l < levels w → (leader w.leaders k ≡ leader w.leaders l) ↔ OfferedAlike k l es
