-- The parts of a pool as a world of copies: what each change of the parts makes of the world.
use Rattle.std.proofs.Common.{◌≡◌, ℕ, ◌+◌, ◌<◌, ◌≤◌, Bool, true, false, cond, ◌==◌, Option, List, [], ◌∷◌, ◌++◌, length, map, All, get_or, set, refl, sym, ap, ap₂, subst, ◌∙◌, arith, length-set, get_or-set_same, get_or-set_other}
use Rattle.std.proofs.lemmas.Bool.{eqb-true, eqb-false}
use Rattle.std.proofs.lemmas.List.{get_or_default}
use Rattle.std.proofs.lemmas.List.Elements.{All-from_get_or, All-get_or, All-head, All-tail}
use Rattle.ff_lattice.specs.declared.names.TheConstants.{MOST_LEVELS}
use Rattle.ff_value.specs.Spelled.{IsWellSpelledInput}
use Rattle.ff_value.specs.declared.input.Input.{Input}
use Rattle.ff_value.specs.declared.output.Out.{Out}
use Rattle.ff_machine.specs.State.{State}
use Rattle.ff_machine.specs.Valid.{IsState}
use Rattle.ff_machine.specs.Machine.{reactor}
use Rattle.ff_reactor.proofs.Keeping.{keeps, fuelled}
use Rattle.ff_confinement.specs.Worlds.{Copy, leader, offer, each, copy_at, step_copy, offered, emptied, has_work, step_turns, new_leader, split, new_world, world_arrive, world_turn, world_take, Ends, IsCopy, AreOffers}
use Rattle.ff_confinement.proofs.Below.{length-each, get_or-each, each_agree}
use Rattle.ff_confinement.specs.Runs.{Handled}
use Rattle.ff_confinement.proofs.Finishing.{ends_by_fuel}
use Rattle.ff_confinement.proofs.Turns.{settle_quiet}
use Rattle.ff_confinement.proofs.Classes.{together_parts, new_leader_within, new_leader_together, new_leader_itself, leader-split, length-split}
use Rattle.ff_confinement.proofs.Worlds.{new_world_ok, arrive_ok, turn_ok, take_ok}
use Rattle.ff_value.specs.Same.{same_input}
use Rattle.ff_pool.specs.Heads.{Head, HasArrived, new_head, head_at, outputs_at, step_of, step_head, offer_head, head_turns, head_works, given, gathered_copy, gathered_copies, gathered, IsWorldOf, IsKept}
use Rattle.ff_pool.specs.Pooled.{Pooled, copy_of, seen}
use Rattle.ff_pool.specs.Classes.{tops, AreLed}
use Rattle.ff_pool.specs.Restored.{pool_recs, HaveBrowsers, IsFresh, IsResting}
use Rattle.ff_pool.proofs.Leaders.{tops_less, tops_lead}
use Rattle.ff_pool.proofs.Parting.{same_input_decides}

-- a browser ends each input in one turn more than it brings fuel
pub ends : (fuel : ℕ) → Ends (reactor fuel) (fuel + 1) IsWellSpelledInput (IsState fuel)
ends fuel = ends_by_fuel (keeps fuel) (fuelled fuel) refl

-- a copy with these outputs
abbrev copy_with : Head → List Out → Copy Input Out State
copy_with h os = record { state = h.state; inbox = h.inbox; outputs = os }

pub copy-gathered : (fuel : ℕ) (heads : List Head) (puts : List (List Out)) (leaders : List ℕ) (l : ℕ) → l < length leaders
    → copy_at (reactor fuel) (gathered fuel heads puts leaders) l ≡ gathered_copy fuel heads puts leaders l
unfolding gathered_copies
copy-gathered fuel heads puts leaders l lt = get_or-each (gathered_copy fuel heads puts leaders) (length leaders) l (record { state = (new_head fuel).state; inbox = []; outputs = [] }) lt

module _ {fuel : ℕ} {heads : List Head} {puts : List (List Out)} {leaders : List ℕ} (kept : IsKept fuel heads puts leaders) where
  -- leaders lead, and have heads
  pub led_in : (l : ℕ) → l < length leaders → leader leaders l < length leaders
  led_in l lt = let less = kept.world.led.before l lt in omega (arith, less)

  pub head_in : (l : ℕ) → l < length leaders → leader leaders l < length heads
  head_in l lt = let less = led_in l lt in let e = kept.heads_count in omega (arith, less, e)

  -- a head at any default
  pub head_default : (l : ℕ) → l < length leaders → (d : Head) → get_or heads (leader leaders l) d ≡ head_at fuel heads (leader leaders l)
  head_default l lt d = get_or_default heads (leader leaders l) d (new_head fuel) (head_in l lt)

  -- what waits for a class is well spelled
  pub spelled_at : (l : ℕ) → l < length leaders → (d : Head) → All IsWellSpelledInput (get_or heads (leader leaders l) d).inbox
  spelled_at l lt d =
      subst (λ h. All IsWellSpelledInput h.inbox) (sym (head_default l lt d))
      (subst (λ c. All IsWellSpelledInput c.inbox) (copy-gathered fuel heads puts leaders l lt) (kept.world.ok l lt).inbox_ok)

  -- one step of a class
  pub gathered-turn : (heads' : List Head) (puts' : List (List Out)) (l : ℕ) → l < length leaders
      → heads' ≡ set heads (leader leaders l) (step_head (head_at fuel heads (leader leaders l)))
      → puts' ≡ given puts leaders (leader leaders l) (step_of (head_at fuel heads (leader leaders l))).outputs
      → gathered fuel heads' puts' leaders ≡ world_turn (reactor fuel) (gathered fuel heads puts leaders) l
  unfolding gathered_copies world_turn given
  gathered-turn heads' puts' l lt at_heads at_puts = ap (λ cs. record { copies = cs; leaders = leaders })
      (each_agree (gathered_copy fuel heads' puts' leaders)
      (λ k. cond (leader leaders k == leader leaders l) (step_copy (reactor fuel) (copy_at (reactor fuel) (gathered fuel heads puts leaders) k)) (copy_at (reactor fuel) (gathered fuel heads puts leaders) k))
      (length leaders)
      (λ k in_k. ap₂ copy_with (at_head k) (ap (λ ps. outputs_at ps k) at_puts ∙ get_or-each (λ j. cond (leader leaders j == top) (outputs_at puts j ++ (step_of h).outputs) (outputs_at puts j)) (length leaders) k [] in_k)
      ∙ from k (leader leaders k == top) refl
      ∙ ap (λ c. cond (leader leaders k == top) (step_copy (reactor fuel) c) c) (sym (copy-gathered fuel heads puts leaders k in_k))))
    where
      top : ℕ
      top = leader leaders l

      h : Head
      h = head_at fuel heads top

      pick : (k : ℕ) (b : Bool) → (leader leaders k == top) ≡ b → get_or (set heads top (step_head h)) (leader leaders k) (new_head fuel) ≡ cond b (step_head h) (head_at fuel heads (leader leaders k))
      pick k true e = ap (λ j. get_or (set heads top (step_head h)) j (new_head fuel)) (eqb-true (leader leaders k) top e) ∙ get_or-set_same heads top (step_head h) (new_head fuel) (head_in l lt)
      pick k false e = get_or-set_other heads top (leader leaders k) (step_head h) (new_head fuel) (eqb-false (leader leaders k) top e)

      at_head : (k : ℕ) → head_at fuel heads' (leader leaders k) ≡ cond (leader leaders k == top) (step_head h) (head_at fuel heads (leader leaders k))
      at_head k = ap (λ hs. head_at fuel hs (leader leaders k)) at_heads ∙ pick k (leader leaders k == top) refl

      from : (k : ℕ) (b : Bool) → (leader leaders k == top) ≡ b
          → copy_with (cond b (step_head h) (head_at fuel heads (leader leaders k))) (cond b (outputs_at puts k ++ (step_of h).outputs) (outputs_at puts k))
          ≡ cond b (step_copy (reactor fuel) (gathered_copy fuel heads puts leaders k)) (gathered_copy fuel heads puts leaders k)
      from k true e = ap (λ j. step_copy (reactor fuel) (copy_with (head_at fuel heads j) (outputs_at puts k))) (sym (eqb-true (leader leaders k) top e))
      from k false e = refl

  pub kept-turn : (heads' : List Head) (puts' : List (List Out)) (l : ℕ) → l < length leaders
      → heads' ≡ set heads (leader leaders l) (step_head (head_at fuel heads (leader leaders l)))
      → puts' ≡ given puts leaders (leader leaders l) (step_of (head_at fuel heads (leader leaders l))).outputs
      → IsKept fuel heads' puts' leaders
  unfolding given
  kept-turn heads' puts' l lt at_heads at_puts = record {
    heads_count = ap length at_heads ∙ length-set heads (leader leaders l) (step_head (head_at fuel heads (leader leaders l))) ∙ kept.heads_count;
    puts_count = ap length at_puts ∙ length-each (λ j. cond (leader leaders j == leader leaders l) (outputs_at puts j ++ (step_of (head_at fuel heads (leader leaders l))).outputs) (outputs_at puts j)) (length leaders);
    most = kept.most;
    world = subst (IsWorldOf fuel) (sym (gathered-turn heads' puts' l lt at_heads at_puts)) (turn_ok (ends fuel) (gathered fuel heads puts leaders) l kept.world);
  }

  -- outputs that are taken
  pub gathered-take : (puts' : List (List Out)) (l : ℕ) → puts' ≡ set puts l [] → gathered fuel heads puts' leaders ≡ world_take (reactor fuel) (gathered fuel heads puts leaders) l
  unfolding gathered_copies world_take
  gathered-take puts' l at_puts = ap (λ cs. record { copies = cs; leaders = leaders })
      (each_agree (gathered_copy fuel heads puts' leaders)
      (λ k. cond (k == l) (emptied (reactor fuel) (copy_at (reactor fuel) (gathered fuel heads puts leaders) k)) (copy_at (reactor fuel) (gathered fuel heads puts leaders) k))
      (length leaders)
      (λ k in_k. ap (copy_with (head_at fuel heads (leader leaders k))) (ap (λ ps. outputs_at ps k) at_puts ∙ pick k in_k (k == l) refl)
      ∙ from k (k == l)
      ∙ ap (λ c. cond (k == l) (emptied (reactor fuel) c) c) (sym (copy-gathered fuel heads puts leaders k in_k))))
    where
      pick : (k : ℕ) → k < length leaders → (b : Bool) → (k == l) ≡ b → outputs_at (set puts l []) k ≡ cond b [] (outputs_at puts k)
      pick k in_k true e =
          let same = eqb-true k l e in
          let count = kept.puts_count in
          ap (outputs_at (set puts l [])) same ∙ get_or-set_same puts l [] [] (omega arith)
      pick k in_k false e = get_or-set_other puts l k [] [] (eqb-false k l e)

      from : (k : ℕ) (b : Bool) → copy_with (head_at fuel heads (leader leaders k)) (cond b [] (outputs_at puts k)) ≡ cond b (emptied (reactor fuel) (gathered_copy fuel heads puts leaders k)) (gathered_copy fuel heads puts leaders k)
      from k true = refl
      from k false = refl

  pub kept-take : (puts' : List (List Out)) (l : ℕ) → puts' ≡ set puts l [] → IsKept fuel heads puts' leaders
  kept-take puts' l at_puts = record {
    heads_count = kept.heads_count;
    puts_count = ap length at_puts ∙ length-set puts l [] ∙ kept.puts_count;
    most = kept.most;
    world = subst (IsWorldOf fuel) (sym (gathered-take puts' l at_puts)) (take_ok (ends fuel) (gathered fuel heads puts leaders) l kept.world);
  }

  -- offers that arrive
  pub gathered-arrive : (heads' : List Head) (offers : List (Option Input)) → HasArrived leaders offers heads heads' (new_head fuel)
      → gathered fuel heads' puts (split same_input leaders offers) ≡ world_arrive (reactor fuel) same_input (gathered fuel heads puts leaders) offers
  unfolding gathered_copies world_arrive
  gathered-arrive heads' offers arrived = ap (λ cs. record { copies = cs; leaders = new })
      (ap (λ n. each (gathered_copy fuel heads' puts new) n) (length-split same_input same_input_decides leaders offers)
      ∙ each_agree (gathered_copy fuel heads' puts new) (λ k. offered (reactor fuel) (copy_at (reactor fuel) (gathered fuel heads puts leaders) k) (offer offers k)) (length leaders)
      (λ k in_k. ap (λ h. copy_with h (outputs_at puts k)) (at_head k in_k) ∙ ap (λ c. offered (reactor fuel) c (offer offers k)) (sym (copy-gathered fuel heads puts leaders k in_k))))
    where
      new : List ℕ
      new = split same_input leaders offers

      at : (k : ℕ) → k < length leaders → leader new k ≡ new_leader same_input leaders offers k
      at k in_k = leader-split same_input same_input_decides leaders offers k in_k

      at_head : (k : ℕ) → k < length leaders → head_at fuel heads' (leader new k) ≡ offer_head (head_at fuel heads (leader leaders k)) (offer offers k)
      at_head k in_k =
          let top = new_leader same_input leaders offers k in
          let less = new_leader_within same_input same_input_decides leaders offers k in
          let parts = together_parts same_input same_input_decides leaders offers top k (new_leader_together same_input same_input_decides leaders offers k) in
          ap (head_at fuel heads') (at k in_k)
          ∙ arrived top (omega arith) (at top (omega arith) ∙ new_leader_itself same_input same_input_decides leaders offers k)
          ∙ ap₂ (λ j o. offer_head (head_at fuel heads j) o) parts.0 parts.1

  pub kept-arrive : (heads' : List Head) (offers : List (Option Input)) → length heads' ≡ length heads → AreOffers IsWellSpelledInput (length leaders) offers → HasArrived leaders offers heads heads' (new_head fuel)
      → IsKept fuel heads' puts (split same_input leaders offers)
  kept-arrive heads' offers long good arrived =
      let same = length-split same_input same_input_decides leaders offers in
      record {
        heads_count = long ∙ kept.heads_count ∙ sym same;
        puts_count = kept.puts_count ∙ sym same;
        most = let most = kept.most in omega (arith, same, most);
        world = subst (IsWorldOf fuel) (sym (gathered-arrive heads' offers arrived)) (arrive_ok (ends fuel) same_input same_input_decides (gathered fuel heads puts leaders) offers kept.world good);
      }

-- the parts of a new pool
pub gathered-new : (fuel n : ℕ) (heads : List Head) (puts : List (List Out)) (leaders : List ℕ)
    → heads ≡ each (λ k. new_head fuel) n → puts ≡ each (λ k. []) n → leaders ≡ each (λ k. 0) n
    → gathered fuel heads puts leaders ≡ new_world (reactor fuel) n
unfolding gathered_copies new_world
gathered-new fuel n heads puts leaders at_heads at_puts at_leaders =
    ap₂ (λ cs ls. record { copies = cs; leaders = ls })
    (ap (λ m. each (gathered_copy fuel heads puts leaders) m) (ap length at_leaders ∙ length-each {X = ℕ} (λ k. 0) n)
    ∙ each_agree (gathered_copy fuel heads puts leaders) (λ k. copy_with (new_head fuel) []) n
    (λ k in_k. ap₂ copy_with (head k in_k) (ap (λ ps. outputs_at ps k) at_puts ∙ get_or-each {X = List Out} (λ j. []) n k [] in_k)))
    at_leaders
  where
    head : (k : ℕ) → k < n → head_at fuel heads (leader leaders k) ≡ new_head fuel
    head k in_k =
        ap₂ (λ hs j. head_at fuel hs j) at_heads (ap (λ ls. leader ls k) at_leaders ∙ get_or-each {X = ℕ} (λ j. 0) n k 0 in_k)
        ∙ get_or-each (λ j. new_head fuel) n 0 (new_head fuel) (omega arith)

pub kept-new : (fuel n : ℕ) (heads : List Head) (puts : List (List Out)) (leaders : List ℕ) → n ≤ MOST_LEVELS
    → heads ≡ each (λ k. new_head fuel) n → puts ≡ each (λ k. []) n → leaders ≡ each (λ k. 0) n
    → IsKept fuel heads puts leaders
kept-new fuel n heads puts leaders most at_heads at_puts at_leaders =
    let long = ap length at_leaders ∙ length-each {X = ℕ} (λ k. 0) n in
    record {
      heads_count = ap length at_heads ∙ length-each (λ k. new_head fuel) n ∙ sym long;
      puts_count = ap length at_puts ∙ length-each {X = List Out} (λ k. []) n ∙ sym long;
      most = omega (arith, long);
      world = subst (IsWorldOf fuel) (sym (gathered-new fuel n heads puts leaders at_heads at_puts at_leaders)) (new_world_ok (ends fuel) n);
    }

-- a level's work, from that of its head
pub work_at : {fuel : ℕ} {heads : List Head} {puts : List (List Out)} {leaders : List ℕ} → IsKept fuel heads puts leaders → (l : ℕ) → l < length leaders
    → head_works (head_at fuel heads (leader leaders l)) ≡ has_work (reactor fuel) (copy_at (reactor fuel) (gathered fuel heads puts leaders) l)
work_at {fuel} {heads} {puts} {leaders} kept l lt = ap (has_work (reactor fuel)) (sym (copy-gathered fuel heads puts leaders l lt))

pub turns_at : {fuel : ℕ} {heads : List Head} {puts : List (List Out)} {leaders : List ℕ} → IsKept fuel heads puts leaders → (l : ℕ) → l < length leaders
    → head_turns (head_at fuel heads (leader leaders l)) ≡ step_turns (reactor fuel) (copy_at (reactor fuel) (gathered fuel heads puts leaders) l).state
turns_at {fuel} {heads} {puts} {leaders} kept l lt = ap (λ c. step_turns (reactor fuel) c.state) (sym (copy-gathered fuel heads puts leaders l lt))

pub state_at : {fuel : ℕ} {heads : List Head} {puts : List (List Out)} {leaders : List ℕ} → IsKept fuel heads puts leaders → (l : ℕ) → l < length leaders
    → (head_at fuel heads (leader leaders l)).state ≡ (copy_at (reactor fuel) (gathered fuel heads puts leaders) l).state
state_at {fuel} {heads} {puts} {leaders} kept l lt = ap (λ c. c.state) (sym (copy-gathered fuel heads puts leaders l lt))

pub outputs_of : {fuel : ℕ} {heads : List Head} {puts : List (List Out)} {leaders : List ℕ} → IsKept fuel heads puts leaders → (l : ℕ) → l < length leaders
    → outputs_at puts l ≡ (copy_at (reactor fuel) (gathered fuel heads puts leaders) l).outputs
outputs_of {fuel} {heads} {puts} {leaders} kept l lt = ap (λ c. c.outputs) (sym (copy-gathered fuel heads puts leaders l lt))

-- the parts of a pool at rest, and the pool that they are
module _ {n fuel : ℕ} {classes : List (List ℕ)} {browsers : List State} {heads : List Head} {puts : List (List Out)} {leaders : List ℕ}
    (are : AreLed n classes leaders) (have : HaveBrowsers fuel leaders browsers heads) (none : puts ≡ each (λ l. []) n) where
  abbrev pub rested : Pooled
  rested = seen fuel false heads puts leaders

  at_level : (l : ℕ) → l < length leaders → copy_of rested l ≡ gathered_copy fuel heads puts leaders l
  at_level l lt = copy-gathered fuel heads puts leaders l lt

  fresh_at : (l : ℕ) → l < length leaders → IsFresh fuel (head_at fuel heads (leader leaders l))
  fresh_at l lt = let less = are.led.before l lt in All-get_or (IsFresh fuel) heads (leader leaders l) (new_head fuel) (omega (arith, lt, less, have.count)) have.fresh

  copy_is : (l : ℕ) → l < length leaders → IsCopy (reactor fuel) (fuel + 1) IsWellSpelledInput (IsState fuel) (gathered_copy fuel heads puts leaders l)
  copy_is l lt =
      let fresh = fresh_at l lt in
      record {
        state_ok = fresh.valid;
        ends = ap (λ (h : Handled Out State). h.after.quiet) (settle_quiet (reactor fuel) (fuel + 1) (head_at fuel heads (leader leaders l)).state fresh.quiet) ∙ fresh.quiet;
        inbox_ok = subst (All IsWellSpelledInput) (sym fresh.no_inputs) (λ k d less. absurd (omega (arith, less)));
      }

  -- the leader of a level has the level's head
  same_head : (l : ℕ) → l < length leaders → head_at fuel heads (leader leaders (leader leaders l)) ≡ head_at fuel heads (leader leaders l)
  same_head l lt = ap (head_at fuel heads) (are.led.itself l lt)

  top_in : (l : ℕ) → l < length leaders → leader leaders l < length leaders
  top_in l lt = let less = are.led.before l lt in omega (arith, lt, less)

  pub kept-rest : n ≤ MOST_LEVELS → IsKept fuel heads puts leaders
  unfolding gathered_copies
  kept-rest most = record {
    heads_count = have.count;
    puts_count = ap length none ∙ length-each {X = List Out} (λ l. []) n ∙ sym are.levels;
    most = omega (arith, most, are.levels);
    world = record {
      count = length-gathered;
      led = are.led;
      ok = λ l lt. subst (IsCopy (reactor fuel) (fuel + 1) IsWellSpelledInput (IsState fuel)) (sym (at_level l lt)) (copy_is l lt);
      states_alike = λ l lt.
          ap (λ (c : Copy Input Out State). c.state) (at_level l lt) ∙ sym (ap (λ (h : Head). h.state) (same_head l lt))
          ∙ sym (ap (λ (c : Copy Input Out State). c.state) (at_level (leader leaders l) (top_in l lt)));
      inboxes_alike = λ l lt.
          ap (λ (c : Copy Input Out State). c.inbox) (at_level l lt) ∙ sym (ap (λ (h : Head). h.inbox) (same_head l lt))
          ∙ sym (ap (λ (c : Copy Input Out State). c.inbox) (at_level (leader leaders l) (top_in l lt)));
    };
  }
    where
      length-gathered : length (gathered_copies fuel heads puts leaders) ≡ length leaders
      length-gathered = length-each (gathered_copy fuel heads puts leaders) (length leaders)

  pub rests : n ≤ MOST_LEVELS → IsResting n fuel rested
  rests most = record {
    fuel_is = refl;
    unspent = refl;
    levels = are.levels;
    valid = (kept-rest most).world;
    quiet = λ l lt. ap (λ (c : Copy Input Out State). c.state.quiet) (at_level l (omega (arith, lt, are.levels))) ∙ (fresh_at l (omega (arith, lt, are.levels))).quiet;
    no_inputs = λ l lt. ap (λ (c : Copy Input Out State). c.inbox) (at_level l (omega (arith, lt, are.levels))) ∙ (fresh_at l (omega (arith, lt, are.levels))).no_inputs;
    no_outputs = λ l lt. ap (λ (c : Copy Input Out State). c.outputs) (at_level l (omega (arith, lt, are.levels))) ∙ ap (λ ps. outputs_at ps l) none ∙ get_or-each {X = List Out} (λ j. []) n l [] lt;
  }

  -- it has these classes and browsers
  pub rest_recs : pool_recs rested ≡ record { classes = classes; browsers = browsers }
  rest_recs = ap₂ (λ cs bs. record { classes = cs; browsers = bs }) are.classes_are (states_agree (tops leaders) (tops_less leaders (length leaders)) lead_all ∙ have.browsers_are)
    where
      lead_all : All (λ l. leader leaders l ≡ l) (tops leaders)
      lead_all = All-from_get_or (λ l. leader leaders l ≡ l) (tops leaders) 0 (λ k less. tops_lead leaders (length leaders) k 0 less)

      states_agree : (ls : List ℕ) → All (λ l. l < length leaders) ls → All (λ l. leader leaders l ≡ l) ls → map (λ l. (copy_of rested l).state) ls ≡ map (λ l. (head_at fuel heads l).state) ls
      states_agree [] within lead = refl
      states_agree (l ∷ ls) within lead =
          ap₂ (λ (s : State) ss. s ∷ ss)
          (ap (λ (c : Copy Input Out State). c.state) (at_level l (All-head (λ k. k < length leaders) l ls within)) ∙ ap (λ k. (head_at fuel heads k).state) (All-head (λ k. leader leaders k ≡ k) l ls lead))
          (states_agree ls (All-tail (λ k. k < length leaders) l ls within) (All-tail (λ k. leader leaders k ≡ k) l ls lead))
