-- The parts of a pool: a browser and an inbox for each class, the outputs of each level, and which
-- level leads which class; and the world of copies that these are.
use Rattle.std.specs.Prelude.{◌≡◌, ◌<◌, ◌≤◌, ℕ, Option, List, [], length, slice_index_or, slice_set, refl}
use Rattle.std.specs.List.{cons_option}
use Rattle.std.specs.Prelude.{◌++◌, ◌+◌, ◌==◌, Bool, true, cond}
use Rattle.std.specs.Coded.{Coded, code_by, coded×, coded_list}
use Rattle.ff_value.specs.Same.{same_input}
use Rattle.ff_lattice.specs.declared.names.TheConstants.{MOST_LEVELS}
use Rattle.ff_value.specs.Spelled.{IsWellSpelledInput}
use Rattle.ff_value.specs.declared.input.Input.{Input}
use Rattle.ff_value.specs.declared.output.Out.{Out}
use Rattle.ff_value.specs.contracts.input.Input as input
use Rattle.ff_machine.specs.State.{State, empty}
use Rattle.ff_machine.specs.Valid.{IsState}
use Rattle.ff_machine.specs.Machine.{reactor}
use Rattle.ff_machine.specs.Codes.{coded_state}
use Rattle.ff_confinement.specs.Worlds.{Copy, World, IsWorld, each, leader, offer, split, stepped, works, step_turns}

-- the copy of a class: the state of its browser, and the inputs that wait
pub record Head : Type 0 where
  pub state : State
  pub inbox : List Input

abbrev pub coded_head : Coded Head
coded_head =
    code_by (State × List Input) (coded× coded_state (coded_list input.the_row.coded)) (λ h. (h.state, h.inbox)) (λ p. record { state = p.0; inbox = p.1 }) (λ _. refl)

-- a browser to which nothing was offered
abbrev pub new_head : ℕ → Head
new_head fuel = record { state = empty fuel; inbox = [] }

abbrev pub head_at : ℕ → List Head → ℕ → Head
head_at fuel heads k = slice_index_or heads k (new_head fuel)

abbrev pub outputs_at : List (List Out) → ℕ → List Out
outputs_at puts k = slice_index_or puts k []

-- the head of the class that a level is in; d stands past the end of the list
abbrev pub led_head : List Head → List ℕ → ℕ → Head → Head
led_head heads leaders l d = slice_index_or heads (leader leaders l) d

-- what one step makes of a head, and what it puts
abbrev pub step_of : Head → Copy Input Out State
step_of h = stepped (reactor h.state.budget) h.state h.inbox

abbrev pub step_head : Head → Head
step_head h = record { state = (step_of h).state; inbox = (step_of h).inbox }

-- a head with an offer, where there is one, at the end of its inbox
abbrev pub offer_head : Head → Option Input → Head
offer_head h o = record { state = h.state; inbox = h.inbox ++ cons_option o [] }

-- whether a head has work, and the turns that one step of it counts
abbrev pub head_works : Head → Bool
head_works h = works (reactor h.state.budget) h.state h.inbox

abbrev pub head_turns : Head → ℕ
head_turns h = step_turns (reactor h.state.budget) h.state

-- A head is what one or more steps made of the head g, which had work before each, with the outputs
-- and turns so far.
pub data IsStepped (g : Head) (before : List Out) (turns : ℕ) : Head → List Out → ℕ → Type 0 where
  once : (h : Head) (outs : List Out) (now : ℕ) → h ≡ step_head g → outs ≡ before ++ (step_of g).outputs → now ≡ turns + head_turns g → IsStepped g before turns h outs now
  again : (mid h : Head) (between outs : List Out) (since now : ℕ) → IsStepped g before turns mid between since → head_works mid ≡ true
      → h ≡ step_head mid → outs ≡ between ++ (step_of mid).outputs → now ≡ since + head_turns mid → IsStepped g before turns h outs now

-- Where a step of g found no memory, no more turns were counted than with this one.
pub data MayCount (g : Head) (before : List Out) (turns now : ℕ) : Type 0 where
  at_once : now ≤ turns + head_turns g → MayCount g before turns now
  later : (mid : Head) (between : List Out) (since : ℕ) → IsStepped g before turns mid between since → now ≤ since + head_turns mid → MayCount g before turns now

-- the outputs of all levels, with these behind those of one class
unfoldable pub given : List (List Out) → List ℕ → ℕ → List Out → List (List Out)
given puts leaders top outs = each (λ k. cond (leader leaders k == top) (outputs_at puts k ++ outs) (outputs_at puts k)) (length leaders)

-- a level's copy: that of its leader, with its own outputs
abbrev pub gathered_copy : ℕ → List Head → List (List Out) → List ℕ → ℕ → Copy Input Out State
gathered_copy fuel heads puts leaders l = record {
  state = (head_at fuel heads (leader leaders l)).state;
  inbox = (head_at fuel heads (leader leaders l)).inbox;
  outputs = outputs_at puts l;
}

unfoldable pub gathered_copies : ℕ → List Head → List (List Out) → List ℕ → List (Copy Input Out State)
gathered_copies fuel heads puts leaders = each (gathered_copy fuel heads puts leaders) (length leaders)

abbrev pub gathered : ℕ → List Head → List (List Out) → List ℕ → World Input Out State
gathered fuel heads puts leaders = record { copies = gathered_copies fuel heads puts leaders; leaders = leaders }

-- a world of valid browsers, each with this budget, whose inboxes have well spelled
-- inputs
abbrev pub IsWorldOf : ℕ → World Input Out State → Type 0
IsWorldOf fuel w = IsWorld (reactor fuel) (fuel + 1) IsWellSpelledInput (IsState fuel) w

-- each level that leads now has the head of the one that led it before
abbrev pub HasForked : List ℕ → List ℕ → List Head → List Head → Type 0
HasForked before leaders old new = (l : ℕ) (d : Head) → l < length before → leader leaders l ≡ l → slice_index_or new l d ≡ slice_index_or old (leader before l) d

-- the leaders after an arrival have the heads of those that led them, with their offers; d stands
-- past the ends of the lists
abbrev pub HasArrived : List ℕ → List (Option Input) → List Head → List Head → Head → Type 0
HasArrived leaders offers old new d = (l : ℕ) → l < length leaders → leader (split same_input leaders offers) l ≡ l
    → slice_index_or new l d ≡ offer_head (slice_index_or old (leader leaders l) d) (offer offers l)

-- the parts of a pool where a level's class has made one or more steps
pub record IsClassStepped (heads : List Head) (puts : List (List Out)) (leaders : List ℕ) (l turns : ℕ) (heads' : List Head) (puts' : List (List Out)) (now : ℕ) : Type 0 where
  pub head : Head
  pub outs : List Out
  pub stepped : (d : Head) → IsStepped (slice_index_or heads (leader leaders l) d) [] turns head outs now
  pub heads_are : heads' ≡ slice_set heads (leader leaders l) head
  pub puts_are : puts' ≡ given puts leaders (leader leaders l) outs

-- the parts of a pool that isn't spent
pub record IsKept (fuel : ℕ) (heads : List Head) (puts : List (List Out)) (leaders : List ℕ) : Type 0 where
  pub heads_count : length heads ≡ length leaders
  pub puts_count : length puts ≡ length leaders
  pub most : length leaders ≤ MOST_LEVELS
  pub world : IsWorldOf fuel (gathered fuel heads puts leaders)
