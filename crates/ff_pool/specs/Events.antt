-- What comes to a pool, as what comes to a world.
use Rattle.std.specs.Prelude.{ℕ, ◌+◌, List, [], ◌∷◌, map}
use Rattle.ff_value.specs.Spelled.{IsWellSpelledInput}
use Rattle.ff_value.specs.declared.input.Input.{Input}
use Rattle.ff_confinement.specs.Worlds as worlds
use Rattle.ff_confinement.specs.Worlds.{EventOk}
use Rattle.ff_confinement.specs.Worlds.Event.{arrive, turn}
use Rattle.ff_machine.specs.Machine.{reactor}
use Rattle.ff_confinement.specs.Worlds.{play_event}
use Rattle.ff_value.specs.Same.{same_input}
use Rattle.ff_pool.specs.Pooled.{Pooled, step_turns}
use Rattle.ff_pool.specs.declared.event.Event.{Event}
use Rattle.ff_pool.specs.declared.event.Event.TheVariants.{Arrive, Turn}

abbrev pub event_of : Event → worlds.Event Input
event_of (Arrive offers) = arrive offers
event_of (Turn l) = turn l.0

abbrev pub events_of : List Event → List (worlds.Event Input)
events_of es = map event_of es

-- an event for a pool of n levels: an arrival has a well spelled offer for each, a turn is of one
abbrev pub IsEvent : ℕ → Event → Type 0
IsEvent n e = EventOk IsWellSpelledInput n (event_of e)

-- one event
abbrev pub played_one : Pooled → Event → Pooled
played_one p e = record p { world = play_event (reactor p.fuel) same_input p.world (event_of e) }

-- the turns that an event counts: one, where it is a step of a level whose browser isn't quiet
abbrev pub turns_of_event : Pooled → Event → ℕ
turns_of_event p (Arrive offers) = 0
turns_of_event p (Turn l) = step_turns p l.0

-- the turns that events count, one after another
abbrev pub turns_of_events : Pooled → List Event → ℕ
turns_of_events p [] = 0
turns_of_events p (e ∷ es) = turns_of_event p e + turns_of_events (played_one p e) es
