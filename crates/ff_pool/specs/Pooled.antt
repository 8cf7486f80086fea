-- What clauses see of a pool, and what its calls make of it.
use Rattle.std.specs.Prelude.{◌+◌, ℕ, Bool, false, Option, List, refl}
use Rattle.std.specs.Coded.{Coded, code_by, coded×, coded_ℕ, coded_bool, coded_list}
use Rattle.ff_value.specs.Spelled.{IsWellSpelledInput}
use Rattle.ff_value.specs.declared.input.Input.{Input}
use Rattle.ff_value.specs.declared.output.Out.{Out}
use Rattle.ff_value.specs.contracts.input.Input as input
use Rattle.ff_value.specs.contracts.output.Out as out
use Rattle.ff_machine.specs.State.{State}
use Rattle.ff_machine.specs.Machine.{reactor}
use Rattle.ff_machine.specs.Codes.{coded_state}
use Rattle.ff_confinement.specs.Worlds as worlds
use Rattle.ff_confinement.specs.Worlds.{Copy, World, Event, new_world, world_arrive, world_turn, world_take, world_drain, world_left, play_events, AreOffers}
use Rattle.ff_value.specs.Same.{same_input}
use Rattle.ff_pool.specs.Heads.{Head, gathered, IsWorldOf}

-- a pool: the fuel that each input brings, whether a call found no memory, and the copies of all
-- levels
pub record Pooled : Type 0 where
  pub fuel : ℕ
  pub spent : Bool
  pub world : World Input Out State

abbrev coded_copy : Coded (Copy Input Out State)
coded_copy =
    code_by (State × (List Input × List Out))
    (coded× coded_state (coded× (coded_list input.the_row.coded) (coded_list out.the_row.coded)))
    (λ c. (c.state, (c.inbox, c.outputs))) (λ p. record { state = p.0; inbox = p.1.0; outputs = p.1.1 }) (λ _. refl)

abbrev pub coded_pooled : Coded Pooled
coded_pooled =
    code_by (ℕ × (Bool × (List (Copy Input Out State) × List ℕ)))
    (coded× coded_ℕ (coded× coded_bool (coded× (coded_list coded_copy) (coded_list coded_ℕ))))
    (λ p. (p.fuel, (p.spent, (p.world.copies, p.world.leaders))))
    (λ p. record { fuel = p.0; spent = p.1.0; world = record { copies = p.1.1.0; leaders = p.1.1.1 } })
    (λ _. refl)

-- a pool by its parts
abbrev pub seen : ℕ → Bool → List Head → List (List Out) → List ℕ → Pooled
seen fuel spent heads puts leaders = record { fuel = fuel; spent = spent; world = gathered fuel heads puts leaders }

-- the number of levels, and the copy of one of them
abbrev pub size : Pooled → ℕ
size p = worlds.levels p.world

abbrev pub copy_of : Pooled → ℕ → Copy Input Out State
copy_of p l = worlds.copy_at (reactor p.fuel) p.world l

abbrev pub has_work : Pooled → ℕ → Bool
has_work p l = worlds.has_work (reactor p.fuel) (copy_of p l)

-- a pool of n levels with nothing offered to any
abbrev pub new_pool : ℕ → ℕ → Pooled
new_pool n fuel = record { fuel = fuel; spent = false; world = new_world (reactor fuel) n }

-- what the calls make of a pool
abbrev pub arrived : Pooled → List (Option Input) → Pooled
arrived p offers = record p { world = world_arrive (reactor p.fuel) same_input p.world offers }

abbrev pub turned : Pooled → ℕ → Pooled
turned p l = record p { world = world_turn (reactor p.fuel) p.world l }

abbrev pub taken : Pooled → ℕ → Pooled
taken p l = record p { world = world_take (reactor p.fuel) p.world l }

abbrev pub drained : Pooled → Pooled
drained p = record p { world = world_drain (reactor p.fuel) (p.fuel + 1) p.world }

abbrev pub played : Pooled → List (Event Input) → Pooled
played p es = record p { world = play_events (reactor p.fuel) same_input p.world es }

-- the turns that one step of a level counts, and those that are left
abbrev pub step_turns : Pooled → ℕ → ℕ
step_turns p l = worlds.step_turns (reactor p.fuel) (copy_of p l).state

abbrev pub left : Pooled → ℕ
left p = world_left (reactor p.fuel) (p.fuel + 1) p.world

-- what holds of the copies of a pool that isn't spent
abbrev pub IsPool : Pooled → Type 0
IsPool p = IsWorldOf p.fuel p.world

-- well spelled offers, one for each level
abbrev pub AreOffersTo : Pooled → List (Option Input) → Type 0
AreOffersTo p offers = AreOffers IsWellSpelledInput (size p) offers
