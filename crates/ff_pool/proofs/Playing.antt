-- What holds after any list of events from a new pool.
use Rattle.std.proofs.Common.{◌≡◌, ℕ, ◌+◌, false, List, All, sym, ap, subst, ◌∙◌}
use Rattle.std.proofs.lemmas.List.Elements.{All-map}
use Rattle.ff_value.specs.Spelled.{IsWellSpelledInput}
use Rattle.ff_machine.specs.Machine.{reactor}
use Rattle.ff_confinement.specs.Worlds.{EventOk, IsPlayed}
use Rattle.ff_confinement.proofs.Worlds.{levels-new}
use Rattle.ff_confinement.proofs.Schedules.{every_schedule}
use Rattle.ff_value.specs.Same.{same_input}
use Rattle.ff_pool.specs.Pooled.{Pooled, size, played, new_pool}
use Rattle.ff_pool.specs.Events.{event_of, events_of, IsEvent}
use Rattle.ff_pool.specs.declared.event.Event.{Event}
use Rattle.ff_pool.proofs.Parting.{same_input_decides}
use Rattle.ff_pool.proofs.Gathering.{ends}

pub schedule : (p q : Pooled) (es : List Event) → q ≡ played p (events_of es) → (p.spent ≡ false → All (IsEvent (size p)) es)
    → (n fuel : ℕ) → p ≡ new_pool n fuel → IsPlayed (reactor fuel) (fuel + 1) q.world (events_of es)
schedule p q es done ok n fuel fresh =
    let all = All-map (EventOk IsWellSpelledInput n) event_of es (subst (λ k. All (IsEvent k) es) (ap size fresh ∙ levels-new (reactor fuel) n) (ok (ap (λ s. s.spent) fresh))) in
    subst (λ w. IsPlayed (reactor fuel) (fuel + 1) w (events_of es)) (sym (ap (λ s. s.world) done ∙ ap (λ s. (played s (events_of es)).world) fresh))
    (every_schedule (ends fuel) same_input same_input_decides n (events_of es) all)
