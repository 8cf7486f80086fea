-- Pools at rest with equal records are equal.
use Rattle.std.proofs.Common.{◌≡◌, ℕ, ◌<◌, ◌≤◌, All, ap, ap₂, subst, arith, length}
use Rattle.std.proofs.lemmas.List.Elements.{All-map, All-weaker}
use Rattle.ff_lattice.specs.declared.names.TheConstants.{MOST_LEVELS}
use Rattle.ff_machine.specs.State.{State}
use Rattle.ff_machine.specs.Valid.{IsState}
use Rattle.ff_pool.specs.Pooled.{Pooled, copy_of}
use Rattle.ff_pool.specs.Classes.{tops}
use Rattle.ff_pool.specs.Restored.{IsResting, pool_recs}
use Rattle.ff_pool.proofs.Leaders.{tops_less}
use Rattle.ff_save.proofs.Pools.{same_pools}
use Rattle.ff_saved_rows.specs.Recs.{stores_recs}
use Rattle.ff_save.specs.Rest.{IsAtRest}
use Rattle.ff_save.specs.Saved.{SavedRecs, saved_recs}
use Rattle.ff_save.proofs.Mapped.{same_on}
use Rattle.ff_save.proofs.Stored.{same_states}

-- the browsers of a pool at rest are at rest
pub browsers_rest : {n fuel : ℕ} (p : Pooled) → IsResting n fuel p → All (IsAtRest fuel) (pool_recs p).browsers
browsers_rest {n} {fuel} p is =
    All-map (IsAtRest fuel) (λ l. (copy_of p l).state) (tops p.world.leaders)
    (All-weaker (λ l. l < length p.world.leaders) (λ l. IsAtRest fuel (copy_of p l).state)
    (λ l lt. record { valid = subst (λ f. IsState f (copy_of p l).state) is.fuel_is (is.valid.ok l lt).state_ok; quiet = is.quiet l (omega (arith, lt, is.levels)) })
    (tops p.world.leaders) (tops_less p.world.leaders (length p.world.leaders)))

pub same_saved : (n fuel : ℕ) (p q : Pooled) → n ≤ MOST_LEVELS → IsResting n fuel p → IsResting n fuel q → saved_recs p ≡ saved_recs q → p ≡ q
same_saved n fuel p q most is other same =
    same_pools most is other
    (ap₂ (λ cs bs. record { classes = cs; browsers = bs }) (ap (λ (r : SavedRecs). r.classes) same)
    (same_on (IsAtRest fuel) (λ (s : State). stores_recs s.stores) (same_states fuel) (pool_recs p).browsers (pool_recs q).browsers (browsers_rest p is) (browsers_rest q other) (ap (λ (r : SavedRecs). r.browsers) same)))
