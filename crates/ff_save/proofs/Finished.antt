-- The pool of what was gathered, and the stores that the browsers of a pool at rest have.
use Rattle.std.proofs.Common.{◌≡◌, ◌≢◌, ℕ, true, Option, Some, None, Result, Ok, Err, IfOk, List, [], ◌∷◌, map, All, refl, sym, ap, ap₂, subst, ◌∙◌, arith}
use Rattle.std.proofs.lemmas.List.Elements.{All-map, All-weaker, All-cons, All-head, All-tail}
use Rattle.ff_machine.specs.State.{State}
use Rattle.ff_pool.specs.Pooled.{Pooled}
use Rattle.ff_pool.specs.Restored.{PoolRecs, IsResting, IsReady, pool_recs}
use Rattle.ff_records.specs.Restored.{Restores}
use Rattle.ff_save.specs.Gathered.{Gathered, saved_of, AreStored}
use Rattle.ff_save.specs.Rest.{IsAtRest}
use Rattle.ff_save.specs.Holding.{Held, records_of, IsSpoiled, Ends}
use Rattle.ff_save.specs.Saved.{SavedRecs, saved_recs}
use Rattle.ff_save.proofs.Grown.{spoiled_fails}
use Rattle.ff_save.proofs.Mapped.{same_on}
use Rattle.ff_save.proofs.Same.{browsers_rest}
use Rattle.ff_save.proofs.Stored.{same_states}

-- browsers at rest are ready for a pool
all_ready : (fuel : ℕ) (ss : List State) → All (IsAtRest fuel) ss → All (IsReady fuel) ss
all_ready fuel ss rest = All-weaker (IsAtRest fuel) (IsReady fuel) (λ s is. record { budget = is.valid.budget_is; quiet = is.quiet }) ss rest

-- the stores of a browser at rest are valid, with no page touched
stored : (fuel : ℕ) (s : State) → IsAtRest fuel s → AreStored (records_of s)
stored fuel s is = (s.stores, (is.valid.stores, (is.valid.quiet is.quiet).touched), refl)

pub all_stored : {n fuel : ℕ} (p : Pooled) → IsResting n fuel p → All AreStored (saved_recs p).browsers
all_stored {n} {fuel} p is = All-map AreStored records_of (pool_recs p).browsers (All-weaker (IsAtRest fuel) (λ s. AreStored (records_of s)) (stored fuel) (pool_recs p).browsers (browsers_rest p is))

-- what is restored of classes and browsers is what is restored of their records
module _ (n fuel : ℕ) (classes : List (List ℕ)) (browsers : List State) (rest : All (IsAtRest fuel) browsers) (recs : SavedRecs) (are : record { classes = classes; browsers = map records_of browsers } ≡ recs) where
  of_pool : (answer : Option Pooled) → Restores (IsResting n fuel) pool_recs (record { classes = classes; browsers = browsers }) answer → Restores (IsResting n fuel) saved_recs recs answer
  of_pool None none = λ p is same.
      none p is (ap₂ (λ cs bs. record { classes = cs; browsers = bs }) (ap (λ (r : SavedRecs). r.classes) (same ∙ sym are))
      (same_on (IsAtRest fuel) records_of (same_states fuel) (pool_recs p).browsers browsers (browsers_rest p is) rest (ap (λ (r : SavedRecs). r.browsers) (same ∙ sym are))))
  of_pool (Some p) some = (some.0, ap (λ (r : PoolRecs). record { classes = r.classes; browsers = map records_of r.browsers }) some.1 ∙ are)

  pub pool_restored : {E : Type 0} (answer : Result (Option Pooled) E) → IfOk answer (Restores (IsResting n fuel) pool_recs (record { classes = classes; browsers = browsers })) → IfOk answer (Restores (IsResting n fuel) saved_recs recs)
  pool_restored (Ok answer) made = of_pool answer made
  pool_restored (Err refused) made = tt

-- no pool has records of which the last class's have no stores
pub spoiled_pool : (n fuel : ℕ) (g : Gathered) → IsSpoiled g → (p : Pooled) → IsResting n fuel p → saved_recs p ≢ saved_of g
spoiled_pool n fuel g bad p is same = spoiled_fails g bad (subst (All AreStored) (ap (λ (r : SavedRecs). r.browsers) same) (all_stored p is))

-- what was made of classes that all have their browsers
pub finished : {E : Type 0} (n fuel : ℕ) (g : Gathered) (h : Held) → Ends fuel g true h → (classes : List (List ℕ)) (browsers : List State) → classes ≡ h.classes → browsers ≡ h.browsers → (answer : Result (Option Pooled) E)
    → IfOk answer (Restores (IsResting n h.fuel) pool_recs (record { classes = classes; browsers = browsers })) → IfOk answer (Restores (IsResting n fuel) saved_recs (saved_of g))
finished n fuel g h ended classes browsers classes_are browsers_are answer made =
    pool_restored n fuel classes browsers (subst (All (IsAtRest fuel)) (sym browsers_are) ended.rest) (saved_of g)
    (ap₂ (λ cs bs. record { classes = cs; browsers = bs }) (classes_are ∙ ended.classes) (ap (map records_of) browsers_are ∙ ended.browsers))
    answer (subst (λ f. IfOk answer (Restores (IsResting n f) pool_recs (record { classes = classes; browsers = browsers }))) ended.fuel_is made)

-- and they are ready for a pool
pub finished_ready : (fuel : ℕ) (g : Gathered) (h : Held) → Ends fuel g true h → (browsers : List State) → browsers ≡ h.browsers → All (IsReady h.fuel) browsers
finished_ready fuel g h ended browsers are = subst (All (IsReady h.fuel)) (sym are) (subst (λ f. All (IsReady f) h.browsers) (sym ended.fuel_is) (all_ready fuel h.browsers ended.rest))

-- what is said of their states is said of each
pub each_ready : {B : Type 0} (state : B → State) (fuel : ℕ) (browsers : List B) → All (IsReady fuel) (map state browsers) → All (λ browser. IsReady fuel (state browser)) browsers
each_ready state fuel [] ready = λ k d less. absurd (omega (arith, less))
each_ready state fuel (first ∷ others) ready =
    All-cons (λ browser. IsReady fuel (state browser)) first others (All-head (IsReady fuel) (state first) (map state others) ready)
    (each_ready state fuel others (All-tail (IsReady fuel) (state first) (map state others) ready))
