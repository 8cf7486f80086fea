-- Pools at rest, the classes and the browsers that they have, and pools that are made of these.
use Rattle.std.specs.Prelude.{◌≡◌, ◌<◌, ℕ, true, false, List, [], length, map, All}
use Rattle.ff_machine.specs.State.{State}
use Rattle.ff_machine.specs.Valid.{IsState}
use Rattle.ff_pool.specs.Classes.{tops, classes_of}
use Rattle.ff_pool.specs.Heads.{Head, head_at}
use Rattle.ff_pool.specs.Pooled.{Pooled, copy_of, size, IsPool}

-- what a pool at rest is made of: its classes, and a browser for each
pub record PoolRecs : Type 0 where
  pub classes : List (List ℕ)
  pub browsers : List State

abbrev pub pool_recs : Pooled → PoolRecs
pool_recs p = record { classes = classes_of p.world.leaders; browsers = map (λ l. (copy_of p l).state) (tops p.world.leaders) }

-- a pool of n levels with this fuel, whose browsers are quiet, where no input waits and all outputs
-- were taken
pub record IsResting (n fuel : ℕ) (p : Pooled) : Type 0 where
  pub fuel_is : p.fuel ≡ fuel
  pub unspent : p.spent ≡ false
  pub levels : size p ≡ n
  pub valid : IsPool p
  pub quiet : (l : ℕ) → l < n → (copy_of p l).state.quiet ≡ true
  pub no_inputs : (l : ℕ) → l < n → (copy_of p l).inbox ≡ []
  pub no_outputs : (l : ℕ) → l < n → (copy_of p l).outputs ≡ []

-- a browser that a pool at rest may have
pub record IsReady (fuel : ℕ) (s : State) : Type 0 where
  pub budget : s.budget ≡ fuel
  pub quiet : s.quiet ≡ true

-- a head to which nothing was offered, with a browser at rest
pub record IsFresh (fuel : ℕ) (h : Head) : Type 0 where
  pub valid : IsState fuel h.state
  pub quiet : h.state.quiet ≡ true
  pub no_inputs : h.inbox ≡ []

-- the leaders have these browsers in their order, and the other levels have any
pub record HaveBrowsers (fuel : ℕ) (leaders : List ℕ) (browsers : List State) (heads : List Head) : Type 0 where
  pub count : length heads ≡ length leaders
  pub browsers_are : map (λ l. (head_at fuel heads l).state) (tops leaders) ≡ browsers
  pub fresh : All (IsFresh fuel) heads
