-- Outputs that lie beside the pools that put them: once for each level, while a step that is kept
-- knows how many of them were there.
use Rattle.std.specs.Prelude.{◌≡◌, ℕ, ◌<◌, false, List, [], ◌∷◌, ◌++◌, length, map, take, All, slice_index_or, refl}
use Rattle.std.specs.Coded.{Coded, code_by, coded×, coded_list, coded_ℕ}
use Rattle.ff_lattice.specs.Order.{size}
use Rattle.ff_machine.specs.Machine.{reactor}
use Rattle.ff_machine.specs.State.{State}
use Rattle.ff_policy.specs.Assignment.{Assignment}
use Rattle.ff_pool.specs.Heads.{outputs_at}
use Rattle.ff_pool.specs.Pooled as pooled
use Rattle.ff_pool.specs.Pooled.{Pooled, coded_pooled}
use Rattle.ff_confinement.specs.Worlds.{Copy, copy_at, each, levels}
use Rattle.ff_contract.specs.Lists.{Begins}
use Rattle.ff_travel.specs.Force.{Copies}
use Rattle.ff_travel.specs.Travelled.{History}
use Rattle.ff_value.specs.declared.input.Input.{Input}
use Rattle.ff_value.specs.declared.output.Out.{Out}

-- a step that is kept: the pool before it, and how many outputs of each level lay beside that
pub record Kept : Type 0 where
  pub pool : Pooled
  pub counts : List ℕ

abbrev pub coded_kept : Coded Kept
coded_kept = code_by (Pooled × List ℕ) (coded× coded_pooled (coded_list coded_ℕ)) (λ k. (k.pool, k.counts)) (λ p. record { pool = p.0; counts = p.1 }) (λ _. refl)

-- a copy whose outputs stand behind these
abbrev pub put_before : List Out → Copy Input Out State → Copy Input Out State
put_before outs c = record { state = c.state; inbox = c.inbox; outputs = outs ++ c.outputs }

-- the copies of a world, each with its outputs behind those that lie beside
unfoldable pub behind : ℕ → List (List Out) → Copies → Copies
behind fuel puts w = record { copies = each (λ l. put_before (outputs_at puts l) (copy_at (reactor fuel) w l)) (levels w); leaders = w.leaders }

-- the copies of a pool, with what lies beside it
abbrev pub under : List (List Out) → Pooled → Copies
under puts pool = behind pool.fuel puts pool.world

-- so many outputs of each level, the first ones
unfoldable pub cut : List ℕ → List (List Out) → List (List Out)
cut counts puts = each (λ l. take (slice_index_or counts l 0) (outputs_at puts l)) (length puts)

-- what lay beside before the first of these steps, and the copies before each of them
abbrev pub cuts : List Kept → List (List Out) → List (List Out)
cuts [] puts = puts
cuts (k ∷ ks) puts = cut k.counts (cuts ks puts)

abbrev pub kept_worlds : List Kept → List (List Out) → List Copies
kept_worlds [] puts = []
kept_worlds (k ∷ ks) puts = under (cuts (k ∷ ks) puts) k.pool ∷ kept_worlds ks puts

-- the history that steps, outputs and a pool give
abbrev pub history_of : List Kept → List (List Out) → Pooled → History
history_of kept puts pool = record { before = kept_worlds kept puts; world = under puts pool }

-- nothing lies beside the copies of so many levels
abbrev pub none_put : ℕ → List (List Out)
none_put n = each (λ l. []) n

-- a step that keeps the pool as it is, with what lies beside it
abbrev pub kept_now : List (List Out) → Pooled → Kept
kept_now puts pool = record { pool = pool; counts = map length puts }

-- no copy of a pool has outputs
abbrev pub AreEmpty : Pooled → Type 0
AreEmpty pool = (l : ℕ) → l < pooled.size pool → (pooled.copy_of pool l).outputs ≡ []

-- a pool for the levels of a policy, in which every call found memory, and of which all outputs
-- were taken
pub record IsPoolFor (p : Assignment) (pool : Pooled) : Type 0 where
  pub fuel : pool.fuel ≡ p.fuel
  pub unspent : pool.spent ≡ false
  pub levels : pooled.size pool ≡ size p.order
  pub taken : AreEmpty pool

-- a step that is kept, with a count for each level
pub record IsKeptFor (p : Assignment) (kept : Kept) : Type 0 where
  pub pool : IsPoolFor p kept.pool
  pub counts : length kept.counts ≡ size p.order

-- the parts of a travel that isn't spent
pub record ArePartsFor (p : Assignment) (kept : List Kept) (puts : List (List Out)) (pool : Pooled) : Type 0 where
  pub each : All (IsKeptFor p) kept
  pub count : length puts ≡ size p.order
  pub last : IsPoolFor p pool

-- All outputs of a pool were put behind those that lay beside: the copies with what lies beside
-- them are the same.
pub record HasGathered (before : Pooled) (puts_before : List (List Out)) (now : Pooled) (puts_now : List (List Out)) : Type 0 where
  pub same : under puts_now now ≡ under puts_before before
  pub taken : AreEmpty now
  pub fuel : now.fuel ≡ before.fuel
  pub unspent : now.spent ≡ before.spent
  pub levels : pooled.size now ≡ pooled.size before
  pub count : length puts_now ≡ length puts_before
  pub more : (l : ℕ) → l < length puts_before → Begins (outputs_at puts_now l) (outputs_at puts_before l)
