-- Classes get their offers, level by level.
use Rattle.std.proofs.Common.{◌≡◌, ℕ, ◌<◌, ◌≤◌, Option, List, length, get_or}
use Rattle.ff_value.specs.declared.input.Input.{Input}
use Rattle.ff_confinement.specs.Worlds.{leader, offer}
use Rattle.ff_pool.specs.Heads.{Head, offer_head}

-- the leaders below l have their offers
pub record IsOffering (first : List Head) (leaders : List ℕ) (offers : List (Option Input)) (heads : List Head) (l : ℕ) : Type 0 where
  pub count : length heads ≡ length first
  pub done : (j : ℕ) (d : Head) → j < l → leader leaders j ≡ j → get_or heads j d ≡ offer_head (get_or first j d) (offer offers j)
  pub waiting : (j : ℕ) (d : Head) → l ≤ j → get_or heads j d ≡ get_or first j d
