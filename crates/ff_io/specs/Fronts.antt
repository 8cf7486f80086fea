-- A list that another one begins with.
use Rattle.std.specs.Prelude.{◌≡◌, ℕ, ◌<◌, List, ◌++◌, length}

-- `front` and then `rest` is `whole`
pub record IsFront (front whole : List ℕ) : Type 0 where
  pub rest : List ℕ
  pub joined : front ++ rest ≡ whole

-- the same, and something is left
pub record IsProperFront (front whole : List ℕ) : Type 0 where
  pub rest : List ℕ
  pub more : 0 < length rest
  pub joined : front ++ rest ≡ whole
