-- Browsers at rest.
use Rattle.std.specs.Prelude.{◌≡◌, ℕ, true}
use Rattle.ff_machine.specs.State.{State}
use Rattle.ff_machine.specs.Valid.{IsState}

-- a valid browser at rest
pub record IsAtRest (fuel : ℕ) (s : State) : Type 0 where
  pub valid : IsState fuel s
  pub quiet : s.quiet ≡ true
