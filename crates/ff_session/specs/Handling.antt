-- A browser handles an input: it takes it, and makes its turns until it is quiet again.
use Rattle.std.specs.Prelude.{◌≡◌, ℕ, true}
use Rattle.ff_confinement.specs.Runs.{Handled}
use Rattle.ff_value.specs.declared.input.Input.{Input}
use Rattle.ff_value.specs.declared.output.Out.{Out}
use Rattle.ff_machine.specs.State.{State}
use Rattle.ff_machine.specs.Machine.{browser}

-- A browser to which an input brings so much fuel takes one.
pub record IsReady (budget : ℕ) (s : State) : Type 0 where
  pub budget_is : s.budget ≡ budget
  pub quiet : s.quiet ≡ true

-- what a browser makes of an input, with its own fuel
abbrev pub handled : State → Input → Handled Out State
handled s i = (browser s.budget).handle s i
