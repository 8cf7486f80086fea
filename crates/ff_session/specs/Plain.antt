-- The plain run: one browser takes all inputs, and its lines are headed by their levels.
use Rattle.std.specs.Prelude.{◌≡◌, ℕ, List}
use Rattle.ff_confinement.specs.Runs.{after, plain}
use Rattle.ff_confinement.specs.Text.{text_of, text_out}
use Rattle.ff_value.specs.declared.input.Input.{Input}
use Rattle.ff_machine.specs.State.{State}
use Rattle.ff_policy.specs.Assignment.{Assignment}
use Rattle.ff_session.specs.Levels.{levels, machine}
use Rattle.ff_session.specs.Handling.{IsReady}

-- the text for inputs
abbrev pub plain_text : Assignment → List Input → List ℕ
plain_text p is = text_out (levels p) (plain (machine p) is)

-- the text for an input after the inputs before it, and its turns
abbrev pub plain_entry : Assignment → List Input → Input → List ℕ
plain_entry p is i = text_of (levels p) ((machine p).handle (after (machine p) is) i).outputs

abbrev pub plain_turns : Assignment → List Input → Input → ℕ
plain_turns p is i = ((machine p).handle (after (machine p) is) i).turns

-- The browser has taken these inputs, and takes the next one.
pub record IsPlainAt (p : Assignment) (state : State) (is : List Input) : Type 0 where
  pub ready : IsReady p.fuel state
  pub at : state ≡ after (machine p) is
