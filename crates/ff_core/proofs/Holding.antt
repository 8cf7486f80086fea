-- A browser is valid: a new one, one that took an input, and one that made a turn.
use Rattle.std.proofs.Common.{◌≡◌, ℕ, false, sym, ap, subst, ◌∙◌}
use Rattle.ff_value.specs.Spelled.{IsWellSpelledInput}
use Rattle.ff_value.specs.declared.input.Input.{Input}
use Rattle.ff_machine.specs.State.{State, empty}
use Rattle.ff_machine.specs.Inputs.{begin}
use Rattle.ff_machine.specs.Turns.{turn}
use Rattle.ff_machine.specs.Valid.{IsState}
use Rattle.ff_machine.proofs.Empty.{empty_state}
use Rattle.ff_laws.proofs.States.{begin_state, turn_state}
use Rattle.ff_laws.proofs.LaterTurns.{begin_busy}

-- a valid state under the budget that it has
pub at_its_own : (budget : ℕ) (s : State) → IsState budget s → IsState s.budget s
at_its_own budget s is = subst (λ n. IsState n s) (sym is.budget_is) is

-- a new browser
pub new_valid : (budget : ℕ) (s : State) → s ≡ empty budget → IsState budget s
new_valid budget s e = subst (λ (t : State). IsState budget t) (sym e) (empty_state budget)

-- a browser that took a well spelled input, where `old` is what it was
pub begun_valid : (s old new : State) (i : Input) → s ≡ old → IsState s.budget s → IsWellSpelledInput i → new ≡ (begin s i).after → IsState old.budget new
begun_valid s old new i same is good e =
    subst (λ (t : State). IsState t.budget new) same (subst (λ (t : State). IsState s.budget t) (sym e) (begin_state s.budget s i is good))

-- it isn't quiet
pub begun_busy : (s new : State) (i : Input) → new ≡ (begin s i).after → new.quiet ≡ false
begun_busy s new i e = ap (λ (t : State). t.quiet) e ∙ begin_busy s i

-- a browser that made a turn
pub turned_valid : (s old new : State) → s ≡ old → IsState s.budget s → new ≡ (turn s).after → IsState old.budget new
turned_valid s old new same is e = subst (λ (t : State). IsState t.budget new) same (subst (λ (t : State). IsState s.budget t) (sym e) (turn_state s.budget s is))
