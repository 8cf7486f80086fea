-- What a browser reaches is valid, what it puts can be printed, and its turns spend the fuel that
-- an input brings.
use Rattle.std.proofs.Common.{◌≡◌, ◌≤◌, ◌+◌, List, All, ℕ, true, refl}
use Rattle.std.proofs.lemmas.List.Elements.{All-weaker}
use Rattle.ff_confinement.specs.Turns.{KeepsOk, IsFuelled}
use Rattle.ff_confinement.proofs.Finishing.{ends_by_fuel}
use Rattle.ff_confinement.proofs.Turns.{machine_handle_ok, settle_turns}
use Rattle.ff_value.specs.Spelled.{IsWellSpelledInput, IsWellSpelledOut}
use Rattle.ff_value.specs.declared.input.Input.{Input}
use Rattle.ff_value.specs.declared.output.Out.{Out}
use Rattle.ff_machine.specs.State.{State}
use Rattle.ff_machine.specs.Inputs.{begin}
use Rattle.ff_machine.specs.Machine.{reactor, browser}
use Rattle.ff_machine.specs.Valid.{IsState}
use Rattle.ff_machine.proofs.Fuel as fuel
use Rattle.ff_laws.specs.Puts.{IsOut, AreOuts}
use Rattle.ff_laws.proofs.OutputsRuns.{keeps_outs}

spelled : (os : List Out) → AreOuts os → All IsWellSpelledOut os
spelled os are = All-weaker IsOut IsWellSpelledOut (λ o is. is.spelled) os are

-- what a browser reaches is valid, and what it puts can be printed
pub keeps : (budget : ℕ) → KeepsOk (reactor budget) IsWellSpelledInput (IsState budget) IsWellSpelledOut
keeps budget = record {
  start_ok = (keeps_outs budget).start_ok;
  begin_ok = (keeps_outs budget).begin_ok;
  begin_outputs = λ s i is good. spelled _ ((keeps_outs budget).begin_outputs s i is good);
  turn_ok = (keeps_outs budget).turn_ok;
  turn_outputs = λ s is busy. spelled _ ((keeps_outs budget).turn_outputs s is busy);
}

-- an input brings the browser's fuel, and each turn spends some or is the last
pub fuelled : (budget : ℕ) → IsFuelled (reactor budget) (λ s. s.fuel) budget IsWellSpelledInput (IsState budget)
fuelled budget = record {
  brings = λ s i is good. (fuel.fuelled budget).brings s i is.budget_is tt;
  spends = λ s is busy. (fuel.fuelled budget).spends s is.budget_is busy;
}

pub ends_soon : (budget : ℕ) (s : State) (i : Input) → ((browser budget).handle s i).turns ≤ budget + 1
ends_soon budget s i = settle_turns (reactor budget) (budget + 1) (begin s i).after

-- and is then quiet and valid
pub ends_quiet : (budget : ℕ) (s : State) (i : Input) → IsState budget s → IsWellSpelledInput i → ((browser budget).handle s i).after.quiet ≡ true
ends_quiet budget s i is good = (ends_by_fuel (keeps budget) (fuelled budget) refl).begin_ends s i is good

pub ends_valid : (budget : ℕ) (s : State) (i : Input) → IsState budget s → IsWellSpelledInput i → IsState budget ((browser budget).handle s i).after
ends_valid budget s i is good = machine_handle_ok (keeps budget) (budget + 1) s i is good
