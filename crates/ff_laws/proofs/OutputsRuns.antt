-- Runs over well spelled inputs put well spelled outputs.
use Rattle.std.proofs.Common.{ℕ, ◌+◌, List, [], ◌∷◌, All}
use Rattle.std.proofs.lemmas.List.Elements.{All-nil, All-cons, All-head, All-tail}
use Rattle.ff_confinement.specs.Runs.{plain, plain_from}
use Rattle.ff_confinement.specs.Turns.{KeepsOk, machine_of}
use Rattle.ff_confinement.proofs.Turns.{machine_outputs_ok}
use Rattle.ff_value.specs.Spelled.{IsWellSpelledInput}
use Rattle.ff_value.specs.declared.input.Input.{Input}
use Rattle.ff_machine.specs.State.{State, empty}
use Rattle.ff_machine.specs.Machine.{reactor, browser}
use Rattle.ff_machine.specs.Valid.{IsState}
use Rattle.ff_laws.specs.Puts.{IsOut, AreOuts}
use Rattle.ff_laws.proofs.States.{keeps_states, handled_state}
use Rattle.ff_laws.proofs.OutputsTurns.{begin_spelled, turn_spelled}

-- the browser keeps to valid states and puts well spelled outputs
pub keeps_outs : (budget : ℕ) → KeepsOk (reactor budget) IsWellSpelledInput (IsState budget) IsOut
keeps_outs budget = record {
  start_ok = (keeps_states budget).start_ok;
  begin_ok = (keeps_states budget).begin_ok;
  begin_outputs = λ s i is good. begin_spelled s i is.stores good;
  turn_ok = (keeps_states budget).turn_ok;
  turn_outputs = λ s is e. turn_spelled s is.stores is.tasks;
}

-- and so does the machine that it is, however many turns it may make
pub handled_outs : (budget most : ℕ) (s : State) (i : Input) → IsState budget s → IsWellSpelledInput i → AreOuts ((machine_of (reactor budget) most).handle s i).outputs
handled_outs budget most s i is good = machine_outputs_ok (keeps_outs budget) most s i is good

-- a run from a valid state
run_outs_from : (budget : ℕ) (s : State) (is : List Input) → IsState budget s → All IsWellSpelledInput is → All AreOuts (plain_from (browser budget) s is)
run_outs_from budget s [] valid good = All-nil AreOuts
run_outs_from budget s (i ∷ is) valid good =
    let one = All-head IsWellSpelledInput i is good in
    let t = ((browser budget).handle s i).after in
    All-cons AreOuts ((browser budget).handle s i).outputs (plain_from (browser budget) t is) (handled_outs budget (budget + 1) s i valid one)
    (run_outs_from budget t is (handled_state budget (budget + 1) s i valid one) (All-tail IsWellSpelledInput i is good))

-- a run over well spelled inputs puts well spelled outputs
pub run_outs : (budget : ℕ) (is : List Input) → All IsWellSpelledInput is → All AreOuts (plain (browser budget) is)
unfolding plain
run_outs budget is good = run_outs_from budget (empty budget) is (keeps_states budget).start_ok good
