-- One copy of the browser as a reactor, and as a machine.
use Rattle.std.specs.Prelude.{ℕ, ◌+◌}
use Rattle.ff_confinement.specs.Runs.{Machine}
use Rattle.ff_confinement.specs.Turns.{Reactor, machine_of}
use Rattle.ff_value.specs.declared.input.Input.{Input}
use Rattle.ff_value.specs.declared.output.Out.{Out}
use Rattle.ff_machine.specs.State.{State, empty}
use Rattle.ff_machine.specs.Inputs.{begin}
use Rattle.ff_machine.specs.Turns.{turn}

-- the browser, with the fuel that each input brings
abbrev pub reactor : ℕ → Reactor Input Out State
reactor budget = record { start = empty budget; begin = begin; turn = turn; quiet = λ s. s.quiet }

-- the machine that it is: an input takes at most one turn more than it brings fuel
abbrev pub browser : ℕ → Machine Input Out State
browser fuel = machine_of (reactor fuel) (fuel + 1)
