-- The levels of a policy, and its machine.
use Rattle.ff_confinement.specs.Runs.{Machine}
use Rattle.ff_confinement.specs.Copies.{Levels}
use Rattle.ff_value.specs.declared.input.Input.{Input}
use Rattle.ff_value.specs.declared.output.Out.{Out}
use Rattle.ff_machine.specs.State.{State}
use Rattle.ff_machine.specs.Machine.{browser}
use Rattle.ff_policy.specs.Assignment.{Assignment}
use Rattle.ff_route.specs.Route.{the_levels}
use Rattle.ff_trace.specs.Printed.{out_text}

-- the levels of a policy, with outputs printed as lines have them
abbrev pub levels : Assignment → Levels Input Out
levels p = the_levels p out_text

-- the machine of a policy: the browser, with the policy's fuel for each input
abbrev pub machine : Assignment → Machine Input Out State
machine p = browser p.fuel
