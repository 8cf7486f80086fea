-- What a line of commands gives by itself, and that it gives one answer.
use Rattle.std.specs.Prelude.{ℕ, Option, Some, None, Result, Ok, Err, List}
use Rattle.ff_lattice.specs.Order.{Order}
use Rattle.ff_travel.specs.Commands.{ReadsCommand, IsCommandOf}
use Rattle.ff_travel.specs.declared.command.Command.{Command}
use Rattle.ff_travel.specs.declared.command.CommandFault.TheVariants as fault
use Rattle.ff_trace.specs.declared.fault.LineFault.{LineFault}
use Rattle.ff_status.specs.declared.status.TraceFault.{TraceFault}
use Rattle.ff_status.specs.declared.status.TraceFault.TheVariants as trace_fault

-- what a line gives: no command, a command, or a fault
pub data Gives (order : Order) (line : List ℕ) : Result (Option Command) TraceFault → Type 0 where
  nothing : ReadsCommand order line (Ok None) → Gives order line (Ok None)
  a_command : (command : Command) → ReadsCommand order line (Ok (Some command)) → IsCommandOf order command → Gives order line (Ok (Some command))
  no_input : (which : LineFault) → ReadsCommand order line (Err (fault.Line which)) → Gives order line (Err (trace_fault.Line which))
  no_command : ReadsCommand order line (Err fault.Command) → Gives order line (Err trace_fault.Command)
