-- What a line of a trace gives by itself.
use Rattle.std.specs.Prelude.{ℕ, Option, Some, None, Result, Ok, Err, List}
use Rattle.ff_lattice.specs.Order.{Order}
use Rattle.ff_value.specs.declared.input.Input.{Input}
use Rattle.ff_trace.specs.Lines.{ReadsLine, IsInputOf}
use Rattle.ff_trace.specs.declared.fault.LineFault.{LineFault}
use Rattle.ff_status.specs.declared.status.TraceFault.{TraceFault}
use Rattle.ff_status.specs.declared.status.TraceFault.TheVariants as fault

-- what a line gives: no input, an input, or a fault
pub data Gives (order : Order) (line : List ℕ) : Result (Option Input) TraceFault → Type 0 where
  no_input : ReadsLine order line (Ok None) → Gives order line (Ok None)
  an_input : (i : Input) → ReadsLine order line (Ok (Some i)) → IsInputOf order i → Gives order line (Ok (Some i))
  a_fault : (which : LineFault) → ReadsLine order line (Err which) → Gives order line (Err (fault.Line which))
