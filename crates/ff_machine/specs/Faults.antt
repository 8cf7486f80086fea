-- Whether something fails, and why: the fault that there is, or none.
use Rattle.std.specs.Prelude.{Bool, true, false, Option, Some, None}
use Rattle.ff_value.specs.declared.fault.Fault.{Fault}
use Rattle.ff_value.specs.declared.fault.Fault.TheVariants as fault

-- Limit, unless there is room
abbrev pub limit_unless : Bool → Option Fault
limit_unless true = None
limit_unless false = Some fault.Limit

-- the first fault of two
abbrev pub first_fault : Option Fault → Option Fault → Option Fault
first_fault None other = other
first_fault (Some f) other = Some f
