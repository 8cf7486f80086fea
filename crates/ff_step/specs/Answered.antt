-- What is answered of a reduction, and of a test.
use Rattle.std.specs.Prelude.{Bool, Result, Ok, Err}
use Rattle.std.specs.declared.alloc.AllocError.{AllocError}
use Rattle.ff_value.specs.declared.fault.Fault.{Fault}
use Rattle.ff_value.specs.declared.fault.Fault.TheVariants as fault
use Rattle.ff_value.specs.declared.value.Val.{Val}
use Rattle.ff_value.specs.declared.value.Val.TheVariants as val
use Rattle.ff_operators.specs.declared.answer.Fail.{Fail}
use Rattle.ff_operators.specs.declared.answer.Fail.TheVariants as fail
use Rattle.ff_machine.specs.declared.reduced.Reduced.{Reduced}
use Rattle.ff_machine.specs.declared.reduced.Reduced.TheVariants as answer

-- of an expression that is no value: that it moved, or that it failed
abbrev pub answered : Result (Unit {0}) Fail → Result Reduced AllocError
answered (Ok moved) = Ok answer.Moved
answered (Err (fail.Fault f)) = Ok (answer.Failed f)
answered (Err fail.NoMemory) = Err (record {})

-- whether the test of an `if` holds
abbrev pub tested : Val → Result Bool Fault
tested (val.Bool b) = Ok b
tested other = Err fault.Kind
