-- What is left of a task that was worked on.
use Rattle.std.specs.Prelude.{Bool, true, false, Option, Some, None, Result, Ok, Err}
use Rattle.ff_machine.specs.State.{Task}

-- the task as it is now, where it goes on
abbrev pub left : {E : Type 0} → Task → Result Bool E → Result (Option Task) E
left task (Ok true) = Ok (Some task)
left task (Ok false) = Ok None
left task (Err e) = Err e
