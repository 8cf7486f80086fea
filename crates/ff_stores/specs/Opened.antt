-- Whether a window was opened.
use Rattle.std.specs.Prelude.{Bool, Option, Result, Ok, Err, is_some}

-- what was answered, as whether there is a window
abbrev pub opened : {X E : Type 0} → Result (Option X) E → Result Bool E
opened (Ok found) = Ok (is_some found)
opened (Err e) = Err e
