-- What a push answers.
use Rattle.std.specs.Prelude.{Bool, true, false, Result, Ok, Err}
use Rattle.ff_cow.specs.declared.cow_vec.PushFail.{PushFail}
use Rattle.ff_cow.specs.declared.cow_vec.PushFail.TheVariants.{Full, NoMemory}

-- the value that a refused push gives back
abbrev pub returned : {V : Type 0} → PushFail V → V
returned (Full value) = value
returned (NoMemory value) = value

-- whether the push was refused since the list had all the cells that it has room for
abbrev pub is_full : {V T : Type 0} → Result T (PushFail V) → Bool
is_full (Ok _) = false
is_full (Err (Full _)) = true
is_full (Err (NoMemory _)) = false
