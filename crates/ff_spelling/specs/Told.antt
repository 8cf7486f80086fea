-- What tests tell that may lack the memory to find out.
use Rattle.std.specs.Prelude.{Bool, ◌&&◌, Result, Ok, Err, IsTrue, IfOk, ◌↔◌}

-- the answer says whether it holds
abbrev pub Tells : {E : Type 0} → Type 0 → Result Bool E → Type 0
Tells A answer = IfOk answer (λ holds. IsTrue holds ↔ A)

-- whether both hold
abbrev pub both_of : {E : Type 0} → Result Bool E → Result Bool E → Result Bool E
both_of (Ok first) (Ok second) = Ok (first && second)
both_of (Ok first) (Err e) = Err e
both_of (Err e) second = Err e
