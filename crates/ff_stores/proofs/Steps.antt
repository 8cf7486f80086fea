-- A step that is made where there is room for it.
use Rattle.std.proofs.Common.{◌≡◌, List, Option, Some, None, Result, Err, Bool}
use Rattle.ff_contract.proofs.Sequence.{front_none}
use Rattle.ff_confinement.specs.Turns.{Stepped}
use Rattle.ff_machine.specs.Answers.{MakesIfRoom}

-- it was refused memory, and nothing of it was put
pub nothing_stepped : {S O E : Type 0} (e : E) (s s' : S) (puts puts' : List O) (o : Option (Stepped O S)) → puts' ≡ puts → MakesIfRoom s s' puts puts' o (let r : Result Bool E = Err e in r)
nothing_stepped e s s' puts puts' None h = h
nothing_stepped e s s' puts puts' (Some step) h = front_none puts puts' step.outputs h
