-- The answers of a function that puts one text after another, and stops at the first failure.
use Rattle.std.proofs.Common.{ℕ, List, ◌++◌, Option, Result, Ok, Err, OnOk, OnErr}
use Rattle.ff_status.specs.Putting.{Puts, Stops}
use Rattle.ff_status.proofs.Sending.{puts_both, stops_first, stops_second}

-- a failure in the first text, or in the second
pub at_first : {before now : Option (List ℕ)} {low high : ℕ} {first : List ℕ} (second : List ℕ) → Stops before now low high first → Stops before now low high (first ++ second)
at_first second s = stops_first _ _ _ _ _ _ s

pub at_second : {before mid now : Option (List ℕ)} {low count high : ℕ} {first second : List ℕ}
    → Puts before mid low count first → Stops mid now count high second → Stops before now low high (first ++ second)
at_second p s = stops_second _ _ _ _ _ _ _ _ p s

-- the answer of the call that puts the second text is the answer
pub ok_after : {T E : Type 0} (answer : Result T E) {before mid : Option (List ℕ)} {low count : ℕ} {first : List ℕ} (now : Option (List ℕ)) (high : ℕ) (second : List ℕ)
    → Puts before mid low count first → OnOk answer (Puts mid now count high second) → OnOk answer (Puts before now low high (first ++ second))
ok_after (Ok x) now high second p q = puts_both _ _ _ _ _ _ _ _ p q
ok_after (Err e) now high second p q = tt

pub stopped_after : {T E : Type 0} (answer : Result T E) {before mid : Option (List ℕ)} {low count : ℕ} {first : List ℕ} (now : Option (List ℕ)) (high : ℕ) (second : List ℕ)
    → Puts before mid low count first → OnErr answer (Stops mid now count high second) → OnErr answer (Stops before now low high (first ++ second))
stopped_after (Ok x) now high second p s = tt
stopped_after (Err e) now high second p s = stops_second _ _ _ _ _ _ _ _ p s

-- what holds, whatever the answer
pub failed : {T E P : Type 0} (answer : Result T E) → P → OnErr answer P
failed (Ok x) p = tt
failed (Err e) p = p
