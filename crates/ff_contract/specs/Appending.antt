-- What a call leaves in an output that it appends to.
use Rattle.std.specs.Prelude.{◌≡◌, Result, Ok, Err, List, ◌++◌}

-- the new items are the old ones and then a front of the items that were to be appended
pub record AppendsFront {A : Type 0} (old new items : List A) : Type 0 where
  pub front : List A
  pub rest : List A
  pub cut : items ≡ front ++ rest
  pub appended : new ≡ old ++ front

-- the new items are the old ones and then exactly these, or after a refusal the old ones and then a
-- front of these
abbrev pub Appends : {X E A : Type 0} → Result X E → (old new items : List A) → Type 0
Appends (Ok done) old new items = new ≡ old ++ items
Appends (Err refused) old new items = AppendsFront old new items

-- the new items are the old ones and then exactly these, or after a refusal the old ones
abbrev pub AppendsAll : {X E A : Type 0} → Result X E → (old new items : List A) → Type 0
AppendsAll (Ok done) old new items = new ≡ old ++ items
AppendsAll (Err refused) old new items = new ≡ old
