-- What an operator, a redex and a reduction leave, where they don't fail.
use Rattle.std.specs.Prelude.{◌<◌, Result, Ok, Err, length}
use Rattle.ff_value.specs.declared.fault.Fault.{Fault}
use Rattle.ff_machine.specs.Stores.{Stores}
use Rattle.ff_machine.specs.Operators.{Did, Outcome}
use Rattle.ff_machine.specs.Reduction.{Became, Moved}
use Rattle.ff_machine.specs.References.{made}
use Rattle.ff_machine.specs.Valid.{IsVal, IsRunning}
use Rattle.ff_laws.specs.Keeps.{Keeps}

-- an operator keeps the stores, and gives a valid value
pub record DoesKeep (s : Stores) (did : Did) : Type 0 where
  pub keeps : Keeps s did.after
  pub value : IsVal (made did.after) did.value

-- the same of what an operator does, if it doesn't fail
abbrev pub KeepsUnlessFault : Stores → Outcome → Type 0
KeepsUnlessFault s (Ok did) = DoesKeep s did
KeepsUnlessFault s (Err f) = Unit {0}

-- what a redex becomes is valid, and the stores are kept
pub record BecomesValid (s : Stores) (became : Became) : Type 0 where
  pub keeps : Keeps s became.after
  pub part : IsRunning (made became.after) became.part

-- the same of a redex that doesn't fail
abbrev pub IsGood : Stores → Result Became Fault → Type 0
IsGood s (Ok became) = BecomesValid s became
IsGood s (Err f) = Unit {0}

-- an evaluation that went on is valid, in an activation that was made, and the stores are kept
pub record MovesValid (s : Stores) (moved : Moved) : Type 0 where
  pub keeps : Keeps s moved.after
  pub base : moved.now.base.0 < length moved.after.windows.acts
  pub running : IsRunning (made moved.after) moved.now.expr

-- the same of a reduction that doesn't fail
abbrev pub MovesUnlessFault : Stores → Result Moved Fault → Type 0
MovesUnlessFault s (Ok moved) = MovesValid s moved
MovesUnlessFault s (Err f) = Unit {0}
