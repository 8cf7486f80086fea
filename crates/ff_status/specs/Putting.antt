-- What a sink gained by the putting of a text, where it tells, and its faults.
use Rattle.std.specs.Prelude.{◌≡◌, ◌≤◌, ℕ, List, Option}
use Rattle.ff_io.specs.Counts.{Rose}
use Rattle.ff_io.specs.Fronts.{IsFront}
use Rattle.ff_io.specs.Port.{Gains}

-- the whole text was put, and the count of faults didn't fall
pub record Puts (before now : Option (List ℕ)) (low high : ℕ) (text : List ℕ) : Type 0 where
  pub gained : Gains before now text
  pub later : low ≤ high

-- a front of the text was put, and then a write failed
pub record Stops (before now : Option (List ℕ)) (low high : ℕ) (text : List ℕ) : Type 0 where
  pub front : List ℕ
  pub part : IsFront front text
  pub gained : Gains before now front
  pub later : low ≤ high
  pub rose : Rose low high

-- a front of the line was put, and all of it where the count of faults didn't rise
pub record Reported (before now : Option (List ℕ)) (low high : ℕ) (line : List ℕ) : Type 0 where
  pub front : List ℕ
  pub part : IsFront front line
  pub gained : Gains before now front
  pub whole : ¬ (Rose low high) → front ≡ line
  pub later : low ≤ high
