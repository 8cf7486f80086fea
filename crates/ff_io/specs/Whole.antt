-- What writing a whole text does to a port.
use Rattle.std.specs.Prelude.{◌≡◌, ℕ, Option, Result, List, OnOk, OnErr}
use Rattle.ff_io.specs.Pieces.{Piece, put_of, AllPut}
use Rattle.ff_io.specs.Fronts.{IsProperFront}
use Rattle.ff_io.specs.Port.{Adds}

-- All of the bytes were put, or a proper front of them.
pub record Puts {T E : Type 0} (before now : Option (List Piece)) (bytes : List ℕ) (result : Result T E) : Type 0 where
  pub pieces : List Piece
  pub added : Adds before now pieces
  pub all_put : AllPut pieces
  pub whole : OnOk result (put_of pieces ≡ bytes)
  pub part : OnErr result (IsProperFront (put_of pieces) bytes)
