-- What one read or write does to what a port or a sink tells.
use Rattle.std.specs.Prelude.{◌≡◌, ℕ, true, Option, Result, Ok, Err, List, [], ◌∷◌, ◌++◌, take, option_map}
use Rattle.std.specs.Io.KnownBytes.{IsAtEnd}
use Rattle.ff_io.specs.Pieces.{Piece, got_of, has_end}
use Rattle.ff_io.specs.Pieces.Piece.{Got, Put}

-- What a port tells: the pieces got and put so far and the bytes still to come, each where they are
-- told, and how many reads and how many writes failed.
pub record Told : Type 0 where
  pub log : Option (List Piece)
  pub rest : Option (List ℕ)
  pub read_faults : ℕ
  pub write_faults : ℕ

-- What a sink tells: the bytes put so far, where they are told, and how many writes failed.
pub record SinkTold : Type 0 where
  pub put : Option (List ℕ)
  pub faults : ℕ

-- a log, where it is told, gained these pieces at its end
abbrev pub Adds : Option (List Piece) → Option (List Piece) → List Piece → Type 0
Adds before now pieces = now ≡ option_map (λ log. log ++ pieces) before

-- the bytes still to come, where they are told, were these bytes and then what is to come now
abbrev pub Leaves : Option (List ℕ) → Option (List ℕ) → List ℕ → Type 0
Leaves before now bytes = before ≡ option_map (λ rest. bytes ++ rest) now

-- the bytes put, where they are told, gained these bytes at their end
abbrev pub Gains : Option (List ℕ) → Option (List ℕ) → List ℕ → Type 0
Gains before now bytes = now ≡ option_map (λ put. put ++ bytes) before

-- an empty read comes only where no byte is to come
abbrev pub AtEnd : List Piece → Option (List ℕ) → Type 0
AtEnd pieces rest = has_end pieces ≡ true → IsAtEnd rest

-- These pieces passed through a port that told one thing before and tells another now.
pub record Passes (before now : Told) (pieces : List Piece) : Type 0 where
  pub added : Adds before.log now.log pieces
  pub left : Leaves before.rest now.rest (got_of pieces)
  pub at_end : AtEnd pieces now.rest

-- the bytes that a read, or a write, took from the front of its slice
abbrev pub bytes_of : {E : Type 0} → Result ℕ E → List ℕ → List ℕ
bytes_of (Ok n) slice = take n slice
bytes_of (Err e) slice = []

-- the piece of a read
abbrev pub pieces_got : {E : Type 0} → Result ℕ E → List ℕ → List Piece
pieces_got (Ok n) slice = Got (take n slice) ∷ []
pieces_got (Err e) slice = []

-- the piece of a write
abbrev pub pieces_put : {E : Type 0} → Result ℕ E → List ℕ → List Piece
pieces_put (Ok n) slice = Put (take n slice) ∷ []
pieces_put (Err e) slice = []
