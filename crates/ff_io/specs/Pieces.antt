-- What passes through a port: the pieces got from it and the pieces put to it, in the order of the
-- calls.
use Rattle.std.specs.Prelude.{Bool, true, false, ◌||◌, ℕ, List, [], ◌∷◌, ◌++◌, ⊤, length, ◌<◌}

-- The bytes of one read, none at the end, or of one write.
pub data Piece : Type 0 where
  Got : List ℕ → Piece
  Put : List ℕ → Piece

-- whether a list is empty
abbrev pub is_nil : List ℕ → Bool
is_nil [] = true
is_nil (b ∷ bs) = false

-- the bytes got, joined
abbrev pub got_of : List Piece → List ℕ
got_of [] = []
got_of (Got bytes ∷ pieces) = bytes ++ got_of pieces
got_of (Put bytes ∷ pieces) = got_of pieces

-- the bytes put, joined
abbrev pub put_of : List Piece → List ℕ
put_of [] = []
put_of (Got bytes ∷ pieces) = put_of pieces
put_of (Put bytes ∷ pieces) = bytes ++ put_of pieces

-- whether an empty read came: the end was seen
abbrev pub has_end : List Piece → Bool
has_end [] = false
has_end (Got bytes ∷ pieces) = is_nil bytes || has_end pieces
has_end (Put bytes ∷ pieces) = has_end pieces

-- only writes, and none of them empty
abbrev pub AllPut : List Piece → Type 0
AllPut [] = ⊤
AllPut (Got bytes ∷ pieces) = ⊥
AllPut (Put bytes ∷ pieces) = (0 < length bytes) × AllPut pieces
