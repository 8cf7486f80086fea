-- The pieces that are still to come from a port in memory.
use Rattle.std.specs.Prelude.{ℕ, ◌<◌, List, [], ◌∷◌, ◌++◌, drop, length, map, Vec, ⊤}
use Rattle.std.specs.declared.alloc.Global.{Global}

-- a piece of which these bytes are left, and then these pieces: a piece with no byte isn't there
abbrev pub left_over : List ℕ → List (List ℕ) → List (List ℕ)
left_over [] pieces = pieces
left_over (b ∷ bs) pieces = (b ∷ bs) ∷ pieces

-- the pieces that are not empty
abbrev pub nonempty : List (List ℕ) → List (List ℕ)
nonempty [] = []
nonempty (piece ∷ pieces) = left_over piece (nonempty pieces)

-- the bytes of all pieces, joined
abbrev pub joined : List (List ℕ) → List ℕ
joined [] = []
joined (piece ∷ pieces) = piece ++ joined pieces

-- the first piece, or no byte
abbrev pub front_piece : List (List ℕ) → List ℕ
front_piece [] = []
front_piece (piece ∷ pieces) = piece

-- the pieces once n bytes of the first were got
abbrev pub without_front : ℕ → List (List ℕ) → List (List ℕ)
without_front n [] = []
without_front n (piece ∷ pieces) = left_over (drop n piece) pieces

-- what vectors hold
abbrev pub byte_lists : List (Vec ℕ Global) → List (List ℕ)
byte_lists vectors = map (λ v. v.items) vectors

-- the pieces of these vectors from an offset in the first one on
abbrev pub pieces_from : List (Vec ℕ Global) → ℕ → List (List ℕ)
pieces_from [] offset = []
pieces_from (v ∷ vectors) offset = left_over (drop offset v.items) (nonempty (byte_lists vectors))

-- the offset is that of a byte of the first vector, or no vector is left
abbrev pub IsPlace : List (Vec ℕ Global) → ℕ → Type 0
IsPlace [] offset = ⊤
IsPlace (v ∷ vectors) offset = offset < length v.items
