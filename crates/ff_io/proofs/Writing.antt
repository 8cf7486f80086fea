-- Writing a whole text: what was put so far, and the answers.
use Rattle.std.proofs.Common.{◌≡◌, ℕ, ◌<◌, ◌≤◌, List, [], ◌∷◌, ◌++◌, Option, length, take, drop, ap, append_assoc, append-nil, arith, length-append}
use Rattle.std.proofs.lemmas.List.{take-append-drop, length-take-le}
use Rattle.ff_io.specs.Pieces.{Piece, put_of, AllPut}
use Rattle.ff_io.specs.Pieces.Piece.{Put}
use Rattle.ff_io.specs.Port.{Adds}
use Rattle.ff_io.proofs.Joins.{put_of-append, AllPut-append, Adds-trans}

-- these pieces were put, and `left` of `bytes` is still to be put
pub record PutSoFar (before now : Option (List Piece)) (bytes left : List ℕ) : Type 0 where
  pub pieces : List Piece
  pub added : Adds before now pieces
  pub all_put : AllPut pieces
  pub joined : put_of pieces ++ left ≡ bytes

-- a write that took the first n bytes
pub put_more : (before mid now : Option (List Piece)) (bytes left after : List ℕ) (n : ℕ) → PutSoFar before mid bytes left → 0 < n → n ≤ length left → Adds mid now (Put (take n left) ∷ []) → after ≡ drop n left → PutSoFar before now bytes after
put_more before mid now bytes left after n so_far some bound added e = record {
  pieces = so_far.pieces ++ Put (take n left) ∷ [];
  added = Adds-trans before mid now so_far.pieces (Put (take n left) ∷ []) so_far.added added;
  all_put = AllPut-append so_far.pieces (Put (take n left) ∷ []) so_far.all_put ((let len = length-take-le n left bound in omega arith), tt);
  joined =
      rw (e, put_of-append so_far.pieces (Put (take n left) ∷ []), append-nil (take n left), append_assoc (put_of so_far.pieces) (take n left) (drop n left), take-append-drop n left)
      so_far.joined;
}

-- of an empty text nothing is left
pub left_of_nothing : (before now : Option (List Piece)) (bytes left : List ℕ) (n : ℕ) → PutSoFar before now bytes left → 0 < n → n ≤ length left → length bytes ≡ 0 → ⊥
left_of_nothing before now bytes left n so_far some bound none =
    omega (arith, ap length so_far.joined, length-append (put_of so_far.pieces) left)
