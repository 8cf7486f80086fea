-- Pieces of one call after those of another: what two calls on one port do together.
use Rattle.std.proofs.Common.{◌≡◌, ℕ, Bool, true, false, ◌||◌, List, [], ◌∷◌, ◌++◌, Option, Some, None, IfSome, refl, ap, sym, append-nil, append_assoc}
use Rattle.std.specs.Io.KnownBytes.{IsAtEnd}
use Rattle.ff_io.specs.Pieces.{Piece, got_of, put_of, has_end, AllPut}
use Rattle.ff_io.specs.Pieces.Piece.{Got, Put}
use Rattle.ff_io.specs.Port.{Adds, Leaves}

-- the bytes got in two calls
pub got_of-append : (xs ys : List Piece) → got_of (xs ++ ys) ≡ got_of xs ++ got_of ys
got_of-append [] ys = refl
got_of-append (Got b ∷ xs) ys = rw (got_of-append xs ys) (sym (append_assoc b (got_of xs) (got_of ys)))
got_of-append (Put b ∷ xs) ys = got_of-append xs ys

-- the bytes put in two calls
pub put_of-append : (xs ys : List Piece) → put_of (xs ++ ys) ≡ put_of xs ++ put_of ys
put_of-append [] ys = refl
put_of-append (Got b ∷ xs) ys = put_of-append xs ys
put_of-append (Put b ∷ xs) ys = rw (put_of-append xs ys) (sym (append_assoc b (put_of xs) (put_of ys)))

-- the end was seen in the first call or in the second
pub has_end-append : (xs ys : List Piece) → has_end (xs ++ ys) ≡ (has_end xs || has_end ys)
has_end-append [] ys = refl
has_end-append (Got [] ∷ xs) ys = refl
has_end-append (Got (b ∷ bs) ∷ xs) ys = has_end-append xs ys
has_end-append (Put b ∷ xs) ys = has_end-append xs ys

-- writes get nothing
pub got_of-AllPut : (xs : List Piece) → AllPut xs → got_of xs ≡ []
got_of-AllPut [] h = refl
got_of-AllPut (Got b ∷ xs) h = absurd h
got_of-AllPut (Put b ∷ xs) h = got_of-AllPut xs h.1

-- writes see no end
pub has_end-AllPut : (xs : List Piece) → AllPut xs → has_end xs ≡ false
has_end-AllPut [] h = refl
has_end-AllPut (Got b ∷ xs) h = absurd h
has_end-AllPut (Put b ∷ xs) h = has_end-AllPut xs h.1

-- writes and then writes
pub AllPut-append : (xs ys : List Piece) → AllPut xs → AllPut ys → AllPut (xs ++ ys)
AllPut-append [] ys h k = k
AllPut-append (Got b ∷ xs) ys h k = absurd h
AllPut-append (Put b ∷ xs) ys h k = (h.0, AllPut-append xs ys h.1 k)

-- a log that gained nothing
pub Adds-nil : (log : Option (List Piece)) → Adds log log []
Adds-nil None = refl
Adds-nil (Some log) = ap Some (sym (append-nil log))

-- a log that gained pieces twice
pub Adds-trans : (before mid now : Option (List Piece)) (xs ys : List Piece) → Adds before mid xs → Adds mid now ys → Adds before now (xs ++ ys)
Adds-trans None mid now xs ys h k = rw (k, h) refl
Adds-trans (Some log) mid now xs ys h k = rw (k, h) (ap Some (append_assoc log xs ys))

-- nothing was got
pub Leaves-nil : (rest : Option (List ℕ)) → Leaves rest rest []
Leaves-nil None = refl
Leaves-nil (Some rest) = refl

-- bytes were got twice
pub Leaves-trans : (before mid now : Option (List ℕ)) (xs ys : List ℕ) → Leaves before mid xs → Leaves mid now ys → Leaves before now (xs ++ ys)
Leaves-trans before mid None xs ys h k = rw (h, k) refl
Leaves-trans before mid (Some rest) xs ys h k = rw (h, k) (ap Some (sym (append_assoc xs ys rest)))

-- writes after other pieces get nothing
pub got_of-then_put : (xs ys : List Piece) → AllPut ys → got_of (xs ++ ys) ≡ got_of xs
got_of-then_put xs ys h = rw (got_of-append xs ys, got_of-AllPut ys h) (append-nil (got_of xs))

-- and see no end
pub has_end-then_put : (xs ys : List Piece) → AllPut ys → has_end (xs ++ ys) ≡ has_end xs
has_end-then_put xs ys h = rw (has_end-append xs ys, has_end-AllPut ys h) (or-false (has_end xs))
  where
    or-false : (b : Bool) → (b || false) ≡ b
    or-false true = refl
    or-false false = refl

-- where the end was seen and a port tells what is to come, that was what was got
pub rest_was_got : (before now : Option (List ℕ)) (bytes : List ℕ) → Leaves before now bytes → IsAtEnd now → IfSome before (λ rest. rest ≡ bytes)
rest_was_got before None bytes left none = rw left tt
rest_was_got before (Some rest) bytes left none = rw (left, none) (append-nil bytes)
