-- The pieces that passed through a port in memory, as it keeps them: the bytes of each side joined,
-- and where they were cut.
use Rattle.std.specs.Prelude.{◌≡◌, ℕ, ◌+◌, List, [], ◌∷◌, take, drop, length}
use Rattle.ff_io.specs.Pieces.{Piece}
use Rattle.ff_io.specs.Pieces.Piece.{Got, Put}
use Rattle.ff_io.specs.declared.tape.Step.{Step}
use Rattle.ff_io.specs.declared.tape.Step.TheVariants.{In, Out}

-- the pieces of these steps over the bytes got and the bytes put
abbrev pub replay : List Step → List ℕ → List ℕ → List Piece
replay [] got put = []
replay (In n ∷ steps) got put = Got (take n got) ∷ replay steps (drop n got) put
replay (Out n ∷ steps) got put = Put (take n put) ∷ replay steps got (drop n put)

-- how many bytes the steps got
abbrev pub count_in : List Step → ℕ
count_in [] = 0
count_in (In n ∷ steps) = n + count_in steps
count_in (Out n ∷ steps) = count_in steps

-- how many bytes the steps put
abbrev pub count_out : List Step → ℕ
count_out [] = 0
count_out (In n ∷ steps) = count_out steps
count_out (Out n ∷ steps) = n + count_out steps

-- the steps are those of these bytes
pub record Cuts (steps : List Step) (got put : List ℕ) : Type 0 where
  pub got_all : count_in steps ≡ length got
  pub put_all : count_out steps ≡ length put
