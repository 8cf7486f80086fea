-- Whole numbers in decimal, each in its one canonical spelling.
use Rattle.std.specs.Prelude.{ℕ, ℤ, Bool, false, cond, ◌&&◌, ◌==◌, List, [], ◌∷◌, length}
use Rattle.std.specs.Fmt.{decimal, signed_decimal}
use Rattle.std.specs.Char.{is_ascii_digit}
use Rattle.std.specs.List.{list_all}

-- the bytes of a natural number below 10 ^ 64: `0`, or digits that begin with 1 to 9
abbrev pub nat_text : ℕ → List ℕ
nat_text n = decimal n

-- the bytes of a whole number: those of its size, after a minus where it is negative
abbrev pub num_text : ℤ → List ℕ
num_text n = signed_decimal n

-- the bytes are `0`, or digits that begin with 1 to 9
abbrev pub is_canonical : List ℕ → Bool
is_canonical [] = false
is_canonical (b ∷ bytes) = cond (b == 48) (length bytes == 0) (is_ascii_digit b && list_all is_ascii_digit bytes)
