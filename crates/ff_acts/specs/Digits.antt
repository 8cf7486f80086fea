-- The digits of a name, by which a search for a variable turns left or right: they are those of a
-- number, the lowest first.
use Rattle.std.specs.Prelude.{ℕ, ◌+◌, ◌*◌, ◌/◌, ◌%◌, ◌^◌, List, [], ◌∷◌, fold}
use Rattle.ff_acts.specs.declared.digits.TheConstants.{SPREAD}

-- a byte more is spread over 64 bits
abbrev pub spread_more : ℕ → ℕ → ℕ
spread_more spread b = (spread + b) % 2 ^ 64 * SPREAD % 2 ^ 64

-- the upper half of what the bytes of the name are spread to
unfoldable pub spread : List ℕ → ℕ
spread x = fold spread_more 0 x / 2 ^ 32

-- bytes as a number, the first lowest
abbrev pub number : List ℕ → ℕ
number [] = 0
number (b ∷ bs) = b + 2 ^ 8 * number bs

-- 32 digits that are spread well, and then those of the bytes, so that names whose first are equal
-- part by the others
unfoldable pub digits : List ℕ → ℕ
digits x = spread x + 2 ^ 32 * number x
