-- The bytes of words and of strings.
use Rattle.std.specs.Prelude.{ℕ, Bool, ◌||◌, ◌&&◌, not, ◌==◌}
use Rattle.std.specs.Char.{is_ascii_graphic, is_ascii_control}

-- a visible byte of ASCII other than `(`, `)` and `"`
abbrev pub is_word_byte : ℕ → Bool
is_word_byte b = is_ascii_graphic b && not (b == 40 || b == 41 || b == 34)

-- a byte that stands for itself in a string: no mark, no backslash and no control byte
abbrev pub is_plain_byte : ℕ → Bool
is_plain_byte b = not (b == 34 || b == 92 || is_ascii_control b)
