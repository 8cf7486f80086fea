-- Which words are variables, and which have to be numbers.
use Rattle.std.specs.Prelude.{ℕ, Bool, false, ◌&&◌, ◌||◌, not, ◌==◌, List, [], ◌∷◌, codes}
use Rattle.std.specs.Char.{is_ascii_digit}
use Rattle.std.specs.Str.{bytes_eq}
use Rattle.ff_name.specs.Reading.{is_name}

-- a word that stands for a literal
abbrev pub is_literal : List ℕ → Bool
is_literal word = bytes_eq word (codes "null") || bytes_eq word (codes "true") || bytes_eq word (codes "false")

-- a name that a variable may have
abbrev pub is_variable : List ℕ → Bool
is_variable word = is_name word && not (is_literal word)

abbrev pub begins_with_digit : List ℕ → Bool
begins_with_digit [] = false
begins_with_digit (b ∷ word) = is_ascii_digit b

-- a word that has to be a number: it begins with a digit, or with a minus and a digit
abbrev pub looks_like_number : List ℕ → Bool
looks_like_number [] = false
looks_like_number (b ∷ word) = is_ascii_digit b || (b == 45 && begins_with_digit word)
