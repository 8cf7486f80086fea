-- Which bytes are of which class.
use Rattle.std.proofs.Common.{◌≡◌, ◌≢◌, ◌<◌, ℕ, true, false, Some, arith}
use Rattle.std.specs.Char.{is_ascii_graphic, is_ascii_control}
use Rattle.std.proofs.lemmas.Bool.Decides.{nat_tests}
use Rattle.ff_text.specs.declared.bytes.Class.{Class}
use Rattle.ff_text.specs.declared.bytes.Class.TheVariants as class
use Rattle.ff_text.specs.declared.bytes.InStr.{InStr}
use Rattle.ff_text.specs.declared.bytes.InStr.TheVariants as str
use Rattle.ff_text.specs.declared.bytes.Slashed.TheVariants as slashed
use Rattle.ff_text.specs.Bytes.{is_word_byte}
use Rattle.ff_text.specs.Classes.{class_of, in_str_of, slashed_of, high_digit, low_digit}
use Rattle.ff_text.specs.Notation.{hex_digit, IsPlain}
use Rattle.ff_text.specs.Faults.{IsStray}

pub class_of-word : (b : ℕ) → is_word_byte b ≡ true → class_of b ≡ class.InWord
unfolding class_of
class_of-word b h = grind (arith, nat_tests)

pub class_of-stray : (b : ℕ) → IsStray b → class_of b ≡ class.Stray
unfolding class_of
class_of-stray b h = grind (arith, nat_tests)

abbrev pub ClassFact : ℕ → Class → Type 0
ClassFact b class.Blank = b ≡ 32
ClassFact b class.Open = b ≡ 40
ClassFact b class.Close = b ≡ 41
ClassFact b class.Quote = b ≡ 34
ClassFact b class.InWord = is_word_byte b ≡ true
ClassFact b class.Stray = IsStray b

class_blank : (b : ℕ) → class_of b ≡ class.Blank → b ≡ 32
unfolding class_of
class_blank b h = grind (arith, nat_tests)

class_open : (b : ℕ) → class_of b ≡ class.Open → b ≡ 40
unfolding class_of
class_open b h = grind (arith, nat_tests)

class_close : (b : ℕ) → class_of b ≡ class.Close → b ≡ 41
unfolding class_of
class_close b h = grind (arith, nat_tests)

class_quote : (b : ℕ) → class_of b ≡ class.Quote → b ≡ 34
unfolding class_of
class_quote b h = grind (arith, nat_tests)

class_word : (b : ℕ) → class_of b ≡ class.InWord → is_word_byte b ≡ true
unfolding class_of
class_word b h = grind (arith, nat_tests)

class_no_blank : (b : ℕ) → class_of b ≡ class.Stray → b ≢ 32
unfolding class_of
class_no_blank b h = grind (arith, nat_tests)

class_no_graphic : (b : ℕ) → class_of b ≡ class.Stray → is_ascii_graphic b ≡ false
unfolding class_of
class_no_graphic b h = grind (arith, nat_tests)

-- what a byte's class says of it
pub class_fact : (b : ℕ) (k : Class) → class_of b ≡ k → ClassFact b k
class_fact b class.Blank h = class_blank b h
class_fact b class.Open h = class_open b h
class_fact b class.Close h = class_close b h
class_fact b class.Quote h = class_quote b h
class_fact b class.InWord h = class_word b h
class_fact b class.Stray h = record { no_blank = class_no_blank b h; no_graphic = class_no_graphic b h }

pub in_str_of-plain : (b : ℕ) → b ≢ 34 → b ≢ 92 → is_ascii_control b ≡ false → in_str_of b ≡ str.Plain
unfolding in_str_of
in_str_of-plain b m s c = grind (arith, nat_tests)

pub in_str_of-control : (b : ℕ) → is_ascii_control b ≡ true → in_str_of b ≡ str.Control
unfolding in_str_of
in_str_of-control b c = grind (arith, nat_tests)

str_mark : (b : ℕ) → in_str_of b ≡ str.Mark → b ≡ 34
unfolding in_str_of
str_mark b h = grind (arith, nat_tests)

str_backslash : (b : ℕ) → in_str_of b ≡ str.Backslash → b ≡ 92
unfolding in_str_of
str_backslash b h = grind (arith, nat_tests)

str_control : (b : ℕ) → in_str_of b ≡ str.Control → is_ascii_control b ≡ true
unfolding in_str_of
str_control b h = grind (arith, nat_tests)

str_no_mark : (b : ℕ) → in_str_of b ≡ str.Plain → b ≢ 34
unfolding in_str_of
str_no_mark b h = grind (arith, nat_tests)

str_no_backslash : (b : ℕ) → in_str_of b ≡ str.Plain → b ≢ 92
unfolding in_str_of
str_no_backslash b h = grind (arith, nat_tests)

str_no_control : (b : ℕ) → in_str_of b ≡ str.Plain → is_ascii_control b ≡ false
unfolding in_str_of
str_no_control b h = grind (arith, nat_tests)

abbrev pub StrFact : ℕ → InStr → Type 0
StrFact b str.Mark = b ≡ 34
StrFact b str.Backslash = b ≡ 92
StrFact b str.Control = is_ascii_control b ≡ true
StrFact b str.Plain = IsPlain b

-- what the class of a byte in a string says of it
pub str_fact : (b : ℕ) (k : InStr) → in_str_of b ≡ k → StrFact b k
str_fact b str.Mark h = str_mark b h
str_fact b str.Backslash h = str_backslash b h
str_fact b str.Control h = str_control b h
str_fact b str.Plain h = record { no_mark = str_no_mark b h; no_backslash = str_no_backslash b h; no_control = str_no_control b h }

pub high_digit-digit : (h : ℕ) → h < 8 → high_digit (hex_digit h) ≡ Some h
unfolding high_digit
high_digit-digit h small = grind (arith, nat_tests)

pub low_digit-digit : (l : ℕ) → l < 16 → low_digit (hex_digit l) ≡ Some l
unfolding low_digit
low_digit-digit l small = grind (arith, nat_tests)

pub high_small : (b h : ℕ) → high_digit b ≡ Some h → h < 8
unfolding high_digit
high_small b h e = grind (arith, nat_tests)

pub high_is : (b h : ℕ) → high_digit b ≡ Some h → b ≡ hex_digit h
unfolding high_digit
high_is b h e = grind (arith, nat_tests)

pub low_small : (b l : ℕ) → low_digit b ≡ Some l → l < 16
unfolding low_digit
low_small b l e = grind (arith, nat_tests)

pub low_is : (b l : ℕ) → low_digit b ≡ Some l → b ≡ hex_digit l
unfolding low_digit
low_is b l e = grind (arith, nat_tests)

pub slash_hex : (b : ℕ) → slashed_of b ≡ slashed.Hex → b ≡ 120
unfolding slashed_of
slash_hex b h = grind (arith, nat_tests)
