-- How the reader sorts bytes.
use Rattle.std.specs.Prelude.{◌-◌, ◌+◌, ℕ, ◌||◌, ◌&&◌, ◌==◌, nat_le, if◌then◌else◌, Option, Some, None}
use Rattle.std.specs.Char.{is_ascii_graphic, is_ascii_control, is_ascii_digit}
use Rattle.ff_text.specs.declared.bytes.Class.{Class}
use Rattle.ff_text.specs.declared.bytes.Class.TheVariants as class
use Rattle.ff_text.specs.declared.bytes.InStr.{InStr}
use Rattle.ff_text.specs.declared.bytes.InStr.TheVariants as str
use Rattle.ff_text.specs.declared.bytes.Slashed.{Slashed}
use Rattle.ff_text.specs.declared.bytes.Slashed.TheVariants as slashed

unfoldable pub class_of : ℕ → Class
class_of b =
    if b == 32 then class.Blank
    else if b == 40 then class.Open
    else if b == 41 then class.Close
    else if b == 34 then class.Quote
    else if is_ascii_graphic b then class.InWord
    else class.Stray

unfoldable pub in_str_of : ℕ → InStr
in_str_of b =
    if b == 34 then str.Mark
    else if b == 92 then str.Backslash
    else if is_ascii_control b then str.Control
    else str.Plain

unfoldable pub slashed_of : ℕ → Slashed
slashed_of b =
    if b == 34 || b == 92 then slashed.Short b
    else if b == 110 then slashed.Short 10
    else if b == 116 then slashed.Short 9
    else if b == 120 then slashed.Hex
    else slashed.Wrong

unfoldable pub high_digit : ℕ → Option ℕ
high_digit b = if nat_le 48 b && nat_le b 55 then Some (b - 48) else None

unfoldable pub low_digit : ℕ → Option ℕ
low_digit b =
    if is_ascii_digit b then Some (b - 48)
    else if nat_le 97 b && nat_le b 102 then Some (b - 97 + 10)
    else None
