-- Whole numbers of 64 bits, and the one that bytes spell.
use Rattle.std.specs.Prelude.{Bool, cond, ◌&&◌, ◌^◌, ℤ, ℕ, pos, neg_ℤ, int_le, int_lt, Option, Some, None, List, bytes_eq}
use Rattle.std.specs.Str.Parse.{signed_digits_value}
use Rattle.ff_number.specs.Decimal.{num_text}

-- 64 bits hold the number
abbrev pub fits : ℤ → Bool
fits n = int_le (neg_ℤ (pos (2 ^ 63))) n && int_lt n (pos (2 ^ 63))

-- the number of 64 bits whose text the bytes are
unfoldable pub read_num : List ℕ → Option ℤ
read_num bytes =
    let n = signed_digits_value 10 bytes in
    cond (bytes_eq (num_text n) bytes && fits n) (Some n) None
