-- The operators on numbers, truth values and texts: what each gives for its operands and the mass,
-- or why it fails.
use Rattle.std.specs.Prelude.{ℕ, ◌+◌, ◌-◌, Bool, true, false, cond, not, ◌==◌, ◌&&◌, ◌||◌, nat_lt, nat_le, ℤ, pos, ◌+ℤ◌, ◌-ℤ◌, ◌*ℤ◌, nat_abs, int_lt, int_le, int_div, int_rem, Option, Some, None, Result, Ok, Err, List, [], ◌∷◌, ◌++◌, length, slice_index, slice_get, slice_range, bytes_eq}
use Rattle.std.specs.Ordering.{int_eq, is_lt, is_le, nat_cmp}
use Rattle.std.specs.Cmp.Lexicographic.{slice_cmp}
use Rattle.ff_number.specs.Decimal.{num_text}
use Rattle.ff_tree.specs.declared.op.Op.{Op}
use Rattle.ff_tree.specs.declared.op.Op.TheVariants as op
use Rattle.ff_value.specs.declared.fault.Fault.{Fault}
use Rattle.ff_value.specs.declared.fault.Fault.TheVariants as fault
use Rattle.ff_value.specs.declared.value.Val.{Val}
use Rattle.ff_value.specs.declared.value.Val.TheVariants as val
use Rattle.ff_operators.specs.declared.answer.Applied.{Applied}
use Rattle.ff_operators.specs.Limits.{longest_made, most_mass}
use Rattle.ff_number.specs.Numbers.{fits, read_num}
use Rattle.ff_operators.specs.Operands.{with_operands, one_bool, one_num, two_nums, one_str, two_strs, str_num, str_nums}

-- the value, for which the mass stays as it is
abbrev pub free : ℕ → Val → Result Applied Fault
free mass v = Ok (record { value = v; mass = mass })

-- a text of that length may be made: it isn't too long, and the mass stays within its limit
abbrev pub has_room : ℕ → ℕ → Bool
has_room mass size = nat_le size longest_made && nat_le (mass + size) most_mass

-- the text, whose length the mass grows by, where there is room for it
abbrev pub made : ℕ → List ℕ → Result Applied Fault
made mass text =
    cond (has_room mass (length text)) (Ok (record { value = val.Str text; mass = mass + length text })) (Err fault.Limit)

-- the number, where 64 bits hold it
abbrev pub num_or_overflow : ℕ → ℤ → Result Applied Fault
num_or_overflow mass n = cond (fits n) (free mass (val.Num n)) (Err fault.Overflow)

-- the quotient or the remainder of a division, whose quotient is rounded toward zero and must fit
abbrev pub divided : ℕ → ℤ → ℤ → ℤ → Result Applied Fault
divided mass a b result = cond (int_eq b (pos 0)) (Err fault.Range) (cond (fits (int_div a b)) (free mass (val.Num result)) (Err fault.Overflow))

-- whether two numbers or two texts are in the order that is asked for
abbrev pub ordered : ℕ → (ℤ → ℤ → Bool) → (List ℕ → List ℕ → Bool) → List Val → Result Applied Fault
ordered mass nums texts (val.Num a ∷ val.Num b ∷ []) = free mass (val.Bool (nums a b))
ordered mass nums texts (val.Str a ∷ val.Str b ∷ []) = free mass (val.Bool (texts a b))
ordered mass nums texts other = Err fault.Kind

-- the first text is before the second, by their bytes
abbrev pub text_lt : List ℕ → List ℕ → Bool
text_lt a b = is_lt (slice_cmp nat_cmp a b)

-- the first text is the second, or before it
abbrev pub text_le : List ℕ → List ℕ → Bool
text_le a b = is_le (slice_cmp nat_cmp a b)

-- whether two truth values are equal
abbrev pub same_bool : Bool → Bool → Bool
same_bool a b = cond a b (not b)

-- whether values other than functions are equal
abbrev pub same : Val → Val → Bool
same val.Null val.Null = true
same (val.Bool a) (val.Bool b) = same_bool a b
same (val.Num a) (val.Num b) = int_eq a b
same (val.Str a) (val.Str b) = bytes_eq a b
same (val.Win a) (val.Win b) = a.0 == b.0
same (val.Node a) (val.Node b) = a.0 == b.0
same a b = false

-- the value is a function
abbrev pub is_code : Val → Bool
is_code (val.Code code) = true
is_code other = false

-- whether any two values are equal; functions cannot be compared
abbrev pub equal : ℕ → List Val → Result Applied Fault
equal mass (a ∷ b ∷ []) = cond (is_code a || is_code b) (Err fault.Kind) (free mass (val.Bool (same a b)))
equal mass other = Err fault.Kind

-- how many bytes the text has; 64 bits hold that of each text that there can be
abbrev pub len : ℕ → List ℕ → Result Applied Fault
len mass text = num_or_overflow mass (pos (length text))

-- the byte at that place of the text, where the text has the place
abbrev pub byte_at : List ℕ → ℤ → Option ℕ
byte_at text n = cond (int_le (pos 0) n) (slice_get text (nat_abs n)) None

-- the byte as a number; where there is none, its place is out of range
abbrev pub byte : ℕ → Option ℕ → Result Applied Fault
byte mass None = Err fault.Range
byte mass (Some b) = free mass (val.Num (pos b))

-- a place in the text, or its end, that no character goes over
abbrev pub is_place : List ℕ → ℤ → Bool
is_place text n =
    int_le (pos 0) n && nat_le (nat_abs n) (length text)
    && (nat_abs n == length text || nat_lt (slice_index text (nat_abs n)) 128 || nat_le 192 (slice_index text (nat_abs n)))

-- the bytes from the first place to before the second, where these are places in order
abbrev pub part_of : List ℕ → ℤ → ℤ → Option (List ℕ)
part_of text from to =
    cond (is_place text from && is_place text to && nat_le (nat_abs from) (nat_abs to))
    (Some (slice_range text (nat_abs from) (nat_abs to)))
    None

-- the part of a text, which is made; where there is none, a place is out of range
abbrev pub cut : ℕ → Option (List ℕ) → Result Applied Fault
cut mass None = Err fault.Range
cut mass (Some part) = made mass part

-- the number, if there is one
abbrev pub num_or_null : Option ℤ → Val
num_or_null None = val.Null
num_or_null (Some n) = val.Num n

-- what a pure operator gives for its operands and the mass
abbrev pub apply : Op → List Val → ℕ → Result Applied Fault
apply op.Add args mass = with_operands (two_nums args) (λ o. num_or_overflow mass (o.0 +ℤ o.1))
apply op.Sub args mass = with_operands (two_nums args) (λ o. num_or_overflow mass (o.0 -ℤ o.1))
apply op.Mul args mass = with_operands (two_nums args) (λ o. num_or_overflow mass (o.0 *ℤ o.1))
apply op.Div args mass = with_operands (two_nums args) (λ o. divided mass o.0 o.1 (int_div o.0 o.1))
apply op.Rem args mass = with_operands (two_nums args) (λ o. divided mass o.0 o.1 (int_rem o.0 o.1))
apply op.Less args mass = ordered mass int_lt text_lt args
apply op.AtMost args mass = ordered mass int_le text_le args
apply op.Equal args mass = equal mass args
apply op.Not args mass = with_operands (one_bool args) (λ b. free mass (val.Bool (not b)))
apply op.Cat args mass = with_operands (two_strs args) (λ o. made mass (o.0 ++ o.1))
apply op.Len args mass = with_operands (one_str args) (λ a. len mass a)
apply op.Byte args mass = with_operands (str_num args) (λ o. byte mass (byte_at o.0 o.1))
apply op.Cut args mass = with_operands (str_nums args) (λ o. cut mass (part_of o.0 o.1 o.2))
apply op.Str args mass = with_operands (one_num args) (λ n. made mass (num_text n))
apply op.Num args mass = with_operands (one_str args) (λ a. free mass (num_or_null (read_num a)))
apply other args mass = Err fault.Kind
