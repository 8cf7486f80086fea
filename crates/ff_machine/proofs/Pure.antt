-- What a pure operator gives for well spelled values is a well spelled value.
use Rattle.std.proofs.Common.{◌≡◌, ℕ, ◌+◌, ◌<◌, ◌^◌, ℤ, pos, Bool, true, false, cond, Option, Some, None, Result, Ok, Err, List, [], ◌∷◌, ◌++◌, length, slice_get, nat_abs, int_le, int_lt, int_div, int_rem, ◌||◌, ◌+ℤ◌, ◌-ℤ◌, ◌*ℤ◌, All, arith, refl, FitsSigned}
use Rattle.std.specs.Int.{w64}
use Rattle.std.specs.List.{AllByRecursion}
use Rattle.std.specs.Ordering.{int_eq}
use Rattle.std.specs.Str.{IsUtf8}
use Rattle.std.proofs.lemmas.List.Elements.{recursion_from_All}
use Rattle.std.proofs.lemmas.Str.{IsUtf8-append}
use lib.Signed.{mag_rem}
use Rattle.ff_number.specs.Decimal.{num_text}
use Rattle.ff_number.specs.Numbers.{fits, read_num}
use Rattle.ff_operators.specs.declared.answer.Applied.{Applied}
use Rattle.ff_operators.specs.Operands.{one_bool, one_num, two_nums, one_str, two_strs, str_num, str_nums}
use Rattle.ff_operators.specs.Pure.{apply, text_lt, text_le, free, made, has_room, num_or_overflow, divided, ordered, equal, same, is_code, byte, byte_at, cut, part_of, num_or_null}
use Rattle.ff_tree.specs.declared.op.Op.{Op}
use Rattle.ff_tree.specs.declared.op.Op.TheVariants as op
use Rattle.ff_value.specs.Spelled.{IsWellSpelledVal}
use Rattle.ff_value.specs.declared.fault.Fault.{Fault}
use Rattle.ff_value.specs.declared.fault.Fault.TheVariants as fault
use Rattle.ff_value.specs.declared.value.Val.{Val}
use Rattle.ff_value.specs.declared.value.Val.TheVariants as val
use Rattle.ff_machine.specs.References.{Made}
use Rattle.ff_machine.specs.Valid.{IsVal}
use Rattle.ff_machine.proofs.Operands.{operands_give, one_num_holds, two_nums_hold, two_strs_hold, str_num_holds, str_nums_hold}
use Rattle.ff_machine.proofs.Utf8.{IsUtf8-num_text, IsUtf8-part_of, fits_signed, read_num_fits, byte_of_text}

-- an answer with a well spelled value that refers to nothing but what was made, or a fault
abbrev pub AppliesVal : Made → Result Applied Fault → Type 0
AppliesVal m (Ok applied) = IsVal m applied.value
AppliesVal m (Err f) = Unit {0}

a_count : (n : ℕ) → n < 2 ^ 63 → FitsSigned w64 (pos n)
a_count n small = record { sfits = small }

-- a remainder is no larger than the number that is divided
rem_fits : (a b : ℤ) → FitsSigned w64 a → FitsSigned w64 (int_rem a b)
rem_fits a b small = let less = mag_rem a b in let few = small.sfits in record { sfits = omega (arith, less, few) }

module _ (m : Made) where
  pub made_valid : (mass : ℕ) (text : List ℕ) → IsUtf8 text → AppliesVal m (made mass text)
  made_valid mass text u = by (has_room mass (length text)) where
    by : (b : Bool) → AppliesVal m (cond b (Ok (record { value = val.Str text; mass = mass + length text })) (Err fault.Limit))
    by true = (u, tt)
    by false = tt

  number_valid : (mass : ℕ) (n : ℤ) → AppliesVal m (num_or_overflow mass n)
  number_valid mass n = by (fits n) refl where
    by : (b : Bool) → fits n ≡ b → AppliesVal m (cond b (free mass (val.Num n)) (Err fault.Overflow))
    by true e = (fits_signed n e, tt)
    by false e = tt

  divided_valid : (mass : ℕ) (a b result : ℤ) → (fits (int_div a b) ≡ true → FitsSigned w64 result) → AppliesVal m (divided mass a b result)
  divided_valid mass a b result small = by (int_eq b (pos 0)) (fits (int_div a b)) refl where
    by : (zero within : Bool) → fits (int_div a b) ≡ within → AppliesVal m (cond zero (Err fault.Range) (cond within (free mass (val.Num result)) (Err fault.Overflow)))
    by true within e = tt
    by false true e = (small e, tt)
    by false false e = tt

  ordered_valid : (mass : ℕ) (nums : ℤ → ℤ → Bool) (texts : List ℕ → List ℕ → Bool) (args : List Val) → AppliesVal m (ordered mass nums texts args)
  ordered_valid mass nums texts (val.Num a ∷ val.Num b ∷ []) = (tt, tt)
  ordered_valid mass nums texts (val.Str a ∷ val.Str b ∷ []) = (tt, tt)
  ordered_valid mass nums texts other = tt

  equal_valid : (mass : ℕ) (args : List Val) → AppliesVal m (equal mass args)
  equal_valid mass (a ∷ b ∷ []) = by (is_code a || is_code b) where
    by : (t : Bool) → AppliesVal m (cond t (Err fault.Kind) (free mass (val.Bool (same a b))))
    by true = tt
    by false = (tt, tt)
  equal_valid mass other = tt

  byte_valid : (mass : ℕ) (text : List ℕ) (n : ℤ) → IsUtf8 text → AppliesVal m (byte mass (byte_at text n))
  byte_valid mass text n u = by (int_le (pos 0) n) where
    given : (o : Option ℕ) → slice_get text (nat_abs n) ≡ o → AppliesVal m (byte mass o)
    given None e = tt
    given (Some b) e = let few = byte_of_text text (nat_abs n) b u e in (a_count b (omega (arith, few)), tt)

    by : (t : Bool) → AppliesVal m (byte mass (cond t (slice_get text (nat_abs n)) None))
    by true = given (slice_get text (nat_abs n)) refl
    by false = tt

  cut_valid : (mass : ℕ) (text : List ℕ) (from to : ℤ) → IsUtf8 text → AppliesVal m (cut mass (part_of text from to))
  cut_valid mass text from to u = by (part_of text from to) refl where
    by : (o : Option (List ℕ)) → part_of text from to ≡ o → AppliesVal m (cut mass o)
    by None e = tt
    by (Some part) e = made_valid mass part (IsUtf8-part_of text part from to u e)

  read_valid : (text : List ℕ) → IsVal m (num_or_null (read_num text))
  read_valid text = by (read_num text) refl where
    by : (o : Option ℤ) → read_num text ≡ o → IsVal m (num_or_null o)
    by None e = (tt, tt)
    by (Some n) e = (read_num_fits text n e, tt)

  -- All pure operators.

  valid_by_recursion : (o : Op) (args : List Val) (mass : ℕ) → AllByRecursion IsWellSpelledVal args → AppliesVal m (apply o args mass)
  valid_by_recursion op.Add args mass all = operands_give (AppliesVal m) tt (two_nums args) _ (λ o e. number_valid mass (o.0 +ℤ o.1))
  valid_by_recursion op.Sub args mass all = operands_give (AppliesVal m) tt (two_nums args) _ (λ o e. number_valid mass (o.0 -ℤ o.1))
  valid_by_recursion op.Mul args mass all = operands_give (AppliesVal m) tt (two_nums args) _ (λ o e. number_valid mass (o.0 *ℤ o.1))
  valid_by_recursion op.Div args mass all = operands_give (AppliesVal m) tt (two_nums args) _ (λ o e. divided_valid mass o.0 o.1 (int_div o.0 o.1) (fits_signed (int_div o.0 o.1)))
  valid_by_recursion op.Rem args mass all = operands_give (AppliesVal m) tt (two_nums args) _ (λ o e. divided_valid mass o.0 o.1 (int_rem o.0 o.1) (λ _. rem_fits o.0 o.1 (two_nums_hold IsWellSpelledVal args o all e).0))
  valid_by_recursion op.Less args mass all = ordered_valid mass int_lt text_lt args
  valid_by_recursion op.AtMost args mass all = ordered_valid mass int_le text_le args
  valid_by_recursion op.Equal args mass all = equal_valid mass args
  valid_by_recursion op.Not args mass all = operands_give (AppliesVal m) tt (one_bool args) _ (λ b e. (tt, tt))
  valid_by_recursion op.Cat args mass all = operands_give (AppliesVal m) tt (two_strs args) _ (λ o e. let both = two_strs_hold IsWellSpelledVal args o all e in made_valid mass (o.0 ++ o.1) (IsUtf8-append o.0 o.1 both.0 both.1))
  valid_by_recursion op.Len args mass all = operands_give (AppliesVal m) tt (one_str args) _ (λ a e. number_valid mass (pos (length a)))
  valid_by_recursion op.Byte args mass all = operands_give (AppliesVal m) tt (str_num args) _ (λ o e. byte_valid mass o.0 o.1 (str_num_holds IsWellSpelledVal args o all e).0)
  valid_by_recursion op.Cut args mass all = operands_give (AppliesVal m) tt (str_nums args) _ (λ o e. cut_valid mass o.0 o.1 o.2 (str_nums_hold IsWellSpelledVal args o all e).0)
  valid_by_recursion op.Str args mass all = operands_give (AppliesVal m) tt (one_num args) _ (λ n e. made_valid mass (num_text n) (IsUtf8-num_text n (one_num_holds IsWellSpelledVal args n all e)))
  valid_by_recursion op.Num args mass all = operands_give (AppliesVal m) tt (one_str args) _ (λ a e. read_valid a)
  valid_by_recursion other args mass all = tt

  -- for well spelled operands it gives such a value, or a fault
  pub apply_valid : (o : Op) (args : List Val) (mass : ℕ) → All IsWellSpelledVal args → AppliesVal m (apply o args mass)
  apply_valid o args mass all = valid_by_recursion o args mass (recursion_from_All IsWellSpelledVal args all)
