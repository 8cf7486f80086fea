-- What the callers of this crate know of the texts of numbers.
use Rattle.std.proofs.Common.{◌≡◌, ◌<◌, ◌^◌, ℕ, ℤ, pos, negsuc, suc, Bool, true, ◌||◌, ◌==◌, List, [], ◌∷◌, length, arith, refl, sym, ap, FitsSigned}
use Rattle.std.specs.Char.{is_ascii_digit}
use Rattle.std.specs.Int.{w64}
use Rattle.std.specs.List.{list_all}
use Rattle.std.proofs.lemmas.Bool.Decides.{nat_tests}
use Rattle.std.proofs.lemmas.Fmt.{decimal_injective, signed_decimal_injective, decimal_nonempty}
use Rattle.ff_number.specs.Decimal.{nat_text, num_text}
use Rattle.ff_number.proofs.Canonical.{CanonicalParts-nat_text}
pub use Rattle.ff_number.proofs.Canonical.{is_canonical-nat_text, IsUtf8-nat_text}
pub use Rattle.ff_number.proofs.Signed.{no_minus}

-- each byte is a digit
pub digits-nat_text : (n : ℕ) → n < 2 ^ 64 → list_all is_ascii_digit (nat_text n) ≡ true
digits-nat_text n small = (CanonicalParts-nat_text n small).digits

-- there is a byte
pub some-nat_text : (n : ℕ) → n < 2 ^ 64 → 0 < length (nat_text n)
some-nat_text n small = decimal_nonempty n small

-- one text is of one number
pub nat_text_injective : (m n : ℕ) → m < 2 ^ 64 → n < 2 ^ 64 → nat_text m ≡ nat_text n → m ≡ n
nat_text_injective m n small same e = decimal_injective m n small same e

-- a text is not empty, and begins with a digit
pub record BeginsWithDigit (bytes : List ℕ) : Type 0 where
  pub first : ℕ
  pub rest : List ℕ
  pub digit : is_ascii_digit first ≡ true
  pub digits : list_all is_ascii_digit rest ≡ true
  pub parts : bytes ≡ first ∷ rest

begins : (bytes : List ℕ) → list_all is_ascii_digit bytes ≡ true → 0 < length bytes → BeginsWithDigit bytes
begins [] digits some = absurd (omega arith)
begins (b ∷ bytes) digits some = record { first = b; rest = bytes; digit = grind (arith, nat_tests); digits = grind (arith, nat_tests); parts = refl }

pub BeginsWithDigit-nat_text : (n : ℕ) → n < 2 ^ 64 → BeginsWithDigit (nat_text n)
BeginsWithDigit-nat_text n small = begins (nat_text n) (digits-nat_text n small) (some-nat_text n small)

-- a text is digits, maybe after a minus
pub data BeginsNumber (bytes : List ℕ) : Type 0 where
  digit : BeginsWithDigit bytes → BeginsNumber bytes
  minus : (digits : List ℕ) → BeginsWithDigit digits → bytes ≡ 45 ∷ digits → BeginsNumber bytes

pub BeginsNumber-num_text : (n : ℤ) → FitsSigned w64 n → BeginsNumber (num_text n)
BeginsNumber-num_text (pos n) fits = digit (BeginsWithDigit-nat_text n (omega (arith, fits.sfits)))
BeginsNumber-num_text (negsuc n) fits = minus (nat_text (suc n)) (BeginsWithDigit-nat_text (suc n) (omega (arith, fits.sfits))) refl

some : (bytes : List ℕ) → BeginsNumber bytes → 0 < length bytes
some bytes (digit d) = omega (arith, ap length d.parts)
some bytes (minus digits d e) = omega (arith, ap length e)

pub some-num_text : (n : ℤ) → FitsSigned w64 n → 0 < length (num_text n)
some-num_text n fits = some (num_text n) (BeginsNumber-num_text n fits)

-- each byte is a digit or a minus
abbrev pub stands_in_number : ℕ → Bool
stands_in_number b = (b == 45) || is_ascii_digit b

widened : (bytes : List ℕ) → list_all is_ascii_digit bytes ≡ true → list_all stands_in_number bytes ≡ true
widened [] h = refl
widened (b ∷ bytes) h = let more = widened bytes (grind (arith, nat_tests)) in grind (arith, nat_tests, more)

pub stands-num_text : (n : ℤ) → FitsSigned w64 n → list_all stands_in_number (num_text n) ≡ true
stands-num_text (pos n) fits = widened (nat_text n) (digits-nat_text n (omega (arith, fits.sfits)))
stands-num_text (negsuc n) fits = widened (nat_text (suc n)) (digits-nat_text (suc n) (omega (arith, fits.sfits)))

pub num_text_injective : (m n : ℤ) → FitsSigned w64 m → FitsSigned w64 n → num_text m ≡ num_text n → m ≡ n
num_text_injective (pos m) (pos n) small same e = ap pos (nat_text_injective m n (omega (arith, small.sfits)) (omega (arith, same.sfits)) e)
num_text_injective (pos m) (negsuc n) small same e = absurd (no_minus m (nat_text (suc n)) (omega (arith, small.sfits)) e)
num_text_injective (negsuc m) (pos n) small same e = absurd (no_minus n (nat_text (suc m)) (omega (arith, same.sfits)) (sym e))
num_text_injective (negsuc m) (negsuc n) small same e = signed_decimal_injective (negsuc m) (negsuc n) (omega (arith, small.sfits)) (omega (arith, same.sfits)) e
