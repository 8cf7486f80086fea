-- The text of a whole number: a minus stands first exactly where it is negative.
use Rattle.std.proofs.Common.{◌≡◌, ◌≢◌, ◌<◌, ◌^◌, ◌↔◌, ℕ, ℤ, pos, negsuc, suc, ◌<ℤ◌, unsigned_abs, true, List, ◌∷◌, drop, arith, sym, ap, ◌∙◌, Option, Some, FitsSigned}
use Rattle.std.specs.Int.{w64}
use Rattle.std.proofs.lemmas.Int.{ints}
use Rattle.std.specs.List.{list_all}
use Rattle.std.specs.Char.{is_ascii_digit}
use Rattle.std.proofs.lemmas.Bool.Decides.{nat_tests}
use Rattle.ff_number.specs.Decimal.{nat_text, num_text}
use Rattle.ff_number.proofs.Canonical.{CanonicalParts-nat_text}

pub no_minus : (n : ℕ) (rest : List ℕ) → n < 2 ^ 64 → nat_text n ≢ 45 ∷ rest
no_minus n rest small e =
    let d : list_all is_ascii_digit (45 ∷ rest) ≡ true = ap (list_all is_ascii_digit) (sym e) ∙ (CanonicalParts-nat_text n small).digits in
    grind (arith, nat_tests)

-- what reads the digits after a minus reads the negative number
pub after_minus : (bytes digits : List ℕ) (r : Option ℤ) → bytes ≡ 45 ∷ digits
    → ((n : ℕ) → n < 2 ^ 63 → (r ≡ Some (negsuc n)) ↔ (digits ≡ nat_text (suc n)))
    → ((n : ℕ) → r ≢ Some (pos n))
    → (n : ℤ) → FitsSigned w64 n → (r ≡ Some n) ↔ (bytes ≡ num_text n)
after_minus bytes digits r e spelled negative (pos n) fits = (
  (λ s. absurd (negative n s)),
  (λ t. absurd (no_minus n digits (omega (arith, fits.sfits)) (sym t ∙ e))),
)
after_minus bytes digits r e spelled negative (negsuc n) fits = (
  (λ s. e ∙ ap (λ d. 45 ∷ d) ((spelled n (omega (arith, fits.sfits))).0 s)),
  (λ t. (spelled n (omega (arith, fits.sfits))).1 (ap (drop 1) (sym e ∙ t))),
)

-- the text of a negative number is that of its size, after a minus
pub num_text-after_minus : (n : ℤ) (size : ℕ) → size ≡ unsigned_abs n → n <ℤ pos 0 → num_text n ≡ 45 ∷ nat_text size
num_text-after_minus (pos n) size e sign = absurd (omega (arith, ints))
num_text-after_minus (negsuc n) size e sign = ap (λ (m : ℕ). 45 ∷ nat_text m) (sym e)
