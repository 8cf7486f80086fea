-- What is written in digits is the text of its value exactly where it is canonical.
use Rattle.std.proofs.Common.{◌≡◌, ◌≢◌, ◌<◌, ◌≤◌, ◌^◌, ◌↔◌, ℕ, true, false, List, [], ◌∷◌, length, get_or, arith, refl, sym, ap, ◌∙◌, subst, rules, Some, None, Result, Ok, Err, suc, zero}
use Rattle.std.specs.Char.{is_ascii_digit}
use Rattle.std.specs.List.{list_all}
use Rattle.std.specs.Result.{result_ok, OkIff}
use Rattle.std.specs.Str.{IsUtf8}
use Rattle.std.specs.Str.Parse.{digits_value, ParsesUnsigned}
use Rattle.std.proofs.lemmas.Bool.Decides.{nat_tests}
use Rattle.std.proofs.lemmas.Fmt.{decimal-digits_value, digits_decimal, first_decimal, decimal_nonempty, decimal_digit, length-decimal-le, parse-decimal, IsAscii-decimal}
use Rattle.std.proofs.lemmas.Str.{IsUtf8-from_ascii}
use Rattle.std.proofs.lemmas.Str.Parse.{IsNumeralModel, numerals_by_value, parse_digits}
use Rattle.ff_number.specs.Decimal.{nat_text, is_canonical}

pub own : IsNumeralModel (λ ds. list_all is_ascii_digit ds ≡ true) (digits_value 10)
own = numerals_by_value _ (search rules)

-- canonical bytes are digits, at least one, with no zero in front of others
pub record CanonicalParts (bytes : List ℕ) : Type 0 where
  pub digits : list_all is_ascii_digit bytes ≡ true
  pub some : 0 < length bytes
  pub lead : get_or bytes 0 0 ≡ 48 → length bytes ≡ 1

pub CanonicalParts-from_test : (bytes : List ℕ) → is_canonical bytes ≡ true → CanonicalParts bytes
CanonicalParts-from_test [] h = cc
CanonicalParts-from_test (b ∷ []) h = record { digits = grind (arith, nat_tests); some = omega arith; lead = λ z. refl }
CanonicalParts-from_test (b ∷ c ∷ bytes) h = record { digits = grind (arith, nat_tests); some = omega arith; lead = λ z. grind (arith, nat_tests) }

pub test_from_CanonicalParts : (bytes : List ℕ) → CanonicalParts bytes → is_canonical bytes ≡ true
test_from_CanonicalParts [] h = absurd (omega (arith, h.some))
test_from_CanonicalParts (b ∷ bytes) h = grind (arith, nat_tests, h.digits, h.lead)

nat_text_lead : (n : ℕ) → n < 2 ^ 64 → get_or (nat_text n) 0 0 ≡ 48 → length (nat_text n) ≡ 1
nat_text_lead zero small z = ap length (decimal_digit 0 (omega arith))
nat_text_lead (suc n) small z = absurd (omega (arith, first_decimal (suc n) (omega arith) small))

pub CanonicalParts-nat_text : (n : ℕ) → n < 2 ^ 64 → CanonicalParts (nat_text n)
CanonicalParts-nat_text n small = record { digits = digits_decimal own n small; some = decimal_nonempty n small; lead = nat_text_lead n small }

pub is_canonical-nat_text : (n : ℕ) → n < 2 ^ 64 → is_canonical (nat_text n) ≡ true
is_canonical-nat_text n small = test_from_CanonicalParts (nat_text n) (CanonicalParts-nat_text n small)

pub nat_text-digits_value : (bytes : List ℕ) → is_canonical bytes ≡ true → digits_value 10 bytes < 2 ^ 64 → nat_text (digits_value 10 bytes) ≡ bytes
nat_text-digits_value bytes h small =
    let p = CanonicalParts-from_test bytes h in
    decimal-digits_value own bytes p.digits p.some p.lead small

-- what is not canonical is the text of no number
pub no_text : (bytes : List ℕ) → is_canonical bytes ≡ false → (n : ℕ) → n < 2 ^ 64 → bytes ≢ nat_text n
no_text bytes h n small e = let k : is_canonical bytes ≡ true = ap is_canonical e ∙ is_canonical-nat_text n small in cc

-- no more than twenty digits spell a number
pub too_long : (bytes : List ℕ) → 20 < length bytes → (n : ℕ) → n < 2 ^ 64 → bytes ≢ nat_text n
too_long bytes long n small e =
    let most : length (nat_text n) ≤ 20 = length-decimal-le 20 n (omega arith) (omega arith) small in
    let same = ap length e in
    omega (arith, long, most, same)

pub IsUtf8-nat_text : (n : ℕ) → n < 2 ^ 64 → IsUtf8 (nat_text n)
IsUtf8-nat_text n small = IsUtf8-from_ascii _ (IsAscii-decimal n small)

-- what `parse` gives for canonical bytes
pub parsed : {E : Type 0} (text bytes : List ℕ) (r : Result ℕ E) → text ≡ bytes → is_canonical bytes ≡ true → ParsesUnsigned 64 10 text r
    → (n : ℕ) → n < 2 ^ 64 → (result_ok r ≡ Some n) ↔ (bytes ≡ nat_text n)
parsed text bytes r same h p n small = (
  (λ e. value r (parse_digits own 64 bytes r (subst (λ t. ParsesUnsigned 64 10 t r) same p) (CanonicalParts-from_test bytes h).digits) e),
  (λ e. ap result_ok (parse-decimal 64 n text r small small (same ∙ e) p)),
)
  where
    value : {E : Type 0} (q : Result ℕ E) → OkIff q ((0 < length bytes) × (digits_value 10 bytes < 2 ^ 64)) (digits_value 10 bytes) → result_ok q ≡ Some n → bytes ≡ nat_text n
    value (Ok m) k e = sym (ap nat_text ((let w : n ≡ m = cc in w) ∙ k.1) ∙ nat_text-digits_value bytes h k.0.1)
    value (Err m) k e = cc

-- canonical bytes that are no text are none
pub no_utf8 : (bytes : List ℕ) → ¬ (IsUtf8 bytes) → (n : ℕ) → n < 2 ^ 64 → bytes ≢ nat_text n
no_utf8 bytes h n small e = h (subst IsUtf8 (sym e) (IsUtf8-nat_text n small))

-- what answers `None` where there is no such number meets the contract
pub none_where_no_text : (bytes : List ℕ) → ((n : ℕ) → n < 2 ^ 64 → bytes ≢ nat_text n) → (n : ℕ) → n < 2 ^ 64 → (None ≡ Some n) ↔ (bytes ≡ nat_text n)
none_where_no_text bytes h n small = ((λ e. cc), (λ e. absurd (h n small e)))
