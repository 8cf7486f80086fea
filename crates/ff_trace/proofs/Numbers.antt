-- Which words are numbers below 2 ^ 32.
use Rattle.std.proofs.Common.{◌≡◌, ◌<◌, ◌^◌, ◌↔◌, ℕ, Bool, true, false, ◌&&◌, nat_lt, List, Option, Some, None, cond, refl, sym, ap, ◌∙◌, subst, arith}
use Rattle.std.specs.Str.{bytes_eq}
use Rattle.std.specs.Str.Parse.{digits_value}
use Rattle.std.proofs.lemmas.Bool.{and_parts}
use Rattle.std.proofs.lemmas.Bool.Decides.{nat_tests}
use Rattle.std.proofs.lemmas.Fmt.{decimal_is_IsNumeral}
use Rattle.std.proofs.lemmas.Slice.Eq.{bytes_eq-Decides}
use Rattle.ff_number.specs.Decimal.{nat_text}
use Rattle.ff_trace.specs.Parts.{number_of}

-- what reading bytes as a number below 2 ^ 64 answers
pub record IsNatOf (text : List ℕ) (answer : Option ℕ) : Type 0 where
  pub spelled : (n : ℕ) → n < 2 ^ 64 → (answer ≡ Some n) ↔ (text ≡ nat_text n)

abbrev is_number : List ℕ → Bool
is_number text = nat_lt (digits_value 10 text) 4294967296 && bytes_eq (nat_text (digits_value 10 text)) text

below_test : (n : ℕ) → n < 2 ^ 32 → nat_lt n 4294967296 ≡ true
below_test n small = grind (arith, nat_tests)

small_from : (n : ℕ) → nat_lt n 4294967296 ≡ true → n < 2 ^ 32
small_from n test = grind (arith, nat_tests)

value_of : (n : ℕ) (text : List ℕ) → n < 2 ^ 64 → text ≡ nat_text n → digits_value 10 text ≡ n
value_of n text small e = ap (digits_value 10) e ∙ (decimal_is_IsNumeral n small).1

pub number_spelled : (n : ℕ) (text : List ℕ) → n < 2 ^ 32 → text ≡ nat_text n → number_of text ≡ Some n
number_spelled n text small e =
    let value : digits_value 10 text ≡ n = value_of n text (omega (arith, small)) e in
    let same : bytes_eq (nat_text n) text ≡ true = (bytes_eq-Decides (nat_text n) text).1 (sym e) in
    let low : nat_lt n 4294967296 ≡ true = below_test n small in
    rw value (rw (low, same) refl)

pub number_of_small : (text : List ℕ) (answer : Option ℕ) (n : ℕ) → IsNatOf text answer → answer ≡ Some n → n < 2 ^ 32 → number_of text ≡ Some n
number_of_small text answer n is e small = number_spelled n text small ((is.spelled n (omega (arith, small))).0 e)

number_back : (text : List ℕ) (n : ℕ) → number_of text ≡ Some n → (n < 2 ^ 32) × (text ≡ nat_text n)
number_back text n e = go (is_number text) refl e where
  go : (t : Bool) → is_number text ≡ t → cond t (Some (digits_value 10 text)) None ≡ Some n → (n < 2 ^ 32) × (text ≡ nat_text n)
  go true is f =
      let parts = and_parts (nat_lt (digits_value 10 text) 4294967296) (bytes_eq (nat_text (digits_value 10 text)) text) is in
      let same : digits_value 10 text ≡ n = cc in (
        subst (λ m. m < 2 ^ 32) same (small_from (digits_value 10 text) parts.0),
        sym ((bytes_eq-Decides (nat_text (digits_value 10 text)) text).0 parts.1) ∙ ap nat_text same,
      )
  go false is f = cc

-- bytes are a number exactly where they are its canonical spelling
pub number_exactly : (text : List ℕ) (n : ℕ) → (number_of text ≡ Some n) ↔ ((n < 2 ^ 32) × (text ≡ nat_text n))
number_exactly text n = (number_back text n, λ h. number_spelled n text h.0 h.1)
