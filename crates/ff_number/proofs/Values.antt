-- The number that bytes spell is the one whose text they are.
use Rattle.std.proofs.Common.{◌≡◌, ◌↔◌, ◌==◌, ◌&&◌, ℕ, ℤ, pos, neg_ℤ, negsuc, suc, Bool, true, false, List, [], ◌∷◌, arith, refl, sym, ap, ◌∙◌, Option, Some, None, IfSome, FitsSigned, bytes_eq, cond}
use Rattle.std.specs.Int.{w64}
use Rattle.std.specs.List.{list_all}
use Rattle.std.specs.Char.{is_ascii_digit}
use Rattle.std.specs.Str.Parse.{digits_value, signed_digits_value}
use Rattle.std.proofs.lemmas.Bool.Decides.{nat_tests}
use Rattle.std.proofs.lemmas.Fmt.{digits_value-decimal}
use Rattle.std.proofs.lemmas.Slice.Eq.{bytes_eq-Decides}
use Rattle.ff_number.specs.Decimal.{nat_text, num_text}
use Rattle.ff_number.specs.Numbers.{fits, read_num}
use Rattle.ff_number.proofs.Canonical.{own, CanonicalParts-nat_text}

value_of_digits : (ds : List ℕ) → list_all is_ascii_digit ds ≡ true → signed_digits_value 10 ds ≡ pos (digits_value 10 ds)
value_of_digits [] digits = refl
value_of_digits (b ∷ ds) digits =
    let no_minus : (b == 45) ≡ false = grind (arith, nat_tests) in
    let no_plus : (b == 43) ≡ false = grind (arith, nat_tests) in
    rw no_minus (rw no_plus refl)

-- the number that a text of a number writes is that number
pub signed_digits_value-num_text : (n : ℤ) → FitsSigned w64 n → signed_digits_value 10 (num_text n) ≡ n
signed_digits_value-num_text (pos n) small =
    value_of_digits (nat_text n) (CanonicalParts-nat_text n (omega (arith, small.sfits))).digits ∙ ap pos (digits_value-decimal own n (omega (arith, small.sfits)))
signed_digits_value-num_text (negsuc n) small = ap (λ (m : ℕ). neg_ℤ (pos m)) (digits_value-decimal own (suc n) (omega (arith, small.sfits)))

-- the test and the fact that 64 bits hold a number
pub fits-from_FitsSigned : (n : ℤ) → FitsSigned w64 n → fits n ≡ true
fits-from_FitsSigned (pos n) small = grind (arith, nat_tests, small.sfits)
fits-from_FitsSigned (negsuc n) small = grind (arith, nat_tests, small.sfits)

pub FitsSigned-from_fits : (n : ℤ) → fits n ≡ true → FitsSigned w64 n
FitsSigned-from_fits (pos n) test = record { sfits = grind (arith, nat_tests) }
FitsSigned-from_fits (negsuc n) test = record { sfits = grind (arith, nat_tests) }

both : (a b : Bool) → a && b ≡ true → (a ≡ true) × (b ≡ true)
both true true e = (refl, refl)
both true false e = cc
both false b e = cc

none_where : (t : Bool) (n : ℤ) → (t ≡ true → ⊥) → None ≡ cond t (Some n) None
none_where true n refused = absurd (refused refl)
none_where false n refused = refl

-- what answers the number whose text the bytes are, and no other, answers as the definition does
pub read_num_is : (bytes : List ℕ) (r : Option ℤ) → ((n : ℤ) → FitsSigned w64 n → (r ≡ Some n) ↔ (bytes ≡ num_text n))
    → IfSome r (λ n. FitsSigned w64 n) → r ≡ read_num bytes
unfolding read_num
read_num_is bytes None spelled within =
    let n = signed_digits_value 10 bytes in
    none_where (bytes_eq (num_text n) bytes && fits n) n (λ (t : bytes_eq (num_text n) bytes && fits n ≡ true).
    let parts : (bytes_eq (num_text n) bytes ≡ true) × (fits n ≡ true) = both _ _ t in
    let same : num_text n ≡ bytes = (bytes_eq-Decides (num_text n) bytes).0 parts.0 in
    let wrong : None ≡ Some n = (spelled n (FitsSigned-from_fits n parts.1)).1 (sym same) in
    cc)
read_num_is bytes (Some n) spelled small =
    let same : bytes ≡ num_text n = (spelled n small).0 refl in
    let value : signed_digits_value 10 bytes ≡ n = ap (signed_digits_value 10) same ∙ signed_digits_value-num_text n small in
    let equal : bytes_eq (num_text n) bytes ≡ true = (bytes_eq-Decides (num_text n) bytes).1 (sym same) in
    rw value (rw equal (rw (fits-from_FitsSigned n small) refl))
