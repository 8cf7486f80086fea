-- Which words are read as numbers.
use Rattle.std.proofs.Common.{◌≡◌, ◌&&◌, ℕ, ℤ, Bool, true, false, List, Option, Some, None, ok_or, Ok, FitsSigned, cond, refl, sym, ap, subst, ◌∙◌}
use Rattle.std.specs.Int.{w64}
use Rattle.std.specs.Str.{bytes_eq}
use Rattle.std.specs.Str.Parse.{signed_digits_value}
use Rattle.std.proofs.lemmas.Bool.{and_parts, and_from}
use Rattle.std.proofs.lemmas.Slice.Eq.{bytes_eq-Decides}
use Rattle.ff_number.specs.Decimal.{num_text}
use Rattle.ff_number.specs.Numbers.{fits, read_num}
use Rattle.ff_number.proofs.Values.{signed_digits_value-num_text, fits-from_FitsSigned, FitsSigned-from_fits}
use Rattle.ff_tree.specs.declared.tree.Expr.TheVariants as expr
use Rattle.ff_tree.specs.declared.tree.Lit.TheVariants as lit
use Rattle.ff_forms.specs.Grammar.{and_then, number_as}
use Rattle.ff_forms.specs.declared.fault.SyntaxFault.TheVariants as fault

-- the number whose text it is, is found
pub number_found : (n : ℤ) → FitsSigned w64 n → read_num (num_text n) ≡ Some n
unfolding read_num
number_found n h =
    let same = signed_digits_value-num_text n h in
    let test : bytes_eq (num_text n) (num_text n) && fits n ≡ true = and_from _ _ ((bytes_eq-Decides (num_text n) (num_text n)).1 refl) (fits-from_FitsSigned n h) in
    ap (λ m. cond (bytes_eq (num_text m) (num_text n) && fits m) (Some m) None) same ∙ ap (λ t. cond t (Some n) None) test

pub number_spelled : (word : List ℕ) (n : ℤ) → read_num word ≡ Some n → FitsSigned w64 n × (word ≡ num_text n)
unfolding read_num
number_spelled word n e = by_test (bytes_eq (num_text (signed_digits_value 10 word)) word && fits (signed_digits_value 10 word)) refl e where
  by_test : (t : Bool) → bytes_eq (num_text (signed_digits_value 10 word)) word && fits (signed_digits_value 10 word) ≡ t → cond t (Some (signed_digits_value 10 word)) None ≡ Some n → FitsSigned w64 n × (word ≡ num_text n)
  by_test true t f =
      let is : signed_digits_value 10 word ≡ n = cc in
      let tests = and_parts (bytes_eq (num_text (signed_digits_value 10 word)) word) (fits (signed_digits_value 10 word)) t in
      subst (λ m. FitsSigned w64 m × (word ≡ num_text m)) is
      (FitsSigned-from_fits (signed_digits_value 10 word) tests.1, sym ((bytes_eq-Decides (num_text (signed_digits_value 10 word)) word).0 tests.0))
  by_test false t f = cc

-- what a word answers as a number
pub number_answers : (at : ℕ) (word : List ℕ) (answer : Option ℤ) → read_num word ≡ answer → number_as at word ≡ and_then (ok_or answer (fault.Number at)) (λ n. Ok (expr.Lit (lit.Num n)))
number_answers at word answer e = ap (λ (o : Option ℤ). and_then (ok_or o (fault.Number at)) (λ n. Ok (expr.Lit (lit.Num n)))) e
