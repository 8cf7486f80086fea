-- Where the reader finds no escape, none goes on so.
use Rattle.std.proofs.Common.{◌≡◌, ◌≢◌, ℕ, Option, Some, None, List, [], ◌∷◌, refl, ◌∙◌, ap, arith}
use Rattle.std.proofs.lemmas.Bool.Decides.{nat_tests}
use Rattle.ff_text.specs.declared.bytes.Slashed.TheVariants as slashed
use Rattle.ff_text.specs.Classes.{slashed_of, high_digit, low_digit}
use Rattle.ff_text.specs.Notation.{hex_digit, Escape, mark, backslash, newline, tab, hex}
use Rattle.ff_text.proofs.ClassLemmas.{high_digit-digit, low_digit-digit}
use Rattle.ff_text.proofs.Escapes.{IsWrongNext}

no_mark : (b : ℕ) → slashed_of b ≡ slashed.Wrong → b ≢ 34
unfolding slashed_of
no_mark b e = grind (arith, nat_tests)

no_backslash : (b : ℕ) → slashed_of b ≡ slashed.Wrong → b ≢ 92
unfolding slashed_of
no_backslash b e = grind (arith, nat_tests)

no_newline : (b : ℕ) → slashed_of b ≡ slashed.Wrong → b ≢ 110
unfolding slashed_of
no_newline b e = grind (arith, nat_tests)

no_tab : (b : ℕ) → slashed_of b ≡ slashed.Wrong → b ≢ 116
unfolding slashed_of
no_tab b e = grind (arith, nat_tests)

no_x : (b : ℕ) → slashed_of b ≡ slashed.Wrong → b ≢ 120
unfolding slashed_of
no_x b e = grind (arith, nat_tests)

head_of : (a b : ℕ) (xs ys : List ℕ) → a ∷ xs ≡ b ∷ ys → b ≡ a
head_of a b xs ys e = cc

no_head : (escape : List ℕ) (value : ℕ) → Escape escape value → (b : ℕ) (rest : List ℕ) → slashed_of b ≡ slashed.Wrong → escape ≡ b ∷ rest → ⊥
no_head escape value mark b rest e same = no_mark b e (head_of 34 b [] rest same)
no_head escape value backslash b rest e same = no_backslash b e (head_of 92 b [] rest same)
no_head escape value newline b rest e same = no_newline b e (head_of 110 b [] rest same)
no_head escape value tab b rest e same = no_tab b e (head_of 116 b [] rest same)
no_head escape value (hex high low h l) b rest e same = no_x b e (head_of 120 b (hex_digit high ∷ hex_digit low ∷ []) rest same)

pub wrong_slashed : (b : ℕ) → slashed_of b ≡ slashed.Wrong → IsWrongNext [] b
wrong_slashed b e rest value escape = no_head (b ∷ rest) value escape b rest e refl

short_differs : (a b c : ℕ) (rest : List ℕ) → a ∷ [] ≡ b ∷ c ∷ rest → ⊥
short_differs a b c rest e = cc

second_of : (a b c d : ℕ) (xs ys : List ℕ) → a ∷ b ∷ xs ≡ c ∷ d ∷ ys → d ≡ b
second_of a b c d xs ys e = cc

third_of : (a b c d e f : ℕ) (xs ys : List ℕ) → a ∷ b ∷ c ∷ xs ≡ d ∷ e ∷ f ∷ ys → f ≡ c
third_of a b c d e f xs ys same = cc

no_option : (high : ℕ) (d : Option ℕ) → d ≡ None → d ≡ Some high → ⊥
no_option high d e k = cc

no_second : (escape : List ℕ) (value : ℕ) → Escape escape value → (b : ℕ) (rest : List ℕ) → high_digit b ≡ None → escape ≡ 120 ∷ b ∷ rest → ⊥
no_second escape value mark b rest e same = short_differs 34 120 b rest same
no_second escape value backslash b rest e same = short_differs 92 120 b rest same
no_second escape value newline b rest e same = short_differs 110 120 b rest same
no_second escape value tab b rest e same = short_differs 116 120 b rest same
no_second escape value (hex high low h l) b rest e same =
    no_option high (high_digit b) e (ap high_digit (second_of 120 (hex_digit high) 120 b (hex_digit low ∷ []) rest same) ∙ high_digit-digit high h)

pub wrong_high : (b : ℕ) → high_digit b ≡ None → IsWrongNext (120 ∷ []) b
wrong_high b e rest value escape = no_second (120 ∷ b ∷ rest) value escape b rest e refl

no_third : (escape : List ℕ) (value : ℕ) → Escape escape value → (digit b : ℕ) (rest : List ℕ) → low_digit b ≡ None → escape ≡ 120 ∷ digit ∷ b ∷ rest → ⊥
no_third escape value mark digit b rest e same = short_differs 34 120 digit (b ∷ rest) same
no_third escape value backslash digit b rest e same = short_differs 92 120 digit (b ∷ rest) same
no_third escape value newline digit b rest e same = short_differs 110 120 digit (b ∷ rest) same
no_third escape value tab digit b rest e same = short_differs 116 120 digit (b ∷ rest) same
no_third escape value (hex high low h l) digit b rest e same =
    no_option low (low_digit b) e (ap low_digit (third_of 120 (hex_digit high) (hex_digit low) 120 digit b [] rest same) ∙ low_digit-digit low l)

pub wrong_low : (high b : ℕ) → low_digit b ≡ None → IsWrongNext (120 ∷ hex_digit high ∷ []) b
wrong_low high b e rest value escape = no_third (120 ∷ hex_digit high ∷ b ∷ rest) value escape (hex_digit high) b rest e refl
