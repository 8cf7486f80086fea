-- What is put is a whole text.
use Rattle.std.proofs.Common.{◌≡◌, ◌<◌, ◌≤◌, ◌+◌, ℕ, Bool, true, List, length, take, drop, get_or, sym, subst, inl, inr, arith, nat_lt}
use Rattle.std.specs.Str.{IsUtf8}
use Rattle.std.specs.List.{list_all}
use Rattle.std.proofs.lemmas.Bool.{cases_lt}
use Rattle.std.proofs.lemmas.Bool.Decides.{nat_tests}
use Rattle.std.proofs.lemmas.List.{take_all}
use Rattle.std.proofs.lemmas.Str.{IsUtf8-take, IsUtf8-drop, IsCharBoundary-before_ascii, IsCharBoundary-after_ascii}
use Rattle.ff_name.proofs.Ascii.{IsUtf8-from_test}

abbrev is_low : ℕ → Bool
is_low b = nat_lt b 128

low : (b : ℕ) → is_low b ≡ true → b < 128
low b h = grind (arith, nat_tests)

-- bytes of ASCII
pub ascii : (bytes : List ℕ) → list_all (λ b. nat_lt b 128) bytes ≡ true → IsUtf8 bytes
ascii bytes h = IsUtf8-from_test is_low low bytes h

-- a text is cut whole before a byte of ASCII, and after it
pub front_whole : (text : List ℕ) (n : ℕ) → IsUtf8 text → n ≤ length text → (n < length text → get_or text n 0 < 128) → IsUtf8 (take n text)
front_whole text n whole bound next = elim (cases_lt n (length text)) [
  | inl inside ↦ IsUtf8-take text n whole (IsCharBoundary-before_ascii text n inside (next inside))
  | inr past ↦ subst IsUtf8 (sym (take_all n text past)) whole
]

pub rest_whole : (text : List ℕ) (n : ℕ) → IsUtf8 text → n < length text → get_or text n 0 < 128 → IsUtf8 (drop (n + 1) text)
rest_whole text n whole inside next = IsUtf8-drop text (n + 1) whole (IsCharBoundary-after_ascii text n whole inside next)

pub left_whole : (after left : List ℕ) (n : ℕ) → after ≡ drop n left → IsUtf8 (drop n left) → IsUtf8 after
left_whole after left n is whole = subst IsUtf8 (sym is) whole
