-- Words are ASCII, and so UTF-8.
use Rattle.std.proofs.Common.{◌≡◌, ℕ, ◌<◌, Bool, true, false, List, arith, get_or, refl}
use Rattle.std.specs.List.{list_all}
use Rattle.std.specs.Str.{IsUtf8, is_utf8}
use Rattle.std.proofs.lemmas.Str.{IsUtf8-from_ascii, IsUtf8-from_is_utf8}
use Rattle.std.proofs.lemmas.Str.Ascii.{IsAscii-from_all}
use Rattle.std.proofs.lemmas.List.Sums.{AllPass-from_list_all}
use Rattle.std.proofs.lemmas.Bool.Decides.{nat_tests}
use Rattle.ff_text.specs.Bytes.{is_word_byte}

word_low : (b : ℕ) → is_word_byte b ≡ true → b < 128
word_low b h = grind (arith, nat_tests)

pub IsUtf8-word : (bytes : List ℕ) → list_all is_word_byte bytes ≡ true → IsUtf8 bytes
IsUtf8-word bytes h =
    IsUtf8-from_ascii bytes (IsAscii-from_all bytes (λ k d inside. word_low (get_or bytes k d) (AllPass-from_list_all is_word_byte bytes h k d inside)))

-- what a UTF-8 check says, as a test
pub is_utf8-not : (bytes : List ℕ) → ¬ IsUtf8 bytes → is_utf8 bytes ≡ false
is_utf8-not bytes bad = go (is_utf8 bytes) refl where
  go : (test : Bool) → is_utf8 bytes ≡ test → is_utf8 bytes ≡ false
  go true e = absurd (bad (IsUtf8-from_is_utf8 bytes e))
  go false e = e
