-- Texts that the machine makes are UTF-8, and its numbers have 64 bits.
use Rattle.std.proofs.Common.{◌≡◌, ℕ, zero, suc, slice_get, ℤ, pos, negsuc, ◌<◌, Bool, true, false, cond, Some, None, List, [], ◌∷◌, ◌++◌, nat_lt, nat_abs, arith, refl, subst, ap, ◌∙◌, FitsSigned}
use Rattle.std.specs.Prelude.{codes}
use Rattle.std.specs.Int.{w64}
use Rattle.std.specs.List.{list_all}
use Rattle.std.specs.Str.{IsUtf8}
use lib.Utf8.{scalar, scalars, encode, encodes, scalar_cases}
use Rattle.std.proofs.lemmas.Bool.{and_parts, and_from}
use Rattle.std.proofs.lemmas.Bool.Decides.{nat_tests}
use Rattle.std.proofs.lemmas.Fmt.{IsAscii-signed}
use Rattle.std.proofs.lemmas.List.Folds.{list_all-append}
use Rattle.std.proofs.lemmas.Str.{IsUtf8-from_ascii, IsUtf8-append, IsUtf8-between}
use Rattle.ff_name.specs.Address.{IsWellSpelled, blank, scheme, printed}
use Rattle.ff_name.specs.declared.urls.Url.{Url}
use Rattle.ff_name.specs.declared.urls.Url.TheVariants as url
use Rattle.ff_name.proofs.Ascii.{IsUtf8-from_test, IsUtf8-from_domain, IsUtf8-from_request}
use Rattle.ff_number.specs.Decimal.{num_text}
use Rattle.ff_number.specs.Numbers.{fits, read_num}
use Rattle.ff_operators.specs.Pure.{part_of}
use Rattle.ff_operators.proofs.Places.{boundary}
use Rattle.ff_machine.specs.declared.kinds.Kind.{Kind}
use Rattle.ff_machine.specs.declared.kinds.Kind.TheVariants as kind
use Rattle.ff_machine.specs.Kinds.{kind_word}

low : (b : ℕ) → nat_lt b 128 ≡ true → b < 128
low b h = grind (arith, nat_tests)

-- bytes of ASCII are UTF-8
ascii : (bytes : List ℕ) → list_all (λ b. nat_lt b 128) bytes ≡ true → IsUtf8 bytes
ascii bytes h = IsUtf8-from_test (λ b. nat_lt b 128) low bytes h

-- the word of a kind
pub IsUtf8-kind_word : (k : Kind) → IsUtf8 (kind_word k)
IsUtf8-kind_word kind.Page = ascii (codes "page") refl
IsUtf8-kind_word kind.Text = ascii (codes "text") refl
IsUtf8-kind_word kind.Link = ascii (codes "link") refl
IsUtf8-kind_word kind.TextBox = ascii (codes "box") refl
IsUtf8-kind_word kind.Button = ascii (codes "button") refl
IsUtf8-kind_word kind.Script = ascii (codes "script") refl
IsUtf8-kind_word kind.Src = ascii (codes "src") refl
IsUtf8-kind_word kind.Div = ascii (codes "div") refl

-- a printed address
pub IsUtf8-printed : (u : Url) → IsWellSpelled u → IsUtf8 (printed u)
IsUtf8-printed url.Blank well = ascii blank refl
IsUtf8-printed (url.At domain request) well =
    IsUtf8-append scheme (domain ++ request) (ascii scheme refl)
    (IsUtf8-append domain request (IsUtf8-from_domain domain well.0) (IsUtf8-from_request request well.1.made_of))

-- a number that is tested for 64 bits has them
pub fits_signed : (n : ℤ) → fits n ≡ true → FitsSigned w64 n
fits_signed (pos n) h = record { sfits = grind (arith, nat_tests) }
fits_signed (negsuc n) h = record { sfits = grind (arith, nat_tests) }

-- a printed number
pub IsUtf8-num_text : (n : ℤ) → FitsSigned w64 n → IsUtf8 (num_text n)
IsUtf8-num_text n small = IsUtf8-from_ascii (num_text n) (IsAscii-signed n small.sfits)

-- what a test lets through passed it
passed : {X : Type 0} (test : Bool) (x y : X) → cond test (Some x) None ≡ Some y → (test ≡ true) × (x ≡ y)
passed true x y h = (refl, let e : x ≡ y = cc in e)
passed false x y h = cc

-- a number that was read
pub read_num_fits : (bytes : List ℕ) (n : ℤ) → read_num bytes ≡ Some n → FitsSigned w64 n
unfolding read_num
read_num_fits bytes n h = let p = passed _ _ n h in subst (FitsSigned w64) p.1 (fits_signed _ (and_parts _ _ p.0).1)

-- a part between two places of a text
pub IsUtf8-part_of : (text part : List ℕ) (from to : ℤ) → IsUtf8 text → part_of text from to ≡ Some part → IsUtf8 part
IsUtf8-part_of text part from to u h =
    let p = passed _ _ part h in
    let both = and_parts _ _ p.0 in
    let places = and_parts _ _ both.0 in
    subst IsUtf8 p.1 (IsUtf8-between text (nat_abs from) (nat_abs to) u (grind (arith, nat_tests, both.1)) (boundary text from (nat_abs from) places.0 refl) (boundary text to (nat_abs to) places.1 refl))

-- Bytes.

abbrev is_byte : ℕ → Bool
is_byte b = nat_lt b 256

encode_bytes : (c : ℕ) → scalar c ≡ true → list_all is_byte (encode c) ≡ true
unfolding encode
encode_bytes c h = grind (arith, nat_tests, scalar_cases c h)

encodes_bytes : (cs : List ℕ) → scalars cs ≡ true → list_all is_byte (encodes cs) ≡ true
encodes_bytes [] h = refl
encodes_bytes (c ∷ cs) h =
    let parts = and_parts (scalar c) (scalars cs) h in
    list_all-append is_byte (encode c) (encodes cs) ∙ and_from _ _ (encode_bytes c parts.0) (encodes_bytes cs parts.1)

nth_passes : (test : ℕ → Bool) (bytes : List ℕ) (i b : ℕ) → list_all test bytes ≡ true → slice_get bytes i ≡ Some b → test b ≡ true
nth_passes test [] i b h e = cc
nth_passes test (c ∷ bytes) zero b h e = let is : c ≡ b = cc in subst (λ x. test x ≡ true) is (and_parts _ _ h).0
nth_passes test (c ∷ bytes) (suc i) b h e = nth_passes test bytes i b (and_parts (test c) (list_all test bytes) h).1 e

-- each number of a text is a byte
pub byte_of_text : (text : List ℕ) (i b : ℕ) → IsUtf8 text → slice_get text i ≡ Some b → b < 256
byte_of_text text i b u e = let p = nth_passes is_byte (encodes u.0) i b (encodes_bytes u.0 u.1.0) (ap (λ bytes. slice_get bytes i) u.1.1 ∙ e) in grind (arith, nat_tests, p)
