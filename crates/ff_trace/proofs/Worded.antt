-- The items of a line are well spelled.
use Rattle.std.proofs.Common.{◌≡◌, ◌≢◌, ◌<◌, ◌^◌, ℕ, Bool, true, ◌&&◌, List, [], ◌∷◌, map, refl, sym, ap, ◌∙◌, subst, arith}
use Rattle.std.specs.List.{list_all, join_with_byte}
use Rattle.std.specs.Char.{is_ascii_digit, is_ascii_alphabetic}
use Rattle.std.specs.Str.{IsUtf8}
use Rattle.std.proofs.lemmas.Bool.{and_parts, and_from}
use Rattle.std.proofs.lemmas.Bool.Decides.{nat_tests}
use Rattle.std.proofs.lemmas.List.Folds.{list_all-append}
use Rattle.std.proofs.lemmas.Str.{is_utf8-from_IsUtf8}
use Rattle.ff_lattice.specs.Order.{Order, size, name, is_level_name, IsOrder}
use Rattle.ff_name.specs.Spelling.{IsDomain, is_label, stands_in_label, stands_in_name}
use Rattle.ff_name.proofs.Ascii.{label_bytes, list_all-wider}
use Rattle.ff_number.specs.Decimal.{nat_text}
use Rattle.ff_number.proofs.Texts.{digits-nat_text, BeginsWithDigit-nat_text}
use Rattle.ff_text.specs.Bytes.{is_word_byte}
use Rattle.ff_text.specs.Notation.{span}
use Rattle.ff_text.specs.Printed.{fits_at, is_word, AreWellSpelled, IsWellSpelled}
use Rattle.ff_text.specs.declared.items.Sexp.{Sexp}
use Rattle.ff_text.proofs.Layers.{fits_at-Word, fits_at-Str}
use Rattle.ff_forms.specs.Canonical as canonical

word_from : (text : List ℕ) → list_all is_word_byte text ≡ true → text ≢ [] → is_word text ≡ true
word_from [] all some = absurd (some refl)
word_from (b ∷ text) all some = all

digit_byte : (b : ℕ) → is_ascii_digit b ≡ true → is_word_byte b ≡ true
digit_byte b h = grind (arith, nat_tests)

label_byte : (b : ℕ) → stands_in_label b ≡ true → is_word_byte b ≡ true
label_byte b h = grind (arith, nat_tests)

name_byte : (b : ℕ) → stands_in_name b ≡ true → is_word_byte b ≡ true
name_byte b h = grind (arith, nat_tests)

letter_byte : (b : ℕ) → is_ascii_alphabetic b ≡ true → is_word_byte b ≡ true
letter_byte b h = grind (arith, nat_tests)

-- a number is a word
pub number_word : (n : ℕ) → n < 2 ^ 32 → is_word (nat_text n) ≡ true
number_word n small =
    let wide : n < 2 ^ 64 = omega (arith, small) in
    let begun = BeginsWithDigit-nat_text n wide in
    word_from (nat_text n) (list_all-wider is_ascii_digit is_word_byte digit_byte (nat_text n) (digits-nat_text n wide)) (λ e. let none : [] ≡ begun.first ∷ begun.rest = sym e ∙ begun.parts in cc)

labels_bytes : (labels : List (List ℕ)) → list_all is_label labels ≡ true → list_all is_word_byte (join_with_byte 46 labels) ≡ true
labels_bytes [] h = refl
labels_bytes (label ∷ []) h = list_all-wider stands_in_label is_word_byte label_byte label (label_bytes label (and_parts _ _ h).0)
labels_bytes (label ∷ next ∷ rest) h =
    let parts = and_parts (is_label label) (list_all is_label (next ∷ rest)) h in
    list_all-append is_word_byte label (46 ∷ join_with_byte 46 (next ∷ rest))
    ∙ and_from _ _ (list_all-wider stands_in_label is_word_byte label_byte label (label_bytes label parts.0)) (labels_bytes (next ∷ rest) parts.1)

domain_bytes : (domain : List ℕ) → IsDomain domain → list_all is_word_byte domain ≡ true
domain_bytes domain h = subst (λ bs. list_all is_word_byte bs ≡ true) (sym h.joined) (labels_bytes h.labels h.each)

no_label : is_label [] ≡ true → ⊥
no_label e = cc

joined_some : (labels : List (List ℕ)) → labels ≢ [] → list_all is_label labels ≡ true → join_with_byte 46 labels ≢ []
joined_some [] some each e = some refl
joined_some ([] ∷ rest) some each e = no_label (and_parts (is_label []) (list_all is_label rest) each).0
joined_some ((b ∷ label) ∷ []) some each e = cc
joined_some ((b ∷ label) ∷ next ∷ rest) some each e = cc

-- a domain is a word
pub domain_word : (domain : List ℕ) → IsDomain domain → is_word domain ≡ true
domain_word domain h = word_from domain (domain_bytes domain h) (λ e. joined_some h.labels h.some h.each (sym h.joined ∙ e))

level_bytes : (text : List ℕ) → is_level_name text ≡ true → list_all is_word_byte text ≡ true
level_bytes [] h = refl
level_bytes (b ∷ text) h =
    let parts = and_parts (is_ascii_alphabetic b && list_all stands_in_name text) _ h in
    let first = and_parts (is_ascii_alphabetic b) (list_all stands_in_name text) parts.0 in
    and_from _ _ (letter_byte b first.0) (list_all-wider stands_in_name is_word_byte name_byte text first.1)

-- a tag is a word
pub tag_is_word : (order : Order) → IsOrder order → (l : ℕ) → l < size order → is_word (64 ∷ name order l) ≡ true
tag_is_word order valid l inside = level_bytes (name order l) (valid.named l inside)

-- ---- items

pub fits_word : (text : List ℕ) → is_word text ≡ true → IsWellSpelled (canonical.word text)
fits_word text e = ap (λ (f : ℕ → Bool). f 0) (fits_at-Word (span 0 0) text) ∙ e

pub fits_string : (value : List ℕ) → IsUtf8 value → IsWellSpelled (canonical.string value)
fits_string value utf8 = ap (λ (f : ℕ → Bool). f 0) (fits_at-Str (span 0 0) value) ∙ is_utf8-from_IsUtf8 value utf8

pub fits_more : (item : Sexp) (items : List Sexp) → IsWellSpelled item → AreWellSpelled items → AreWellSpelled (item ∷ items)
fits_more item items one all = and_from _ _ one all

pub fits_none : AreWellSpelled []
fits_none = refl

pub rest_fits : (items : List Sexp) (first : Sexp) (rest : List Sexp) → items ≡ first ∷ rest → AreWellSpelled items → AreWellSpelled rest
rest_fits items first rest e well =
    (and_parts (fits_at first 0) (list_all (λ (part : ℕ → Bool). part 0) (map fits_at rest)) (subst AreWellSpelled e well)).1
