-- Names, addresses, numbers and the words of operators are words.
use Rattle.std.proofs.Common.{◌≡◌, ◌<◌, ℕ, ℤ, Bool, true, List, [], ◌∷◌, length, FitsSigned, refl, ap, ◌∙◌, arith}
use Rattle.std.specs.Int.{w64}
use Rattle.std.specs.List.{list_all, join_with_byte}
use Rattle.std.proofs.lemmas.Bool.{and_parts, and_from}
use Rattle.std.proofs.lemmas.Bool.Decides.{nat_tests}
use Rattle.std.proofs.lemmas.List.Folds.{list_all-append}
use Rattle.ff_number.specs.Decimal.{num_text}
use Rattle.ff_number.proofs.Texts.{stands_in_number, stands-num_text, some-num_text}
use Rattle.ff_name.specs.Spelling.{IsName, begins_name, stands_in_name, stands_in_label, is_label}
use Rattle.ff_name.specs.Address.{IsWellSpelled, printed, stands_in_request}
use Rattle.ff_name.specs.declared.urls.Url.{Url}
use Rattle.ff_name.specs.declared.urls.Url.TheVariants.{Blank, At}
use Rattle.ff_tree.specs.Ops.{word_of}
use Rattle.ff_tree.specs.declared.op.Op.{Op}
use Rattle.ff_tree.specs.declared.op.Op.TheVariants.{Add}
use Rattle.ff_text.specs.Bytes.{is_word_byte}
use Rattle.ff_text.specs.Printed.{is_word}

weaker : (p q : ℕ → Bool) → ((b : ℕ) → p b ≡ true → q b ≡ true) → (bytes : List ℕ) → list_all p bytes ≡ true → list_all q bytes ≡ true
weaker p q implies [] h = refl
weaker p q implies (b ∷ bytes) h = let tests = and_parts (p b) (list_all p bytes) h in and_from _ _ (implies b tests.0) (weaker p q implies bytes tests.1)

begins : (b : ℕ) → begins_name b ≡ true → is_word_byte b ≡ true
begins b h = grind (arith, nat_tests)

in_name : (b : ℕ) → stands_in_name b ≡ true → is_word_byte b ≡ true
in_name b h = grind (arith, nat_tests)

in_label : (b : ℕ) → stands_in_label b ≡ true → is_word_byte b ≡ true
in_label b h = grind (arith, nat_tests)

in_request : (b : ℕ) → stands_in_request b ≡ true → is_word_byte b ≡ true
in_request b h = grind (arith, nat_tests)

in_number : (b : ℕ) → stands_in_number b ≡ true → is_word_byte b ≡ true
in_number b h = grind (arith, nat_tests)

pub name_word : (x : List ℕ) → IsName x → is_word x ≡ true
name_word [] h = cc
name_word (b ∷ rest) h =
    let tests = and_parts (begins_name b) (list_all stands_in_name rest) h.0 in
    and_from _ _ (begins b tests.0) (weaker stands_in_name is_word_byte in_name rest tests.1)

label_bytes : (label : List ℕ) → is_label label ≡ true → list_all stands_in_label label ≡ true
label_bytes label h = grind (arith, nat_tests)

joined_bytes : (labels : List (List ℕ)) → list_all is_label labels ≡ true → list_all is_word_byte (join_with_byte 46 labels) ≡ true
joined_bytes [] h = refl
joined_bytes (label ∷ []) h = weaker stands_in_label is_word_byte in_label label (label_bytes label (and_parts (is_label label) true h).0)
joined_bytes (label ∷ next ∷ labels) h =
    let tests = and_parts (is_label label) (list_all is_label (next ∷ labels)) h in
    list_all-append is_word_byte label (46 ∷ join_with_byte 46 (next ∷ labels))
    ∙ and_from _ _ (weaker stands_in_label is_word_byte in_label label (label_bytes label tests.0)) (joined_bytes (next ∷ labels) tests.1)

pub url_word : (url : Url) → IsWellSpelled url → is_word (printed url) ≡ true
url_word Blank h = refl
url_word (At domain request) h =
    list_all-append is_word_byte domain request
    ∙ and_from _ _ (ap (list_all is_word_byte) h.0.joined ∙ joined_bytes h.0.labels h.0.each) (weaker stands_in_request is_word_byte in_request request h.1.made_of)

some_word : (bytes : List ℕ) → 0 < length bytes → list_all is_word_byte bytes ≡ true → is_word bytes ≡ true
some_word [] some h = absurd (omega arith)
some_word (b ∷ bytes) some h = h

pub number_word : (n : ℤ) → FitsSigned w64 n → is_word (num_text n) ≡ true
number_word n fits = some_word (num_text n) (some-num_text n fits) (weaker stands_in_number is_word_byte in_number (num_text n) (stands-num_text n fits))

pub operator_word : (op : Op) → is_word (word_of op) ≡ true
operator_word Add = refl
operator_word _ = refl
