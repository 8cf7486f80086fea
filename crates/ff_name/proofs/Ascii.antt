-- What is spelled in ASCII is UTF-8.
use Rattle.std.proofs.Common.{◌≡◌, ℕ, ◌<◌, ◌==◌, ◌||◌, Bool, true, List, [], ◌∷◌, arith, refl, subst, sym, ◌∙◌, get_or, not}
use Rattle.std.specs.List.{list_all, All, join_with_byte}
use Rattle.std.specs.Str.{IsUtf8}
use Rattle.std.proofs.lemmas.Str.{IsUtf8-from_ascii}
use Rattle.std.proofs.lemmas.Str.Ascii.{IsAscii-from_all}
use Rattle.std.proofs.lemmas.Bool.{and_parts, and_from}
use Rattle.std.proofs.lemmas.List.Sums.{AllPass-from_list_all}
use Rattle.std.proofs.lemmas.Bool.Decides.{nat_tests}
use Rattle.std.proofs.lemmas.List.Folds.{list_all-append}
use Rattle.ff_name.specs.Address.{stands_in_request}
use Rattle.ff_name.specs.Spelling.{IsName, begins_name, stands_in_name, stands_in_label, is_label, IsDomain}

-- what a test says of each element that it passes
pub All-from_test : (test : ℕ → Bool) (P : ℕ → Type 0) → ((b : ℕ) → test b ≡ true → P b) → (bytes : List ℕ) → list_all test bytes ≡ true → All P bytes
All-from_test test P each bytes h k d inside = each (get_or bytes k d) (AllPass-from_list_all test bytes h k d inside)

-- a wider test passes too
pub list_all-wider : (test wide : ℕ → Bool) → ((b : ℕ) → test b ≡ true → wide b ≡ true) → (bytes : List ℕ) → list_all test bytes ≡ true → list_all wide bytes ≡ true
list_all-wider test wide each [] h = refl
list_all-wider test wide each (b ∷ bytes) h =
    let parts = and_parts (test b) (list_all test bytes) h in
    and_from _ _ (each b parts.0) (list_all-wider test wide each bytes parts.1)

pub IsUtf8-from_test : (test : ℕ → Bool) → ((b : ℕ) → test b ≡ true → b < 128) → (bytes : List ℕ) → list_all test bytes ≡ true → IsUtf8 bytes
IsUtf8-from_test test low bytes h = IsUtf8-from_ascii bytes (IsAscii-from_all bytes (All-from_test test (λ b. b < 128) low bytes h))

begins_stands : (b : ℕ) → begins_name b ≡ true → stands_in_name b ≡ true
begins_stands b h = grind (arith, nat_tests)

stands_low : (b : ℕ) → stands_in_name b ≡ true → b < 128
stands_low b h = grind (arith, nat_tests)

-- a name is UTF-8
pub IsUtf8-from_name : (bytes : List ℕ) → IsName bytes → IsUtf8 bytes
IsUtf8-from_name [] h = IsUtf8-from_test stands_in_name stands_low [] refl
IsUtf8-from_name (b ∷ bytes) h =
    let parts = and_parts (begins_name b) (list_all stands_in_name bytes) h.0 in
    IsUtf8-from_test stands_in_name stands_low (b ∷ bytes) (and_from _ _ (begins_stands b parts.0) parts.1)

-- a byte of a domain: one of its labels or a dot
stands_in_domain : ℕ → Bool
stands_in_domain b = stands_in_label b || b == 46

label_stands : (b : ℕ) → stands_in_label b ≡ true → stands_in_domain b ≡ true
unfolding stands_in_domain
label_stands b h = grind (arith, nat_tests)

domain_low : (b : ℕ) → stands_in_domain b ≡ true → b < 128
unfolding stands_in_domain
domain_low b h = grind (arith, nat_tests)

-- what a label passes first
pub label_bytes : (label : List ℕ) → is_label label ≡ true → list_all stands_in_label label ≡ true
label_bytes label h = (and_parts _ _ (and_parts _ _ (and_parts _ _ (and_parts _ _ h).0).0).0).0

label_in_domain : (label : List ℕ) → is_label label ≡ true → list_all stands_in_domain label ≡ true
label_in_domain label h = list_all-wider stands_in_label stands_in_domain label_stands label (label_bytes label h)

joined_low : (labels : List (List ℕ)) → list_all is_label labels ≡ true → list_all stands_in_domain (join_with_byte 46 labels) ≡ true
unfolding stands_in_domain
joined_low [] h = refl
joined_low (label ∷ []) h = label_in_domain label (and_parts _ _ h).0
joined_low (label ∷ next ∷ rest) h =
    let parts = and_parts (is_label label) (list_all is_label (next ∷ rest)) h in
    list_all-append stands_in_domain label (46 ∷ join_with_byte 46 (next ∷ rest))
    ∙ and_from _ _ (label_in_domain label parts.0) (joined_low (next ∷ rest) parts.1)

-- a domain is UTF-8
pub IsUtf8-from_domain : (bytes : List ℕ) → IsDomain bytes → IsUtf8 bytes
IsUtf8-from_domain bytes h =
    subst IsUtf8 (sym h.joined) (IsUtf8-from_test stands_in_domain domain_low _ (joined_low h.labels h.each))

slashless : (b : ℕ) → stands_in_domain b ≡ true → not (b == 47) ≡ true
unfolding stands_in_domain
slashless b h = grind (arith, nat_tests)

-- a domain has no slash
pub domain_has_no_slash : (bytes : List ℕ) → IsDomain bytes → list_all (λ b. not (b == 47)) bytes ≡ true
domain_has_no_slash bytes h =
    subst (λ bs. list_all (λ b. not (b == 47)) bs ≡ true) (sym h.joined)
    (list_all-wider stands_in_domain (λ b. not (b == 47)) slashless _ (joined_low h.labels h.each))

request_low : (b : ℕ) → stands_in_request b ≡ true → b < 128
request_low b h = grind (arith, nat_tests)

-- a request text is UTF-8
pub IsUtf8-from_request : (bytes : List ℕ) → list_all stands_in_request bytes ≡ true → IsUtf8 bytes
IsUtf8-from_request bytes h = IsUtf8-from_test stands_in_request request_low bytes h

pub IsUtf8-slash : IsUtf8 (47 ∷ [])
IsUtf8-slash = IsUtf8-from_request (47 ∷ []) refl

pub ruleset utf8 = (IsUtf8-from_name, IsUtf8-from_domain, IsUtf8-from_request, IsUtf8-slash)
