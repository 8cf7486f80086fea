-- Which bytes are read as names, domains, request texts and addresses.
use Rattle.std.proofs.Common.{◌≡◌, ◌⊎◌, ◌↔◌, ◌≤◌, ℕ, ◌&&◌, ◌==◌, not, Bool, true, false, List, [], ◌∷◌, ◌++◌, length, drop, Option, Some, None, inl, inr, refl, sym, ap, ◌∙◌, subst, arith, nat_le, nat_eq, slice_get, cond}
use Rattle.std.specs.List.{list_all, slice_split, starts_with}
use Rattle.std.specs.Str.{bytes_eq}
use Rattle.std.proofs.lemmas.Bool.{and_parts, and_from}
use Rattle.std.proofs.lemmas.Bool.Decides.{nat_tests}
use Rattle.std.proofs.lemmas.Slice.Eq.{bytes_eq-Decides}
use Rattle.ff_name.specs.Spelling.{IsDomain, IsName, is_label, is_named}
use Rattle.ff_name.specs.Address.{blank, scheme, Spells, as_printed, Parts, ArePassed, IsRequest, stands_in_request, request_or_slash}
use Rattle.ff_name.specs.Reading.{is_name, is_domain, is_request, host_of, request_of, url_at, read_url}
use Rattle.ff_name.specs.declared.domains.TheConstants.{MOST_DOMAIN_BYTES}
use Rattle.ff_name.specs.declared.names.TheConstants.{MOST_NAME_BYTES}
use Rattle.ff_name.specs.declared.urls.TheConstants.{MOST_REQUEST_BYTES}
use Rattle.ff_name.specs.declared.urls.Url.{Url}
use Rattle.ff_name.specs.declared.urls.Url.TheVariants.{Blank, At}
use Rattle.ff_name.proofs.Labels.{IsDomain-from_parts, parts_from_IsDomain}
use Rattle.ff_name.proofs.Addresses.{IsAt, spells_cases, spells_from_parts}

-- the test is the fact
pub is_name-from : (bytes : List ℕ) → IsName bytes → is_name bytes ≡ true
is_name-from bytes h =
    let short : length bytes ≤ MOST_NAME_BYTES = h.1 in
    let test : nat_le (length bytes) MOST_NAME_BYTES ≡ true = grind (arith, nat_tests) in
    and_from _ _ h.0 test

pub IsName-from : (bytes : List ℕ) → is_name bytes ≡ true → IsName bytes
IsName-from bytes h =
    let parts = and_parts (is_named bytes) (nat_le (length bytes) MOST_NAME_BYTES) h in
    let test : nat_le (length bytes) MOST_NAME_BYTES ≡ true = parts.1 in
    (parts.0, grind (arith, nat_tests))

pub is_domain-from : (bytes : List ℕ) → IsDomain bytes → is_domain bytes ≡ true
is_domain-from bytes h =
    let short : length bytes ≤ MOST_DOMAIN_BYTES = h.short in
    let test : nat_le (length bytes) MOST_DOMAIN_BYTES ≡ true = grind (arith, nat_tests) in
    and_from _ _ (parts_from_IsDomain bytes h) test

pub IsDomain-from : (bytes : List ℕ) → is_domain bytes ≡ true → IsDomain bytes
IsDomain-from bytes h =
    let parts = and_parts (list_all is_label (slice_split (λ b. b == 46) bytes)) (nat_le (length bytes) MOST_DOMAIN_BYTES) h in
    let test : nat_le (length bytes) MOST_DOMAIN_BYTES ≡ true = parts.1 in
    IsDomain-from_parts bytes (grind (arith, nat_tests)) parts.0

starts_slash : (text : List ℕ) → slice_get text 0 ≡ Some 47 → starts_with nat_eq text (47 ∷ []) ≡ true
starts_slash [] begins = cc
starts_slash (b ∷ text) begins = let is : b ≡ 47 = cc in subst (λ c. starts_with nat_eq (c ∷ text) (47 ∷ []) ≡ true) (sym is) refl

slash_starts : (text : List ℕ) → starts_with nat_eq text (47 ∷ []) ≡ true → slice_get text 0 ≡ Some 47
slash_starts [] h = cc
slash_starts (b ∷ text) h =
    let parts = and_parts (nat_eq 47 b) true h in
    let test : nat_eq 47 b ≡ true = parts.0 in
    let is : b ≡ 47 = grind (arith, nat_tests) in
    ap Some is

pub is_request-from : (text : List ℕ) → IsRequest text → is_request text ≡ true
is_request-from text h =
    let short : length text ≤ MOST_REQUEST_BYTES = h.short in
    let test : nat_le (length text) MOST_REQUEST_BYTES ≡ true = grind (arith, nat_tests) in
    and_from _ _ (and_from _ _ (starts_slash text h.begins) h.made_of) test

pub IsRequest-from : (text : List ℕ) → is_request text ≡ true → IsRequest text
IsRequest-from text h =
    let parts = and_parts (starts_with nat_eq text (47 ∷ []) && list_all stands_in_request text) (nat_le (length text) MOST_REQUEST_BYTES) h in
    let front = and_parts (starts_with nat_eq text (47 ∷ [])) (list_all stands_in_request text) parts.0 in
    let test : nat_le (length text) MOST_REQUEST_BYTES ≡ true = parts.1 in
    record { begins = slash_starts text front.0; made_of = front.1; short = grind (arith, nat_tests) }

-- a host and a request text that are passed pass the tests, and no others do
request_passed : (request : List ℕ) → (request ≡ []) ⊎ (slice_get request 0 ≡ Some 47) → (host : List ℕ) → ArePassed host request → is_request (request_or_slash request) ≡ true
request_passed [] begins host h = refl
request_passed (b ∷ request) begins host h =
    elim begins [
      | inl none ↦ cc
      | inr slash ↦ is_request-from (b ∷ request) (record { begins = slash; made_of = h.made_of; short = h.short })
    ]

request_from : (request : List ℕ) → is_request (request_or_slash request) ≡ true → (list_all stands_in_request request ≡ true) × (length request ≤ MOST_REQUEST_BYTES)
request_from [] h = (refl, omega arith)
request_from (b ∷ request) h = let is = IsRequest-from (b ∷ request) h in (is.made_of, is.short)

passed_test : (host request : List ℕ) → (request ≡ []) ⊎ (slice_get request 0 ≡ Some 47) → ArePassed host request → is_domain host && is_request (request_or_slash request) ≡ true
passed_test host request begins h = and_from _ _ (is_domain-from host h.domain) (request_passed request begins host h)

passed_from : (host request : List ℕ) → is_domain host && is_request (request_or_slash request) ≡ true → ArePassed host request
passed_from host request h =
    let parts = and_parts (is_domain host) (is_request (request_or_slash request)) h in
    let rest = request_from request parts.1 in
    record { domain = IsDomain-from host parts.0; made_of = rest.0; short = rest.1 }

-- a host with no slash and a request text are found again in what they make together
abbrev Found : List ℕ → List ℕ → List ℕ → Type 0
Found bytes host request = (host_of bytes ≡ host) × (request_of bytes ≡ request)

begins_request : (request : List ℕ) → (request ≡ []) ⊎ (slice_get request 0 ≡ Some 47) → Found request [] request
begins_request [] begins = (refl, refl)
begins_request (b ∷ request) begins = elim begins [
  | inl none ↦ cc
  | inr slash ↦ let is : b ≡ 47 = cc in subst (λ c. Found (c ∷ request) [] (c ∷ request)) (sym is) (refl, refl)
]

found_parts : (host request : List ℕ) → list_all (λ b. not (b == 47)) host ≡ true → (request ≡ []) ⊎ (slice_get request 0 ≡ Some 47) → Found (host ++ request) host request
found_parts [] request slashless begins = begins_request request begins
found_parts (b ∷ host) request slashless begins =
    let tests = and_parts (not (b == 47)) (list_all (λ b. not (b == 47)) host) slashless in
    let rest = found_parts host request tests.1 begins in
    by_test (b == 47) refl tests.0 rest where
      by_test : (t : Bool) → (b == 47) ≡ t → not (b == 47) ≡ true → Found (host ++ request) host request → Found (b ∷ (host ++ request)) (b ∷ host) request
      by_test true e tested rest = let other : not (b == 47) ≡ false = rw e refl in cc
      by_test false e tested rest = (rw e (ap (λ bytes. b ∷ bytes) rest.0), rw e rest.1)

-- and bytes are made of them
split_joined : (bytes : List ℕ) → bytes ≡ host_of bytes ++ request_of bytes
split_joined [] = refl
split_joined (b ∷ bytes) = by_test (b == 47) refl (split_joined bytes) where
  by_test : (t : Bool) → (b == 47) ≡ t → bytes ≡ host_of bytes ++ request_of bytes → b ∷ bytes ≡ host_of (b ∷ bytes) ++ request_of (b ∷ bytes)
  by_test true e rest = rw e refl
  by_test false e rest = rw e (ap (λ bs. b ∷ bs) rest)

split_slashless : (bytes : List ℕ) → list_all (λ b. not (b == 47)) (host_of bytes) ≡ true
split_slashless [] = refl
split_slashless (b ∷ bytes) = by_test (b == 47) refl (split_slashless bytes) where
  by_test : (t : Bool) → (b == 47) ≡ t → list_all (λ b. not (b == 47)) (host_of bytes) ≡ true → list_all (λ b. not (b == 47)) (host_of (b ∷ bytes)) ≡ true
  by_test true e rest = rw e refl
  by_test false e rest = let other : not (b == 47) ≡ true = rw e refl in rw e (and_from _ _ other rest)

split_begins : (bytes : List ℕ) → (request_of bytes ≡ []) ⊎ (slice_get (request_of bytes) 0 ≡ Some 47)
split_begins [] = inl refl
split_begins (b ∷ bytes) = by_test (b == 47) refl (split_begins bytes) where
  by_test : (t : Bool) → (b == 47) ≡ t → (request_of bytes ≡ []) ⊎ (slice_get (request_of bytes) 0 ≡ Some 47) → (request_of (b ∷ bytes) ≡ []) ⊎ (slice_get (request_of (b ∷ bytes)) 0 ≡ Some 47)
  by_test true e rest = let is : b ≡ 47 = grind (arith, nat_tests) in rw e (inr (ap Some is))
  by_test false e rest = rw e rest

split_parts : (bytes : List ℕ) → Parts bytes (host_of bytes) (request_of bytes)
split_parts bytes = record { joined = split_joined bytes; host_has_no_slash = split_slashless bytes; request_begins = split_begins bytes }

same_bytes : (bytes : List ℕ) → bytes_eq bytes bytes ≡ true
same_bytes bytes = (bytes_eq-Decides bytes bytes).1 refl

-- with the scheme, the address is that of the parts
address_after : (rest : List ℕ) → read_url (scheme ++ rest) ≡ url_at (host_of rest) (request_of rest)
unfolding read_url
address_after rest = rw (same_bytes rest) refl

blank_read : read_url blank ≡ Some Blank
unfolding read_url
blank_read = refl

-- what is spelled is read
pub read_url_found : (bytes : List ℕ) (url : Url) → Spells bytes url → read_url bytes ≡ Some url
read_url_found bytes url spells = elim (spells_cases bytes url spells) [
  | inl is_blank ↦ ap read_url is_blank.0 ∙ blank_read ∙ ap Some (sym is_blank.1)
  | inr is_at ↦ at_parts is_at
] where
  at_parts : IsAt bytes url → read_url bytes ≡ Some url
  at_parts h =
      let found = found_parts h.host h.request h.parts.host_has_no_slash h.parts.request_begins in
      let host : host_of h.rest ≡ h.host = ap host_of h.parts.joined ∙ found.0 in
      let request : request_of h.rest ≡ h.request = ap request_of h.parts.joined ∙ found.1 in
      ap read_url h.schemed ∙ address_after h.rest
      ∙ ap (λ bs. url_at bs (request_of h.rest)) host ∙ ap (λ bs. url_at h.host bs) request
      ∙ ap (λ t. cond t (Some (At h.host (request_or_slash h.request))) None) (passed_test h.host h.request h.parts.request_begins h.passed) ∙ ap Some (sym h.is)

-- what is read is spelled
pub read_url_spelled : (bytes : List ℕ) (url : Url) → read_url bytes ≡ Some url → Spells bytes url
unfolding read_url
read_url_spelled bytes url e = first (bytes_eq bytes blank) refl e where
  second : (t : Bool) → bytes_eq bytes (scheme ++ drop 7 bytes) ≡ t → cond t (url_at (host_of (drop 7 bytes)) (request_of (drop 7 bytes))) None ≡ Some url → Spells bytes url
  second true s f = by_test (is_domain (host_of (drop 7 bytes)) && is_request (request_or_slash (request_of (drop 7 bytes)))) refl f where
    by_test : (b : Bool) → is_domain (host_of (drop 7 bytes)) && is_request (request_or_slash (request_of (drop 7 bytes))) ≡ b
        → cond b (Some (At (host_of (drop 7 bytes)) (request_or_slash (request_of (drop 7 bytes))))) None ≡ Some url → Spells bytes url
    by_test true p g =
        let is : At (host_of (drop 7 bytes)) (request_or_slash (request_of (drop 7 bytes))) ≡ url = cc in
        subst (Spells bytes) is
        (spells_from_parts bytes (drop 7 bytes) (host_of (drop 7 bytes)) (request_of (drop 7 bytes))
        ((bytes_eq-Decides bytes (scheme ++ drop 7 bytes)).0 s) (split_parts (drop 7 bytes)) (passed_from (host_of (drop 7 bytes)) (request_of (drop 7 bytes)) p))
    by_test false p g = cc
  second false s f = cc

  first : (t : Bool) → bytes_eq bytes blank ≡ t → cond t (Some Blank) (cond (bytes_eq bytes (scheme ++ drop 7 bytes)) (url_at (host_of (drop 7 bytes)) (request_of (drop 7 bytes))) None) ≡ Some url → Spells bytes url
  first true s f =
      let is : Blank ≡ url = cc in
      subst (λ w. Spells w url) (sym ((bytes_eq-Decides bytes blank).0 s)) (subst (Spells blank) is (as_printed Blank tt))
  first false s f = second (bytes_eq bytes (scheme ++ drop 7 bytes)) refl f

pub read_url_exactly : (bytes : List ℕ) (url : Url) → (read_url bytes ≡ Some url) ↔ Spells bytes url
read_url_exactly bytes url = (read_url_spelled bytes url, read_url_found bytes url)

-- nothing is read exactly where nothing is spelled
pub read_url_none : (bytes : List ℕ) → (read_url bytes ≡ None) ↔ ((url : Url) → ¬ Spells bytes url)
read_url_none bytes = (none, unspelled (read_url bytes) refl) where
  none : read_url bytes ≡ None → (url : Url) → ¬ Spells bytes url
  none e url spells = let found : read_url bytes ≡ Some url = read_url_found bytes url spells in cc

  unspelled : (answer : Option Url) → read_url bytes ≡ answer → ((url : Url) → ¬ Spells bytes url) → read_url bytes ≡ None
  unspelled (Some url) e isnt = absurd (isnt url (read_url_spelled bytes url e))
  unspelled None e isnt = e
