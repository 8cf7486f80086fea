-- The parts of an address are the only ones, and an address has no fault.
use Rattle.std.proofs.Common.{◌≡◌, ◌≢◌, ◌⊎◌, ◌≤◌, ◌<◌, ℕ, true, not, ◌==◌, List, [], ◌∷◌, ◌++◌, length, slice_get, Some, Result, Ok, Err, IfOk, IfErr, inl, inr, refl, sym, ap, ◌∙◌, subst, arith, append-nil, get_or, drop, lit<}
use Rattle.std.specs.List.{list_all}
use Rattle.std.proofs.lemmas.Bool.{and_parts}
use Rattle.ff_name.specs.Address.{blank, scheme, Spells, as_printed, with_no_request, Parts, PartFaults, no_domain, wrong_byte, too_long, ArePassed, request_or_slash, Faults, no_scheme, in_parts}
use Rattle.ff_name.specs.declared.urls.TheConstants.{MOST_REQUEST_BYTES}
use Rattle.ff_name.specs.declared.urls.Url.{Url}
use Rattle.ff_name.specs.declared.urls.Url.TheVariants.{Blank, At}
use Rattle.ff_name.specs.declared.urls.UrlFault.{UrlFault}
use Rattle.ff_name.specs.declared.urls.UrlFault.TheVariants as url_fault
use Rattle.ff_name.proofs.Ascii.{domain_has_no_slash}

IsSlashless : List ℕ → Type 0
IsSlashless bytes = list_all (λ b. not (b == 47)) bytes ≡ true

abbrev BeginsRequest : List ℕ → Type 0
BeginsRequest request = (request ≡ []) ⊎ (slice_get request 0 ≡ Some 47)

-- a byte of a host does not begin a request text
not_both : (b : ℕ) (host request bytes : List ℕ) → request ≡ b ∷ bytes → list_all (λ b. not (b == 47)) (b ∷ host) ≡ true → BeginsRequest request → ⊥
not_both b host request bytes e slashless begins =
    let head : not (b == 47) ≡ true = (and_parts (not (b == 47)) (list_all (λ b. not (b == 47)) host) slashless).0 in
    elim begins [
      | inl none ↦ cc
      | inr slash ↦ cc
    ]

same_parts : (a x b y : List ℕ) → a ++ x ≡ b ++ y → list_all (λ b. not (b == 47)) a ≡ true → list_all (λ b. not (b == 47)) b ≡ true → BeginsRequest x → BeginsRequest y → (a ≡ b) × (x ≡ y)
same_parts [] x [] y e ha hb hx hy = (refl, e)
same_parts [] x (k ∷ b) y e ha hb hx hy = absurd (not_both k b x (b ++ y) e hb hx)
same_parts (k ∷ a) x [] y e ha hb hx hy = absurd (not_both k a y (a ++ x) (sym e) ha hy)
same_parts (k ∷ a) x (m ∷ b) y e ha hb hx hy =
    let tails : a ++ x ≡ b ++ y = cc in
    let heads : k ≡ m = cc in
    let rest = same_parts a x b y tails (and_parts (not (k == 47)) _ ha).1 (and_parts (not (m == 47)) _ hb).1 hx hy in
    let front : a ≡ b = rest.0 in
    (cc, rest.1)

-- bytes with the scheme have one host and one request text
pub Parts-unique : (bytes other host request host' request' : List ℕ) → scheme ++ bytes ≡ scheme ++ other → Parts bytes host request → Parts other host' request' → (host ≡ host') × (request ≡ request')
Parts-unique bytes other host request host' request' e p q =
    let bare : bytes ≡ other = ap (drop 7) e in
    same_parts host request host' request' (sym p.joined ∙ bare ∙ q.joined) p.host_has_no_slash q.host_has_no_slash p.request_begins q.request_begins

-- the request text that is printed for one is itself, where there is one
request_or_slash-begun : (request : List ℕ) → slice_get request 0 ≡ Some 47 → request_or_slash request ≡ request
request_or_slash-begun [] h = cc
request_or_slash-begun (b ∷ request) h = refl

-- an address that has parts: no other address is spelled but `about:blank`
pub record IsAt (bytes : List ℕ) (url : Url) : Type 0 where
  pub rest : List ℕ
  pub host : List ℕ
  pub request : List ℕ
  pub schemed : bytes ≡ scheme ++ rest
  pub parts : Parts rest host request
  pub passed : ArePassed host request
  pub is : url ≡ At host (request_or_slash request)

pub spells_cases : (bytes : List ℕ) (url : Url) → Spells bytes url → ((bytes ≡ blank) × (url ≡ Blank)) ⊎ IsAt bytes url
spells_cases bytes url (as_printed Blank well) = inl (refl, refl)
spells_cases bytes url (as_printed (At domain request) well) =
    inr (record {
      rest = domain ++ request;
      host = domain;
      request = request;
      schemed = refl;
      parts = record { joined = refl; host_has_no_slash = domain_has_no_slash domain well.0; request_begins = inr well.1.begins };
      passed = record { domain = well.0; made_of = well.1.made_of; short = well.1.short };
      is = ap (At domain) (sym (request_or_slash-begun request well.1.begins));
    })
spells_cases bytes url (with_no_request domain is_domain) =
    inr (record {
      rest = domain;
      host = domain;
      request = [];
      schemed = refl;
      parts = record { joined = sym (append-nil domain); host_has_no_slash = domain_has_no_slash domain is_domain; request_begins = inl refl };
      passed = record { domain = is_domain; made_of = refl; short = omega arith };
      is = refl;
    })

-- parts with nothing wrong spell an address
spells_begun : (host request : List ℕ) → BeginsRequest request → ArePassed host request → Spells (scheme ++ (host ++ request)) (At host (request_or_slash request))
spells_begun host [] begins passed = subst (λ bytes. Spells (scheme ++ bytes) (At host (47 ∷ []))) (sym (append-nil host)) (with_no_request host passed.domain)
spells_begun host (b ∷ request) begins passed =
    as_printed (At host (b ∷ request)) (
      passed.domain,
      record {
        begins = elim begins [ inl none ↦ cc | inr slash ↦ slash ];
        made_of = passed.made_of;
        short = passed.short;
      },
    )

pub spells_from_parts : (bytes rest host request : List ℕ) → bytes ≡ scheme ++ rest → Parts rest host request → ArePassed host request → Spells bytes (At host (request_or_slash request))
spells_from_parts bytes rest host request schemed parts passed =
    subst (λ bs. Spells bs (At host (request_or_slash request))) (sym (schemed ∙ ap (λ bs. scheme ++ bs) parts.joined))
    (spells_begun host request parts.request_begins passed)

-- parts with nothing wrong have no fault
pub no_fault : (host request : List ℕ) (which : UrlFault) → ArePassed host request → PartFaults host request which → ⊥
no_fault host request which passed (no_domain isnt) = isnt passed.domain
no_fault host request which passed (wrong_byte is_domain isnt) = isnt passed.made_of
no_fault host request which passed (too_long is_domain made_of over) = let short : length request ≤ MOST_REQUEST_BYTES = passed.short in omega arith

-- parts have one first fault
pub PartFaults-unique : (host request : List ℕ) (which other : UrlFault) → PartFaults host request which → PartFaults host request other → which ≡ other
PartFaults-unique host request which other (no_domain isnt) (no_domain isnt') = refl
PartFaults-unique host request which other (no_domain isnt) (wrong_byte is isnt') = absurd (isnt is)
PartFaults-unique host request which other (no_domain isnt) (too_long is made over) = absurd (isnt is)
PartFaults-unique host request which other (wrong_byte is isnt) (no_domain isnt') = absurd (isnt' is)
PartFaults-unique host request which other (wrong_byte is isnt) (wrong_byte is' isnt') = refl
PartFaults-unique host request which other (wrong_byte is isnt) (too_long is' made over) = absurd (isnt made)
PartFaults-unique host request which other (too_long is made over) (no_domain isnt') = absurd (isnt' is)
PartFaults-unique host request which other (too_long is made over) (wrong_byte is' isnt') = absurd (isnt' made)
PartFaults-unique host request which other (too_long is made over) (too_long is' made' over') = refl

apart : (a b : ℕ) → a ≡ b → a < b → ⊥
apart a b same below = omega arith

not_blank : (rest : List ℕ) → blank ≡ scheme ++ rest → ⊥
not_blank rest e = apart 97 104 (ap (λ (bytes : List ℕ). get_or bytes 0 0) e) (lit< tt)

-- what reading answers about `about:blank`
pub found_blank : (bytes : List ℕ) → bytes ≡ blank → Spells bytes Blank
found_blank bytes e = subst (λ bs. Spells bs Blank) (sym e) (as_printed Blank tt)

pub only_blank : (bytes : List ℕ) → bytes ≡ blank → (url : Url) → Spells bytes url → url ≡ Blank
only_blank bytes e url spells = elim (spells_cases bytes url spells) [
  | inl is_blank ↦ is_blank.1
  | inr at ↦ absurd (not_blank at.rest (sym e ∙ at.schemed))
]

pub no_fault_blank : (bytes : List ℕ) → bytes ≡ blank → (which : UrlFault) → Faults bytes which → ⊥
no_fault_blank bytes e which (no_scheme isnt none) = isnt e
no_fault_blank bytes e which (in_parts rest host request schemed parts wrong) = not_blank rest (sym e ∙ schemed)

-- about bytes with no scheme
pub none_without_scheme : (bytes : List ℕ) → bytes ≢ blank → ((rest : List ℕ) → bytes ≢ scheme ++ rest) → (url : Url) → Spells bytes url → ⊥
none_without_scheme bytes isnt none url spells = elim (spells_cases bytes url spells) [
  | inl is_blank ↦ isnt is_blank.0
  | inr at ↦ none at.rest at.schemed
]

pub only_scheme : (bytes : List ℕ) → ((rest : List ℕ) → bytes ≢ scheme ++ rest) → (which : UrlFault) → Faults bytes which → which ≡ url_fault.Scheme
only_scheme bytes none which (no_scheme isnt none') = refl
only_scheme bytes none which (in_parts rest host request schemed parts wrong) = absurd (none rest schemed)

-- about bytes with parts
pub only_parts : (bytes rest host request : List ℕ) → bytes ≡ scheme ++ rest → Parts rest host request → (url : Url) → Spells bytes url → ArePassed host request × (url ≡ At host (request_or_slash request))
only_parts bytes rest host request schemed parts url spells = elim (spells_cases bytes url spells) [
  | inl is_blank ↦ absurd (not_blank rest (sym is_blank.0 ∙ schemed))
  | inr at ↦
      let same = Parts-unique at.rest rest at.host at.request host request (sym at.schemed ∙ schemed) at.parts parts in
      let P : List ℕ → List ℕ → Type 0 = λ h r. ArePassed h r × (url ≡ At h (request_or_slash r)) in
      subst (λ r. P host r) same.1 (subst (λ h. P h at.request) same.0 (at.passed, at.is))
]

pub fault_parts : (bytes rest host request : List ℕ) → bytes ≡ scheme ++ rest → Parts rest host request → (which : UrlFault) → Faults bytes which → PartFaults host request which
fault_parts bytes rest host request schemed parts which (no_scheme isnt none) = absurd (none rest schemed)
fault_parts bytes rest host request schemed parts which (in_parts rest' host' request' schemed' parts' wrong) =
    let same = Parts-unique rest' rest host' request' host request (sym schemed' ∙ schemed) parts' parts in
    subst (λ r. PartFaults host r which) same.1 (subst (λ h. PartFaults h request' which) same.0 wrong)

abbrev IsFoundAt : List ℕ → List ℕ → Url → Type 0
IsFoundAt host request url = ArePassed host request × (url ≡ At host (request_or_slash request))

abbrev IsFaultAt : List ℕ → List ℕ → UrlFault → Type 0
IsFaultAt host request which = ((which ≡ url_fault.NoMemory) × ArePassed host request) ⊎ PartFaults host request which

-- what reading answers, from what it answers of the parts
pub found_at : (bytes rest host request : List ℕ) → bytes ≡ scheme ++ rest → Parts rest host request → (answer : Result Url UrlFault) → IfOk answer (IsFoundAt host request) → IfOk answer (Spells bytes)
found_at bytes rest host request schemed parts (Ok url) found = subst (Spells bytes) (sym found.1) (spells_from_parts bytes rest host request schemed parts found.0)
found_at bytes rest host request schemed parts (Err which) found = tt

pub only_at : (bytes rest host request : List ℕ) → bytes ≡ scheme ++ rest → Parts rest host request → (answer : Result Url UrlFault) → IfOk answer (IsFoundAt host request) → IfErr answer (IsFaultAt host request) → (url : Url) → Spells bytes url → (answer ≡ Ok url) ⊎ (answer ≡ Err url_fault.NoMemory)
only_at bytes rest host request schemed parts (Ok found) is_found wrong url spells =
    let only = only_parts bytes rest host request schemed parts url spells in
    inl (ap Ok (is_found.1 ∙ sym only.1))
only_at bytes rest host request schemed parts (Err which) is_found wrong url spells =
    let only = only_parts bytes rest host request schemed parts url spells in
    elim wrong [
      | inl memory ↦ inr (ap Err memory.0)
      | inr part ↦ absurd (no_fault host request which only.0 part)
    ]

pub fault_at : (bytes rest host request : List ℕ) → bytes ≡ scheme ++ rest → Parts rest host request → (answer : Result Url UrlFault) → IfErr answer (IsFaultAt host request) → IfErr answer (λ which. (which ≡ url_fault.NoMemory) ⊎ Faults bytes which)
fault_at bytes rest host request schemed parts (Ok url) wrong = tt
fault_at bytes rest host request schemed parts (Err which) wrong = elim wrong [
  | inl memory ↦ inl memory.0
  | inr part ↦ inr (in_parts rest host request schemed parts part)
]

pub exact_at : (bytes rest host request : List ℕ) → bytes ≡ scheme ++ rest → Parts rest host request → (answer : Result Url UrlFault) → IfOk answer (IsFoundAt host request) → IfErr answer (IsFaultAt host request) → (which : UrlFault) → Faults bytes which → answer ≡ Err which
exact_at bytes rest host request schemed parts (Ok url) found wrong which faults =
    absurd (no_fault host request which found.0 (fault_parts bytes rest host request schemed parts which faults))
exact_at bytes rest host request schemed parts (Err other) found wrong which faults =
    let part = fault_parts bytes rest host request schemed parts which faults in
    elim wrong [
      | inl memory ↦ absurd (no_fault host request which memory.1 part)
      | inr part' ↦ ap Err (PartFaults-unique host request other which part' part)
    ]
