-- How addresses are spelled and printed, and what is wrong with bytes that spell none.
use Rattle.std.specs.Prelude.{◌≡◌, ◌≢◌, ◌≤◌, ◌<◌, ◌⊎◌, ℕ, Bool, ◌||◌, ◌&&◌, not, ◌==◌, List, [], ◌∷◌, ◌++◌, length, codes, slice_get, Some, IsTrue}
use Rattle.std.specs.List.{list_all}
use Rattle.std.specs.Char.{is_ascii_graphic}
use Rattle.ff_name.specs.Spelling.{IsDomain}
use Rattle.ff_name.specs.declared.urls.TheConstants.{MOST_REQUEST_BYTES}
use Rattle.ff_name.specs.declared.urls.Url.{Url}
use Rattle.ff_name.specs.declared.urls.Url.TheVariants.{Blank, At}
use Rattle.ff_name.specs.declared.urls.UrlFault.{UrlFault}
use Rattle.ff_name.specs.declared.urls.UrlFault.TheVariants as url_fault

abbrev pub blank : List ℕ
blank = codes "about:blank"

abbrev pub scheme : List ℕ
scheme = codes "http://"

-- a visible byte of ASCII other than `"`, `(`, `)`, `\` and `#`
abbrev pub stands_in_request : ℕ → Bool
stands_in_request b = is_ascii_graphic b && not (b == 34 || b == 40 || b == 41 || b == 92 || b == 35)

-- the request text of an address: `/` and then such bytes, no more than so many in all
pub record IsRequest (text : List ℕ) : Type 0 where
  pub begins : slice_get text 0 ≡ Some 47
  pub made_of : IsTrue (list_all stands_in_request text)
  pub short : length text ≤ MOST_REQUEST_BYTES

-- an address whose domain and request text are spelled as addresses spell them
abbrev pub IsWellSpelled : Url → Type 0
IsWellSpelled Blank = Unit {0}
IsWellSpelled (At domain request) = IsDomain domain × IsRequest request

-- the bytes that are printed for an address
abbrev pub printed : Url → List ℕ
printed Blank = blank
printed (At domain request) = scheme ++ (domain ++ request)

-- the bytes spell the address: as it is printed, or with no request text in the place of `/`
pub data Spells : List ℕ → Url → Type 0 where
  as_printed : (url : Url) → IsWellSpelled url → Spells (printed url) url
  with_no_request : (domain : List ℕ) → IsDomain domain → Spells (scheme ++ domain) (At domain (47 ∷ []))

-- the bytes are a host with no `/`, and a request text, which is empty or begins with `/`
pub record Parts (bytes host request : List ℕ) : Type 0 where
  pub joined : bytes ≡ host ++ request
  pub host_has_no_slash : IsTrue (list_all (λ b. not (b == 47)) host)
  pub request_begins : (request ≡ []) ⊎ (slice_get request 0 ≡ Some 47)

-- the first thing that is wrong with a host and a request text, in the order of the faults
pub data PartFaults (host request : List ℕ) : UrlFault → Type 0 where
  no_domain : ¬ IsDomain host → PartFaults host request url_fault.Domain
  wrong_byte : IsDomain host → ¬ IsTrue (list_all stands_in_request request) → PartFaults host request url_fault.Uri
  too_long : IsDomain host → IsTrue (list_all stands_in_request request) → MOST_REQUEST_BYTES < length request → PartFaults host request url_fault.Long

-- nothing is wrong with them
pub record ArePassed (host request : List ℕ) : Type 0 where
  pub domain : IsDomain host
  pub made_of : IsTrue (list_all stands_in_request request)
  pub short : length request ≤ MOST_REQUEST_BYTES

-- the request text that an address has: none stands for `/`
abbrev pub request_or_slash : List ℕ → List ℕ
request_or_slash [] = 47 ∷ []
request_or_slash (b ∷ request) = b ∷ request

-- the first thing that is wrong with bytes as an address
pub data Faults (bytes : List ℕ) : UrlFault → Type 0 where
  no_scheme : bytes ≢ blank → ((rest : List ℕ) → bytes ≢ scheme ++ rest) → Faults bytes url_fault.Scheme
  in_parts : (rest host request : List ℕ) → bytes ≡ scheme ++ rest → Parts rest host request → {which : UrlFault} → PartFaults host request which → Faults bytes which
