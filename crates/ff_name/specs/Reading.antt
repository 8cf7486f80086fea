-- Names, domains, request texts and addresses as functions of the bytes that spell them.
use Rattle.std.specs.Prelude.{ℕ, Bool, ◌&&◌, ◌==◌, nat_eq, nat_le, if◌then◌else◌, Option, Some, None, List, [], ◌∷◌, ◌++◌, length, drop}
use Rattle.std.specs.List.{list_all, slice_split, starts_with}
use Rattle.std.specs.Str.{bytes_eq}
use Rattle.ff_name.specs.Spelling.{is_named, is_label}
use Rattle.ff_name.specs.Address.{blank, scheme, stands_in_request, request_or_slash}
use Rattle.ff_name.specs.declared.domains.TheConstants.{MOST_DOMAIN_BYTES}
use Rattle.ff_name.specs.declared.names.TheConstants.{MOST_NAME_BYTES}
use Rattle.ff_name.specs.declared.urls.TheConstants.{MOST_REQUEST_BYTES}
use Rattle.ff_name.specs.declared.urls.Url.{Url}
use Rattle.ff_name.specs.declared.urls.Url.TheVariants.{Blank, At}

-- whether the bytes are a name
abbrev pub is_name : List ℕ → Bool
is_name bytes = is_named bytes && nat_le (length bytes) MOST_NAME_BYTES

-- whether the bytes are a domain: labels between dots
abbrev pub is_domain : List ℕ → Bool
is_domain bytes = list_all is_label (slice_split (λ b. b == 46) bytes) && nat_le (length bytes) MOST_DOMAIN_BYTES

-- whether the bytes are a request text: `/` and then bytes that may stand there
abbrev pub is_request : List ℕ → Bool
is_request text = starts_with nat_eq text (47 ∷ []) && list_all stands_in_request text && nat_le (length text) MOST_REQUEST_BYTES

-- what stands before the first `/`
abbrev pub host_of : List ℕ → List ℕ
host_of [] = []
host_of (b ∷ bytes) = if b == 47 then [] else b ∷ host_of bytes

-- what stands from the first `/` on
abbrev pub request_of : List ℕ → List ℕ
request_of [] = []
request_of (b ∷ bytes) = if b == 47 then b ∷ bytes else request_of bytes

-- the address of a domain and a request text, where no request text stands for `/`
abbrev pub url_at : List ℕ → List ℕ → Option Url
url_at host request = if is_domain host && is_request (request_or_slash request) then Some (At host (request_or_slash request)) else None

-- the address that the bytes spell
unfoldable pub read_url : List ℕ → Option Url
read_url bytes =
    if bytes_eq bytes blank then Some Blank
    else if bytes_eq bytes (scheme ++ drop 7 bytes) then url_at (host_of (drop 7 bytes)) (request_of (drop 7 bytes))
    else None
