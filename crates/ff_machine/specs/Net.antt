-- Cookies by domain and key, and for each domain the requests whose replies haven't come.
use Rattle.std.specs.Prelude.{ℕ, Bool, cond, ◌&&◌, ◌||◌, nat_lt, nat_le, Option, Some, List, [], ◌∷◌, ◌++◌, map, filter, length, sum_by, count_by, remove, is_some, unwrap_or, bytes_eq}
use Rattle.std.specs.Ordering.{nat_cmp, ordering_then}
use Rattle.std.specs.declared.cmp.Ordering.{Ordering}
use Rattle.std.specs.Cmp.Lexicographic.{slice_cmp}
use Rattle.std.specs.FinMap as finmap
use Rattle.ff_value.specs.declared.fault.Fault.{Fault}
use Rattle.ff_value.specs.declared.fault.Fault.TheVariants as fault
use Rattle.ff_value.specs.declared.output.Pair.{Pair}
use Rattle.ff_machine.specs.declared.records.Pending.{Pending}
use Rattle.ff_machine.specs.Faults.{limit_unless}
use Rattle.ff_machine.specs.declared.limits.TheConstants.{MOST_ASKS, MOST_ASKS_OF_DOMAIN, MOST_COOKIES, MOST_COOKIES_OF_DOMAIN, MOST_KEY_BYTES, MOST_VALUE_BYTES}

-- Cookies.

-- by domains, then by keys, both in byte order
abbrev pub cookie_cmp : List ℕ × List ℕ → List ℕ × List ℕ → Ordering
cookie_cmp a b = ordering_then (slice_cmp nat_cmp a.0 b.0) (slice_cmp nat_cmp a.1 b.1)

-- the value at each domain and key
abbrev pub Jar : Type 0
Jar = finmap.FinMap cookie_cmp (List ℕ)

-- the value of a domain's cookie
abbrev pub cookie : Jar → List ℕ → List ℕ → Option (List ℕ)
cookie jar domain key = finmap.get jar (domain, key)

-- how many cookies a domain has
abbrev pub cookies_of : Jar → List ℕ → ℕ
cookies_of jar domain = count_by (λ e. bytes_eq e.0.0 domain) (finmap.entries jar)

-- the cookies of a domain in byte order of their keys
abbrev pub pairs_of : Jar → List ℕ → List Pair
pairs_of jar domain = map (λ e. record { key = e.0.1; value = e.1 }) (filter (λ e. bytes_eq e.0.0 domain) (finmap.entries jar))

-- the key has a byte or more, and neither the key nor the value is too long
abbrev pub has_cookie_size : List ℕ → List ℕ → Bool
has_cookie_size key value = nat_le 1 (length key) && nat_le (length key) MOST_KEY_BYTES && nat_le (length value) MOST_VALUE_BYTES

-- one cookie more of the domain is within the limits
abbrev pub has_cookie_room : Jar → List ℕ → Bool
has_cookie_room jar domain = nat_lt (cookies_of jar domain) MOST_COOKIES_OF_DOMAIN && nat_lt (finmap.len jar) MOST_COOKIES

-- why a cookie can't be put, in order: its sizes; no room, where its key is new
abbrev pub cookie_fault : Jar → List ℕ → List ℕ → List ℕ → Option Fault
cookie_fault jar domain key value =
    cond (has_cookie_size key value) (limit_unless (is_some (cookie jar domain key) || has_cookie_room jar domain)) (Some fault.Range)

-- the domain's cookie has this value
abbrev pub cookie_put : Jar → List ℕ → List ℕ → List ℕ → Jar
cookie_put jar domain key value = finmap.insert jar (domain, key) value

-- the domain has no such cookie
abbrev pub cookie_deleted : Jar → List ℕ → List ℕ → Jar
cookie_deleted jar domain key = finmap.remove jar (domain, key)

-- Requests.

-- the pending requests of each domain that has some, the oldest first
abbrev pub Requests : Type 0
Requests = finmap.FinMap (slice_cmp nat_cmp) (List Pending)

-- the pending requests of a domain, the oldest first
abbrev pub asked : Requests → List ℕ → List Pending
asked requests domain = unwrap_or (finmap.get requests domain) []

-- how many requests are pending in all
abbrev pub count_asks : Requests → ℕ
count_asks requests = sum_by length (finmap.values requests)

-- one request more to the domain is within the limits
abbrev pub has_ask_room : Requests → List ℕ → Bool
has_ask_room requests domain = nat_lt (length (asked requests domain)) MOST_ASKS_OF_DOMAIN && nat_lt (count_asks requests) MOST_ASKS

-- the domain has these pending requests; where there is none, it has no entry
abbrev pub with_asked : Requests → List ℕ → List Pending → Requests
with_asked requests domain [] = finmap.remove requests domain
with_asked requests domain (p ∷ ps) = finmap.insert requests domain (p ∷ ps)

-- a request more, the last of its domain
abbrev pub with_ask : Requests → List ℕ → Pending → Requests
with_ask requests domain pending = finmap.insert requests domain (asked requests domain ++ pending ∷ [])

-- the k-th request of a domain was answered; later ones move down
abbrev pub answered : Requests → List ℕ → ℕ → Requests
answered requests domain k = with_asked requests domain (remove (asked requests domain) k)
