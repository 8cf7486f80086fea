-- What is asked of a cookie, which is seen as an entry: its domain and key, and its value.
use Rattle.std.specs.Prelude.{ℕ, Bool, ◌&&◌, List, bytes_eq}
use Rattle.std.specs.Ordering.{nat_cmp, is_lt}
use Rattle.std.specs.Cmp.Lexicographic.{slice_cmp}
use Rattle.std.specs.FinMap as finmap
use Rattle.ff_value.specs.declared.output.Pair.{Pair}
use Rattle.ff_machine.specs.Alone.{IsJar}
use Rattle.ff_machine.specs.Net.{cookie_cmp}
use Rattle.ff_records.specs.declared.records.CookieRec.{CookieRec}
use Rattle.ff_net.specs.Entries.{AreApart}

-- the cookie is the domain's
abbrev pub is_of : List ℕ → (List ℕ × List ℕ) × List ℕ → Bool
is_of domain cookie = bytes_eq cookie.0.0 domain

-- the cookie is the domain's with this key
abbrev pub is_at : List ℕ → List ℕ → (List ℕ × List ℕ) × List ℕ → Bool
is_at domain key cookie = is_of domain cookie && bytes_eq cookie.0.1 key

-- the pair's key is greater than this one
abbrev pub is_above : List ℕ → Pair → Bool
is_above key pair = is_lt (slice_cmp nat_cmp key pair.key)

-- rows of cookies, no two of one domain and key, that are valid together
pub record AreCookies (rows : List ((List ℕ × List ℕ) × List ℕ)) : Type 0 where
  pub apart : AreApart cookie_cmp rows
  pub valid : IsJar (finmap.from_entries rows)

-- the entry of a record
abbrev pub entry_of : CookieRec → (List ℕ × List ℕ) × List ℕ
entry_of rec = ((rec.domain, rec.key), rec.value)
