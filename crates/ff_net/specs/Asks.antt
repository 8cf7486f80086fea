-- What is asked of the pending requests of one domain, which are seen as an entry.
use Rattle.std.specs.Prelude.{◌≡◌, ◌≤◌, ℕ, Bool, false, List, [], ◌∷◌, length, sum_by, bytes_eq}
use Rattle.std.specs.List.{AllByRecursion}
use Rattle.std.specs.Ordering.{nat_cmp, is_lt}
use Rattle.std.specs.Cmp.Lexicographic.{slice_cmp}
use Rattle.std.specs.FinMap as finmap
use Rattle.ff_machine.specs.Alone.{AreRequests}
use Rattle.ff_machine.specs.declared.records.Pending.{Pending}
use Rattle.ff_machine.specs.declared.limits.TheConstants.{MOST_ASKS}
use Rattle.ff_records.specs.declared.records.AskRec.{AskRec}
use Rattle.ff_net.specs.Entries.{AreApart}

-- they are requests to the domain
abbrev pub is_to : List ℕ → List ℕ × List Pending → Bool
is_to domain asked = bytes_eq asked.0 domain

-- how many requests they are together
abbrev pub count_rows : List (List ℕ × List Pending) → ℕ
count_rows rows = sum_by (λ e. length e.1) rows

-- rows of valid requests, no two to one domain, and how many requests they are
pub record AreCounted (rows : List (List ℕ × List Pending)) (total : ℕ) : Type 0 where
  pub apart : AreApart (slice_cmp nat_cmp) rows
  pub counted : total ≡ count_rows rows
  pub few : total ≤ MOST_ASKS
  pub valid : AreRequests (finmap.from_entries rows)

-- a domain that comes no earlier than another one
abbrev pub NotBefore : List ℕ → AskRec → Type 0
NotBefore domain rec = is_lt (slice_cmp nat_cmp rec.domain domain) ≡ false

-- the domains of records never fall
abbrev pub Climb : List AskRec → Type 0
Climb [] = Unit {0}
Climb (rec ∷ recs) = AllByRecursion (NotBefore rec.domain) recs × Climb recs
