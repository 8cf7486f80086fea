-- The order of domains, what the rows of requests say, and what one change of them does.
use Rattle.std.proofs.Common.{◌≡◌, ℕ, ◌+◌, ◌<◌, ◌≤◌, Bool, true, false, ◌&&◌, nat_lt, Option, Some, unwrap_or, List, [], ◌∷◌, ◌++◌, length, get_or, set, refl, sym, ap, subst, ◌∙◌, arith}
use Rattle.std.specs.Ordering.{nat_cmp}
use Rattle.std.specs.Cmp.{eq_by_cmp_equiv}
use Rattle.std.specs.Cmp.Lexicographic.{slice_cmp, nat_list_cmp_total}
use Rattle.std.specs.List.{slice_get, swap_remove, position_or_len}
use Rattle.std.specs.FinMap as finmap
use Rattle.std.proofs.lemmas.Bool.Decides.{nat_tests}
use Rattle.std.proofs.lemmas.Option.{slice_get_within, get_or_from_slice_get}
use Rattle.std.proofs.lemmas.List.Folds.{fold-map}
use Rattle.std.proofs.lemmas.List.Sums.{sum_by-cons, sum_by-set, sum_by_push}
use Rattle.std.proofs.lemmas.List.Sorted.{IsPermutation-swap_remove, sum_by-IsPermutation}
use Rattle.std.proofs.lemmas.Map.Lookups.{exact_bytes}
use Rattle.std.proofs.lemmas.Map.Text.{is_eq-slice_cmp}
use Rattle.ff_machine.specs.declared.records.Pending.{Pending}
use Rattle.ff_machine.specs.declared.limits.TheConstants.{MOST_ASKS, MOST_ASKS_OF_DOMAIN}
use Rattle.ff_machine.specs.Net.{Requests, asked, count_asks, has_ask_room, with_asked}
use Rattle.ff_net.specs.Asks.{is_to, count_rows, AreCounted}
use Rattle.ff_net.specs.Entries.{AreApart}
use Rattle.ff_net.proofs.Finding.{sum_entries}
use Rattle.ff_net.proofs.Keyed.{IsPlace, value_there, no_value, nothing_removed, apart_more, put_more, apart_over, put_over, apart_out, taken_out}

-- the requests to one domain as an entry
abbrev pub Row : Type 0
Row = List ℕ × List Pending

-- only equal domains tie
domain_exact : finmap.IsAntisymmetric (slice_cmp nat_cmp)
domain_exact = exact_bytes

-- the requests of a domain that is given some, or none
pub given_some : (m : Requests) (domain : List ℕ) (ps : List Pending) → 0 < length ps → finmap.insert m domain ps ≡ with_asked m domain ps
given_some m domain [] h = absurd (omega arith)
given_some m domain (p ∷ ps) h = refl

pub given_none : (m : Requests) (domain : List ℕ) (ps : List Pending) → length ps ≡ 0 → finmap.remove m domain ≡ with_asked m domain ps
given_none m domain [] h = refl
given_none m domain (p ∷ ps) h = absurd (omega arith)

-- how many requests are pending in all
counted_asks : (rows : List Row) → AreApart (slice_cmp nat_cmp) rows → count_asks (finmap.from_entries rows) ≡ count_rows rows
counted_asks rows apart =
    fold-map (λ (n : ℕ) (ps : List Pending). n + length ps) (λ (e : Row). e.1) 0 (finmap.entries (finmap.from_entries {R = slice_cmp nat_cmp} rows))
    ∙ sum_entries nat_list_cmp_total (λ (e : Row). length e.1) rows apart

-- there is room by the counts
pub room_for : (rows : List Row) (total : ℕ) (domain : List ℕ) → AreCounted rows total → has_ask_room (finmap.from_entries rows) domain ≡ (nat_lt (length (asked (finmap.from_entries rows) domain)) MOST_ASKS_OF_DOMAIN && nat_lt total MOST_ASKS)
room_for rows total domain c = ap (λ n. nat_lt (length (asked (finmap.from_entries rows) domain)) MOST_ASKS_OF_DOMAIN && nat_lt n MOST_ASKS) (counted_asks rows c.apart ∙ sym c.counted)

module _ (domain : List ℕ) (rows : List Row) (i : ℕ) (first : i ≡ position_or_len (is_to domain) rows) where
  at_row : IsPlace (slice_cmp nat_cmp) rows domain i
  at_row = record {
    test = is_to domain;
    tests = λ e. sym (is_eq-slice_cmp e.0 domain) ∙ (eq_by_cmp_equiv nat_list_cmp_total).symm e.0 domain;
    first = first;
  }

  -- a domain without a row has no requests
  pub asked_past : length rows ≤ i → asked (finmap.from_entries rows) domain ≡ []
  asked_past past = ap (λ (o : Option (List Pending)). unwrap_or o []) (no_value nat_list_cmp_total domain_exact rows domain i at_row past)

  module _ (x : Row) (is : slice_get rows i ≡ Some x) where
    -- a domain's row has its requests
    pub asked_at : asked (finmap.from_entries rows) domain ≡ x.1
    asked_at = ap (λ (o : Option (List Pending)). unwrap_or o []) (value_there nat_list_cmp_total domain_exact rows domain i at_row x is)

    within : i < length rows
    within = slice_get_within rows i x is

    here : get_or rows i x ≡ x
    here = get_or_from_slice_get rows i x x is

    module _ (apart : AreApart (slice_cmp nat_cmp) rows) (new : List Row) where
      -- the row is written
      module _ (ps : List Pending) (written : new ≡ set rows i (domain, ps)) where
        pub apart_written : AreApart (slice_cmp nat_cmp) new
        apart_written = subst (AreApart (slice_cmp nat_cmp)) (sym written) (apart_over nat_list_cmp_total domain_exact rows domain i at_row apart x within ps)

        pub given_written : 0 < length ps → finmap.from_entries new ≡ with_asked (finmap.from_entries rows) domain ps
        given_written some =
            ap (finmap.from_entries {R = slice_cmp nat_cmp}) written
            ∙ put_over nat_list_cmp_total domain_exact rows domain i at_row apart x within ps
            ∙ given_some (finmap.from_entries rows) domain ps some

        pub count_written : count_rows new + length (asked (finmap.from_entries rows) domain) ≡ count_rows rows + length ps
        count_written =
            let f = λ (e : Row). length e.1 in
            let old : f (get_or rows i x) ≡ length (asked (finmap.from_entries rows) domain) = ap f here ∙ ap length (sym asked_at) in
            omega (arith, sum_by-set f rows i (domain, ps) x within, old, ap count_rows written)

      -- the row is taken out
      module _ (ps : List Pending) (none : length ps ≡ 0) (removed : (e : Row) → new ≡ swap_remove rows i e) where
        pub apart_dropped : AreApart (slice_cmp nat_cmp) new
        apart_dropped = apart_out nat_list_cmp_total domain_exact rows domain i at_row apart x within new removed

        pub given_dropped : finmap.from_entries new ≡ with_asked (finmap.from_entries rows) domain ps
        given_dropped =
            taken_out nat_list_cmp_total domain_exact rows domain i at_row apart x within new removed
            ∙ given_none (finmap.from_entries rows) domain ps none

        pub count_dropped : count_rows new + length (asked (finmap.from_entries rows) domain) ≡ count_rows rows + length ps
        count_dropped =
            let f = λ (e : Row). length e.1 in
            let moved = sum_by-IsPermutation f rows (x ∷ swap_remove rows i x) (IsPermutation-swap_remove rows i x within (sym here)) in
            omega (arith, moved, sum_by-cons f x (swap_remove rows i x), ap length asked_at, ap count_rows (removed x), none)

  module _ (apart : AreApart (slice_cmp nat_cmp) rows) (past : length rows ≤ i) where
    -- nothing is given to a domain without a row
    pub given_nothing : (ps : List Pending) → length ps ≡ 0 → finmap.from_entries rows ≡ with_asked (finmap.from_entries rows) domain ps
    given_nothing ps none =
        nothing_removed nat_list_cmp_total domain_exact rows domain i at_row past
        ∙ given_none (finmap.from_entries rows) domain ps none

    -- a row more
    module _ (new : List Row) (ps : List Pending) (added : new ≡ rows ++ (domain, ps) ∷ []) where
      pub apart_added : AreApart (slice_cmp nat_cmp) new
      apart_added = subst (AreApart (slice_cmp nat_cmp)) (sym added) (apart_more nat_list_cmp_total domain_exact rows domain i at_row apart past ps)

      pub given_added : 0 < length ps → finmap.from_entries new ≡ with_asked (finmap.from_entries rows) domain ps
      given_added some =
          ap (finmap.from_entries {R = slice_cmp nat_cmp}) added
          ∙ put_more nat_list_cmp_total domain_exact rows domain i at_row apart past ps
          ∙ given_some (finmap.from_entries rows) domain ps some

      pub count_added : count_rows new + length (asked (finmap.from_entries rows) domain) ≡ count_rows rows + length ps
      count_added = omega (arith, sum_by_push (λ (e : Row). length e.1) rows (domain, ps), ap length (asked_past past), ap count_rows added)

both_true : (a b : Bool) → (a && b) ≡ true → b ≡ true
both_true true b h = h
both_true false b h = cc

-- where there is room, fewer than the most are pending
pub fewer_than_most : (rows : List Row) (total : ℕ) (domain : List ℕ) → AreCounted rows total → has_ask_room (finmap.from_entries rows) domain ≡ true → total < MOST_ASKS
fewer_than_most rows total domain c room =
    let below : nat_lt total MOST_ASKS ≡ true = both_true (nat_lt (length (asked (finmap.from_entries rows) domain)) MOST_ASKS_OF_DOMAIN) (nat_lt total MOST_ASKS) (sym (room_for rows total domain c) ∙ room) in
    grind (arith, nat_tests)
