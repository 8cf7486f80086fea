-- Pending requests and their records.
use Rattle.std.proofs.Common.{◌≡◌, ◌≢◌, ℕ, ◌+◌, ◌<◌, ◌≤◌, Bool, true, false, cond, ◌&&◌, T, nat_lt, ltb-true, ltb-false, Option, Some, None, List, [], ◌∷◌, ◌++◌, flat_map, take, drop, length, get_or, sum_by, unwrap_or, refl, sym, ap, subst, ◌∙◌, arith, append_assoc, append-nil}
use Rattle.std.specs.declared.cmp.Ordering.{Ordering}
use Rattle.std.specs.declared.cmp.Ordering.TheVariants.{Less, Equal, Greater}
use Rattle.std.specs.List.{AllByRecursion}
use Rattle.std.specs.Ordering.{nat_cmp, is_eq, is_lt, eq_by_cmp, ordering_reverse}
use Rattle.std.specs.Cmp.{eq_by_cmp_equiv}
use Rattle.std.specs.Cmp.Lexicographic.{slice_cmp, nat_list_cmp_total}
use Rattle.std.specs.FinMap as finmap
use Rattle.std.specs.FinMap.Entries.{by_order, below_all}
use Rattle.std.proofs.lemmas.List.{length-append, length-map, map_push, length-take-le, take-append-drop, drop_more, take_more}
use Rattle.std.proofs.lemmas.List.Elements.{All-get_or, All-from_recursion, All-push, recursion_from_All}
use Rattle.std.proofs.lemmas.List.Sums.{sum_by-cons, sum_by-append}
use Rattle.std.proofs.lemmas.Map.Lookups.{exact_bytes}
use Rattle.ff_machine.specs.declared.records.Pending.{Pending}
use Rattle.ff_machine.specs.declared.limits.TheConstants.{MOST_ASKS, MOST_ASKS_OF_DOMAIN}
use Rattle.ff_machine.specs.Net.{Requests, asked, count_asks, has_ask_room, with_ask}
use Rattle.ff_machine.specs.Alone.{IsPending, AreAsked, AreRequests}
use Rattle.ff_laws.proofs.Sums.{sum_values}
use Rattle.ff_laws.proofs.Asking.{set_valid, asked_each}
use Rattle.ff_name.specs.Spelling.{IsDomain}
use Rattle.std.proofs.lemmas.Bool.{and_parts}
use Rattle.ff_records.specs.Records.{asks_of, ask_recs}
use Rattle.ff_records.specs.declared.records.AskRec.{AskRec}
use Rattle.ff_net.specs.Asks.{Climb, NotBefore}
use Rattle.ff_records.proofs.Rising.{found_behind, rising_before}
use Rattle.ff_net.proofs.Climbing.{climb_before}

abbrev pub Row : Type 0
Row = List ℕ × List Pending

-- the records of rows
abbrev pub flat : List Row → List AskRec
flat es = flat_map asks_of es

first_of : (a b : Bool) → T (a && b) → T a
first_of true b h = tt
first_of false b h = absurd h

second_of : (a b : Bool) → T (a && b) → T b
second_of true b h = h
second_of false b h = absurd h

less_of : (r : Ordering) → T (is_lt r) → r ≡ Less
less_of Less h = refl
less_of Equal h = absurd h
less_of Greater h = absurd h

no_less : (r : Ordering) → is_lt r ≡ false → r ≡ Less → ⊥
no_less r e less = subst T e (subst (λ s. T (is_lt s)) (sym less) tt)

-- one row more
pub flat_more : (es : List Row) (e : Row) → flat (es ++ e ∷ []) ≡ flat es ++ asks_of e
flat_more [] e = append-nil (asks_of e)
flat_more (x ∷ es) e = ap (λ (rs : List AskRec). asks_of x ++ rs) (flat_more es e) ∙ sym (append_assoc (asks_of x) (flat es) (asks_of e))

-- what holds of each row that is found holds of each row
each_row : (P : Row → Type 0) (ps es : List Row) → T (finmap.is_sorted (slice_cmp nat_cmp) (ps ++ es)) → ((k : List ℕ) (v : List Pending) → finmap.find (slice_cmp nat_cmp) k (ps ++ es) ≡ Some v → P (k, v)) → AllByRecursion P es
each_row P ps [] sorted h = tt
each_row P ps (e ∷ es) sorted h =
    let same : (ps ++ e ∷ []) ++ es ≡ ps ++ e ∷ es = append_assoc ps (e ∷ []) es in (
      h e.0 e.1 (found_behind nat_list_cmp_total e.0 e.1 ps es (rising_before nat_list_cmp_total ps e es sorted)),
      each_row P (ps ++ e ∷ []) es (subst (λ rows. T (finmap.is_sorted (slice_cmp nat_cmp) rows)) (sym same) sorted)
          (λ k v found. h k v (sym (ap (finmap.find (slice_cmp nat_cmp) k) same) ∙ found)),
    )

-- the rows of valid requests
pub rows_valid : (v : Requests) → AreRequests v → AllByRecursion (λ e. AreAsked e.0 e.1) (finmap.entries v)
rows_valid v are = each_row (λ e. AreAsked e.0 e.1) [] (finmap.entries v) (finmap.entries_sorted v) (λ k ps found. are.each k ps (finmap.get-entries v k ∙ found))

-- what holds of a row with each of its requests holds of the records
row_recs : (P : AskRec → Type 0) (d : List ℕ) (ps : List Pending) (rest : List AskRec) → AllByRecursion (λ p. P (record { domain = d; pending = p })) ps → AllByRecursion P rest → AllByRecursion P (asks_of (d, ps) ++ rest)
row_recs P d [] rest h more = more
row_recs P d (p ∷ ps) rest h more = (h.0, row_recs P d ps rest h.1 more)

recs_pending : (es : List Row) → AllByRecursion (λ e. AreAsked e.0 e.1) es → AllByRecursion (λ r. IsPending r.pending) (flat es)
recs_pending [] h = tt
recs_pending (e ∷ es) h = row_recs (λ r. IsPending r.pending) e.0 e.1 (flat es) (recursion_from_All IsPending e.1 h.0.each) (recs_pending es h.1)

-- each row is that of one of the records
first_rec : (P : AskRec → Type 0) (d : List ℕ) (ps : List Pending) (rest : List AskRec) → ps ≢ [] → AllByRecursion P (asks_of (d, ps) ++ rest) → (p : Pending) × P (record { domain = d; pending = p })
first_rec P d [] rest some h = absurd (some refl)
first_rec P d (p ∷ ps) rest some h = (p, h.0)

rest_recs : (P : AskRec → Type 0) (d : List ℕ) (ps : List Pending) (rest : List AskRec) → AllByRecursion P (asks_of (d, ps) ++ rest) → AllByRecursion P rest
rest_recs P d [] rest h = h
rest_recs P d (p ∷ ps) rest h = rest_recs P d ps rest h.1

rows_by_recs : (Q : List ℕ → Type 0) (es : List Row) → AllByRecursion (λ e. AreAsked e.0 e.1) es → AllByRecursion (λ r. Q r.domain) (flat es) → AllByRecursion (λ e. Q e.0) es
rows_by_recs Q [] are h = tt
rows_by_recs Q (e ∷ es) are h = ((first_rec (λ r. Q r.domain) e.0 e.1 (flat es) are.0.some h).1, rows_by_recs Q es are.1 (rest_recs (λ r. Q r.domain) e.0 e.1 (flat es) h))

some_pushed : (ps : List Pending) (p : Pending) → ps ++ p ∷ [] ≢ []
some_pushed [] p e = cc
some_pushed (q ∷ ps) p e = cc

is_equal : (r : Ordering) → is_eq r ≡ true → r ≡ Equal
is_equal Less e = cc
is_equal Equal e = refl
is_equal Greater e = cc

-- records of rows climb
later_row : (d k : List ℕ) (ps : List Pending) (rest : List AskRec) → is_lt (slice_cmp nat_cmp k d) ≡ false → AllByRecursion (NotBefore d) rest → AllByRecursion (NotBefore d) (asks_of (k, ps) ++ rest)
later_row d k [] rest e h = h
later_row d k (p ∷ ps) rest e h = (e, later_row d k ps rest e h)

not_less_above : (d k : List ℕ) → T (is_lt (slice_cmp nat_cmp d k)) → is_lt (slice_cmp nat_cmp k d) ≡ false
not_less_above d k less = ap is_lt (nat_list_cmp_total.antisymm k d ∙ ap ordering_reverse (less_of (slice_cmp nat_cmp d k) less))

later_rows : (d : List ℕ) (es : List Row) → T (below_all (slice_cmp nat_cmp) d es) → AllByRecursion (NotBefore d) (flat es)
later_rows d [] below = tt
later_rows d (e ∷ es) below = later_row d e.0 e.1 (flat es) (not_less_above d e.0 (first_of _ _ below)) (later_rows d es (second_of _ _ below))

same_not_less : (d : List ℕ) → is_lt (slice_cmp nat_cmp d d) ≡ false
same_not_less d = ap is_lt (is_equal _ ((eq_by_cmp_equiv nat_list_cmp_total).refl d))

row_climbs : (d : List ℕ) (ps : List Pending) (rest : List AskRec) → AllByRecursion (NotBefore d) rest → Climb rest → Climb (asks_of (d, ps) ++ rest)
row_climbs d [] rest after climb = climb
row_climbs d (p ∷ ps) rest after climb = (later_row d d ps rest (same_not_less d) after, row_climbs d ps rest after climb)

rows_climb : (es : List Row) → T (finmap.is_sorted (slice_cmp nat_cmp) es) → Climb (flat es)
rows_climb [] sorted = tt
rows_climb (e ∷ es) sorted = row_climbs e.0 e.1 (flat es) (later_rows e.0 es (first_of _ _ sorted)) (rows_climb es (second_of _ _ sorted))

-- a request more behind all others
abbrev NotAbove : List ℕ → Row → Type 0
NotAbove d e = is_lt (slice_cmp nat_cmp d e.0) ≡ false

pub put_behind : (d : List ℕ) (p : Pending) (es : List Row) → T (finmap.is_sorted (slice_cmp nat_cmp) es) → AllByRecursion (NotAbove d) es
    → flat (finmap.put (slice_cmp nat_cmp) d (unwrap_or (finmap.find (slice_cmp nat_cmp) d es) [] ++ p ∷ []) es) ≡ flat es ++ record { domain = d; pending = p } ∷ []
put_behind d p [] sorted h = refl
put_behind d p (e ∷ es) sorted h =
    by (slice_cmp nat_cmp d e.0) refl (put_behind d p es (second_of _ _ sorted) h.1)
  where
    none_after : (fs : List Row) → d ≡ e.0 → T (below_all (slice_cmp nat_cmp) e.0 fs) → AllByRecursion (NotAbove d) fs → fs ≡ []
    none_after [] same below all = refl
    none_after (f ∷ fs) same below all = absurd (no_less (slice_cmp nat_cmp d f.0) all.0 (ap (λ k. slice_cmp nat_cmp k f.0) same ∙ less_of _ (first_of _ _ below)))

    at_last : (fs : List Row) → d ≡ e.0 → fs ≡ [] → flat ((e.0, e.1 ++ p ∷ []) ∷ fs) ≡ flat (e ∷ fs) ++ record { domain = d; pending = p } ∷ []
    at_last fs same none =
        ap (λ (gs : List Row). asks_of (e.0, e.1 ++ p ∷ []) ++ flat gs) none
        ∙ append-nil (asks_of (e.0, e.1 ++ p ∷ []))
        ∙ map_push (λ (q : Pending). let r : AskRec = record { domain = e.0; pending = q } in r) e.1 p
        ∙ ap (λ (k : List ℕ). asks_of e ++ record { domain = k; pending = p } ∷ []) (sym same)
        ∙ sym (ap (λ (rs : List AskRec). rs ++ record { domain = d; pending = p } ∷ []) (ap (λ (gs : List Row). asks_of e ++ flat gs) none ∙ append-nil (asks_of e)))

    by : (r : Ordering) → slice_cmp nat_cmp d e.0 ≡ r
        → flat (finmap.put (slice_cmp nat_cmp) d (unwrap_or (finmap.find (slice_cmp nat_cmp) d es) [] ++ p ∷ []) es) ≡ flat es ++ record { domain = d; pending = p } ∷ []
        → flat (by_order r ((d, unwrap_or (cond (is_eq r) (Some e.1) (finmap.find (slice_cmp nat_cmp) d es)) [] ++ p ∷ []) ∷ e ∷ es)
        ((e.0, unwrap_or (cond (is_eq r) (Some e.1) (finmap.find (slice_cmp nat_cmp) d es)) [] ++ p ∷ []) ∷ es)
        (e ∷ finmap.put (slice_cmp nat_cmp) d (unwrap_or (cond (is_eq r) (Some e.1) (finmap.find (slice_cmp nat_cmp) d es)) [] ++ p ∷ []) es))
        ≡ flat (e ∷ es) ++ record { domain = d; pending = p } ∷ []
    by Less less rest = absurd (no_less (slice_cmp nat_cmp d e.0) h.0 less)
    by Equal same rest = let key = exact_bytes d e.0 same in at_last es key (none_after es key (first_of _ _ sorted) h.1)
    by Greater greater rest = ap (λ (rs : List AskRec). asks_of e ++ rs) rest ∙ sym (append_assoc (asks_of e) (flat es) (record { domain = d; pending = p } ∷ []))

-- Counts.

-- whether a record is of the domain, as a number
abbrev is_of : List ℕ → AskRec → ℕ
is_of d r = cond (eq_by_cmp (slice_cmp nat_cmp) d r.domain) 1 0

count_row : (d k : List ℕ) (ps : List Pending) (b : Bool) → eq_by_cmp (slice_cmp nat_cmp) d k ≡ b → sum_by (is_of d) (asks_of (k, ps)) ≡ cond b (length ps) 0
count_row d k [] true e = refl
count_row d k [] false e = refl
count_row d k (p ∷ ps) true e = omega (arith, sum_by-cons (is_of d) (record { domain = k; pending = p }) (asks_of (k, ps)), ap {B = ℕ} (λ b. cond b 1 0) e, count_row d k ps true e)
count_row d k (p ∷ ps) false e = omega (arith, sum_by-cons (is_of d) (record { domain = k; pending = p }) (asks_of (k, ps)), ap {B = ℕ} (λ b. cond b 1 0) e, count_row d k ps false e)

none_found : (d : List ℕ) (es : List Row) → T (below_all (slice_cmp nat_cmp) d es) → finmap.find (slice_cmp nat_cmp) d es ≡ None
none_found d [] below = refl
none_found d (e ∷ es) below = ap (λ r. cond (is_eq r) (Some e.1) (finmap.find (slice_cmp nat_cmp) d es)) (less_of _ (first_of _ _ below)) ∙ none_found d es (second_of _ _ below)

count_rows_of : (d : List ℕ) (es : List Row) → T (finmap.is_sorted (slice_cmp nat_cmp) es) → sum_by (is_of d) (flat es) ≡ length (unwrap_or (finmap.find (slice_cmp nat_cmp) d es) [])
count_rows_of d [] sorted = refl
count_rows_of d (e ∷ es) sorted =
    let rest = count_rows_of d es (second_of _ _ sorted) in
    sum_by-append (is_of d) (asks_of e) (flat es) ∙ by (eq_by_cmp (slice_cmp nat_cmp) d e.0) refl rest
  where
    none : eq_by_cmp (slice_cmp nat_cmp) d e.0 ≡ true → finmap.find (slice_cmp nat_cmp) d es ≡ None
    none same =
        let key = exact_bytes d e.0 (is_equal _ same) in
        none_found d es (subst (λ k. T (below_all (slice_cmp nat_cmp) k es)) (sym key) (first_of _ _ sorted))

    by : (b : Bool) → eq_by_cmp (slice_cmp nat_cmp) d e.0 ≡ b → sum_by (is_of d) (flat es) ≡ length (unwrap_or (finmap.find (slice_cmp nat_cmp) d es) [])
        → sum_by (is_of d) (asks_of e) + sum_by (is_of d) (flat es) ≡ length (unwrap_or (cond b (Some e.1) (finmap.find (slice_cmp nat_cmp) d es)) [])
    by true same rest = omega (arith, count_row d e.0 e.1 true same, rest, ap (λ (o : Option (List Pending)). length (unwrap_or o [])) (none same))
    by false other rest = omega (arith, count_row d e.0 e.1 false other, rest)

count_flat : (es : List Row) → length (flat es) ≡ sum_by (λ (e : Row). length e.1) es
count_flat [] = refl
count_flat (e ∷ es) =
    omega (arith, length-append (asks_of e) (flat es), length-map e.1 (λ (q : Pending). let r : AskRec = record { domain = e.0; pending = q } in r), count_flat es, sum_by-cons (λ (e : Row). length e.1) e es)

-- how many requests a domain has, and all together
asked_is : (v : Requests) (d : List ℕ) → length (asked v d) ≡ sum_by (is_of d) (ask_recs v)
asked_is v d = ap (λ (o : Option (List Pending)). length (unwrap_or o [])) (finmap.get-entries v d) ∙ sym (count_rows_of d (finmap.entries v) (finmap.entries_sorted v))

total_is : (v : Requests) → count_asks v ≡ length (ask_recs v)
total_is v = sum_values length (finmap.entries v) ∙ sym (count_flat (finmap.entries v))

few_asked : (v : Requests) (d : List ℕ) → AreRequests v → (o : Option (List Pending)) → finmap.get v d ≡ o → length (unwrap_or o []) ≤ MOST_ASKS_OF_DOMAIN
few_asked v d are None e = omega arith
few_asked v d are (Some ps) e = (are.each d ps e).few

is_less : (a b : ℕ) → a < b → nat_lt a b ≡ true
is_less a b less = elim (nat_lt a b) as (λ c. nat_lt a b ≡ c → c ≡ true) [
  | true ↦ λ e. refl
  | false ↦ λ e. absurd (omega (arith, less, ltb-false a b e))
] refl

both_true : (a b : Bool) → a ≡ true → b ≡ true → (a && b) ≡ true
both_true a b e f = rw (e, f) refl

at_place : (P : AskRec → Type 0) (rs : List AskRec) (n : ℕ) (x : AskRec) → n < length rs → x ≡ get_or rs n x → AllByRecursion P rs → P x
at_place P rs n x within is all = subst P (sym is) (All-get_or P rs n x within (All-from_recursion P rs all))

module _ (rs : List AskRec) (i : ℕ) (x : AskRec) (within : i < length rs) (is : x ≡ get_or rs i x) where
  whole : rs ≡ take i rs ++ x ∷ drop (i + 1) rs
  whole = sym (take-append-drop i rs) ∙ ap (λ ys. take i rs ++ ys) (drop_more rs i x within) ∙ ap (λ y. take i rs ++ y ∷ drop (i + 1) rs) (sym is)

  -- where valid requests have these records, each is a pending request
  pub is_pending : (v : Requests) → AreRequests v → ask_recs v ≡ rs → IsPending x.pending
  is_pending v are has = at_place (λ r. IsPending r.pending) rs i x within is (subst (AllByRecursion (λ r. IsPending r.pending)) has (recs_pending (finmap.entries v) (rows_valid v are)))

  -- and there is room for it
  pub has_room : (v requests : Requests) → AreRequests v → ask_recs v ≡ rs → ask_recs requests ≡ take i rs → has_ask_room requests x.domain ≡ true
  has_room v requests are has so_far =
      let f = is_of x.domain in
      let itself : f x ≡ 1 = ap {B = ℕ} (λ b. cond b 1 0) ((eq_by_cmp_equiv nat_list_cmp_total).refl x.domain) in
      let parts : sum_by f rs ≡ sum_by f (take i rs) + (f x + sum_by f (drop (i + 1) rs)) =
      ap (sum_by f) whole ∙ sum_by-append f (take i rs) (x ∷ drop (i + 1) rs) ∙ ap (λ n. sum_by f (take i rs) + n) (sum_by-cons f x (drop (i + 1) rs)) in
      let of_v = asked_is v x.domain ∙ ap (sum_by f) has in
      let of_it = asked_is requests x.domain ∙ ap (sum_by f) so_far in
      let few = few_asked v x.domain are (finmap.get v x.domain) refl in
      let all_v = total_is v ∙ ap length has in
      let all_it = total_is requests ∙ ap length so_far ∙ length-take-le i rs (omega (arith, within)) in
      both_true _ _ (is_less (length (asked requests x.domain)) MOST_ASKS_OF_DOMAIN (omega (arith, itself, parts, of_v, of_it, few))) (is_less (count_asks requests) MOST_ASKS (omega (arith, all_v, all_it, within, are.few)))

  -- a request more
  pub one_ask_more : (requests after : Requests) → AreRequests requests → Climb rs → ask_recs requests ≡ take i rs → after ≡ with_ask requests x.domain x.pending → ask_recs after ≡ take (i + 1) rs
  one_ask_more requests after are climb so_far e =
      let before = climb_before rs i x within is climb in
      let rows = rows_by_recs (λ k. is_lt (slice_cmp nat_cmp x.domain k) ≡ false) (finmap.entries requests) (rows_valid requests are) (subst (AllByRecursion (λ r. is_lt (slice_cmp nat_cmp x.domain r.domain) ≡ false)) (sym so_far) before) in
      ap ask_recs e
      ∙ ap flat (finmap.entries-insert nat_list_cmp_total requests x.domain (asked requests x.domain ++ x.pending ∷ []))
      ∙ ap (λ (o : Option (List Pending)). flat (finmap.put (slice_cmp nat_cmp) x.domain (unwrap_or o [] ++ x.pending ∷ []) (finmap.entries requests))) (finmap.get-entries requests x.domain)
      ∙ put_behind x.domain x.pending (finmap.entries requests) (finmap.entries_sorted requests) rows
      ∙ ap (λ (rs : List AskRec). rs ++ x ∷ []) so_far
      ∙ ap (λ (y : AskRec). take i rs ++ y ∷ []) is
      ∙ sym (take_more rs i x within)

-- and it is valid
pub ask_valid : (requests : Requests) (domain : List ℕ) (p : Pending) → AreRequests requests → IsDomain domain → IsPending p → has_ask_room requests domain ≡ true → AreRequests (with_ask requests domain p)
ask_valid requests domain p are is_domain is room =
    let asks = asked requests domain in
    let may = and_parts _ _ room in
    let few_of : length asks < MOST_ASKS_OF_DOMAIN = ltb-true (length asks) MOST_ASKS_OF_DOMAIN may.0 in
    let few : count_asks requests < MOST_ASKS = ltb-true (count_asks requests) MOST_ASKS may.1 in
    let size : length (asks ++ p ∷ []) ≡ length asks + 1 = length-append asks (p ∷ []) in
    let now : AreAsked domain (asks ++ p ∷ []) = record {
      domain_is = is_domain;
      some = some_pushed asks p;
      each = All-push IsPending asks p (asked_each requests domain (finmap.get requests domain) refl are) is;
      few = omega (arith, size, few_of);
    } in
    set_valid requests domain (asks ++ p ∷ []) are now (omega (arith, size, few))

-- the records of requests climb
pub requests_climb : (v : Requests) (rs : List AskRec) → AreRequests v → ask_recs v ≡ rs → Climb rs
requests_climb v rs are has = subst Climb has (rows_climb (finmap.entries v) (finmap.entries_sorted v))
