-- Pending requests with equal records are equal.
use Rattle.std.proofs.Common.{◌≡◌, ◌≢◌, ℕ, Bool, true, false, cond, ◌&&◌, T, bytes_eq, List, [], ◌∷◌, ◌++◌, length, filter, flat_map, get_or, refl, sym, ap, ap₂, subst, ◌∙◌, arith, append-nil}
use Rattle.std.specs.declared.cmp.Ordering.{Ordering}
use Rattle.std.specs.declared.cmp.Ordering.TheVariants.{Less, Equal, Greater}
use Rattle.std.specs.List.{AllByRecursion}
use Rattle.std.specs.Ordering.{nat_cmp, is_lt, is_eq}
use Rattle.std.specs.Cmp.{eq_by_cmp_equiv}
use Rattle.std.specs.Cmp.Lexicographic.{slice_cmp, nat_list_cmp_total}
use Rattle.std.specs.FinMap as finmap
use Rattle.std.specs.FinMap.Entries.{below_all}
use Rattle.std.proofs.lemmas.List.{append_cancel_left}
use Rattle.std.proofs.lemmas.List.Elements.{filter-append}
use Rattle.std.proofs.lemmas.Slice.Eq.{bytes_eq-Decides}
use Rattle.ff_machine.specs.declared.records.Pending.{Pending}
use Rattle.ff_machine.specs.Net.{Requests}
use Rattle.ff_machine.specs.Alone.{AreAsked, AreRequests}
use Rattle.ff_records.specs.Records.{asks_of, ask_recs}
use Rattle.ff_records.specs.declared.records.AskRec.{AskRec}
use Rattle.ff_net.proofs.AskLists.{rows_valid}
use Rattle.ff_save.proofs.Mapped.{same_maps}

-- the pending requests of a domain
abbrev Row : Type 0
Row = List ℕ × List Pending

abbrev flat : List Row → List AskRec
flat es = flat_map asks_of es

first_of : (a b : Bool) → T (a && b) → T a
first_of true b h = tt
first_of false b h = absurd h

second_of : (a b : Bool) → T (a && b) → T b
second_of true b h = h
second_of false b h = absurd h

-- whether a record is of this domain
abbrev is_of : List ℕ → AskRec → Bool
is_of d r = bytes_eq r.domain d

not_less : (r : Ordering) → is_eq r ≡ true → T (is_lt r) → ⊥
not_less Less e h = cc
not_less Equal e h = absurd h
not_less Greater e h = absurd h

same_is : (d : List ℕ) → bytes_eq d d ≡ true
same_is d = (bytes_eq-Decides d d).1 refl

less_differs : (d k : List ℕ) → T (is_lt (slice_cmp nat_cmp d k)) → bytes_eq k d ≡ false
less_differs d k less = from (bytes_eq k d) refl
  where
    from : (b : Bool) → bytes_eq k d ≡ b → b ≡ false
    from true e =
        let same : k ≡ d = (bytes_eq-Decides k d).0 e in
        let itself : T (is_lt (slice_cmp nat_cmp d d)) = subst (λ x. T (is_lt (slice_cmp nat_cmp d x))) same less in
        absurd (not_less (slice_cmp nat_cmp d d) ((eq_by_cmp_equiv nat_list_cmp_total).refl d) itself)
    from false e = refl

-- all records of a row are of its domain, and none of the rows after it is
all_of : (d : List ℕ) (ps : List Pending) → filter (is_of d) (asks_of (d, ps)) ≡ asks_of (d, ps)
all_of d [] = refl
all_of d (p ∷ ps) =
    ap (λ b. cond b (record { domain = d; pending = p } ∷ filter (is_of d) (asks_of (d, ps))) (filter (is_of d) (asks_of (d, ps)))) (same_is d)
    ∙ ap (λ (rs : List AskRec). record { domain = d; pending = p } ∷ rs) (all_of d ps)

none_of : (d k : List ℕ) (ps : List Pending) → bytes_eq k d ≡ false → filter (is_of d) (asks_of (k, ps)) ≡ []
none_of d k [] e = refl
none_of d k (p ∷ ps) e =
    ap (λ b. cond b (record { domain = k; pending = p } ∷ filter (is_of d) (asks_of (k, ps))) (filter (is_of d) (asks_of (k, ps)))) e
    ∙ none_of d k ps e

none_after : (d : List ℕ) (es : List Row) → T (below_all (slice_cmp nat_cmp) d es) → filter (is_of d) (flat es) ≡ []
none_after d [] below = refl
none_after d (e ∷ es) below =
    filter-append (is_of d) (asks_of e) (flat es)
    ∙ ap₂ (λ (xs ys : List AskRec). xs ++ ys) (none_of d e.0 e.1 (less_differs d e.0 (first_of _ _ below))) (none_after d es (second_of _ _ below))

of_first : (d : List ℕ) (ps : List Pending) (es : List Row) → T (below_all (slice_cmp nat_cmp) d es) → filter (is_of d) (asks_of (d, ps) ++ flat es) ≡ asks_of (d, ps)
of_first d ps es below =
    filter-append (is_of d) (asks_of (d, ps)) (flat es)
    ∙ ap₂ (λ (xs ys : List AskRec). xs ++ ys) (all_of d ps) (none_after d es below)
    ∙ append-nil (asks_of (d, ps))

-- the first row has the domain of the first record
first_domain : (d k : List ℕ) (ps qs : List Pending) (rs ss : List AskRec) → ps ≢ [] → qs ≢ [] → asks_of (d, ps) ++ rs ≡ asks_of (k, qs) ++ ss → d ≡ k
first_domain d k [] qs rs ss some more e = absurd (some refl)
first_domain d k (p ∷ ps) [] rs ss some more e = absurd (more refl)
first_domain d k (p ∷ ps) (q ∷ qs) rs ss some more e = ap (λ (xs : List AskRec). (get_or xs 0 (record { domain = d; pending = p })).domain) e

no_records : (d : List ℕ) (ps : List Pending) (rs : List AskRec) → ps ≢ [] → [] ≡ asks_of (d, ps) ++ rs → ⊥
no_records d [] rs some e = some refl
no_records d (p ∷ ps) rs some e = absurd (omega (arith, ap length e))

same_rows : (es fs : List Row) → T (finmap.is_sorted (slice_cmp nat_cmp) es) → T (finmap.is_sorted (slice_cmp nat_cmp) fs)
    → AllByRecursion (λ e. AreAsked e.0 e.1) es → AllByRecursion (λ e. AreAsked e.0 e.1) fs → flat es ≡ flat fs → es ≡ fs
same_rows [] [] g h p q same = refl
same_rows [] (f ∷ fs) g h p q same = absurd (no_records f.0 f.1 (flat fs) q.0.some same)
same_rows (e ∷ es) [] g h p q same = absurd (no_records e.0 e.1 (flat es) p.0.some (sym same))
same_rows (e ∷ es) (f ∷ fs) g h p q same =
    let domain : e.0 ≡ f.0 = first_domain e.0 f.0 e.1 f.1 (flat es) (flat fs) p.0.some q.0.some same in
    let at : asks_of (e.0, e.1) ++ flat es ≡ asks_of (e.0, f.1) ++ flat fs = same ∙ ap (λ k. asks_of (k, f.1) ++ flat fs) (sym domain) in
    let below : T (below_all (slice_cmp nat_cmp) e.0 fs) = subst (λ k. T (below_all (slice_cmp nat_cmp) k fs)) (sym domain) (first_of _ _ h) in
    let asks : asks_of (e.0, e.1) ≡ asks_of (e.0, f.1) = sym (of_first e.0 e.1 es (first_of _ _ g)) ∙ ap (filter (is_of e.0)) at ∙ of_first e.0 f.1 fs below in
    let pending : e.1 ≡ f.1 = same_maps (λ p. record { domain = e.0; pending = p }) (λ x y same_rec. ap (λ (r : AskRec). r.pending) same_rec) e.1 f.1 asks in
    let rest : flat es ≡ flat fs = append_cancel_left (asks_of (e.0, e.1)) (flat es) (flat fs) (at ∙ ap (λ (xs : List AskRec). xs ++ flat fs) (sym asks)) in
    ap₂ (λ x xs. x ∷ xs) (ap₂ (λ d ps. (d, ps)) domain pending) (same_rows es fs (second_of _ _ g) (second_of _ _ h) p.1 q.1 rest)

pub same_requests : (a b : Requests) → AreRequests a → AreRequests b → ask_recs a ≡ ask_recs b → a ≡ b
same_requests a b is other same =
    finmap.same_entries_map a b (same_rows (finmap.entries a) (finmap.entries b) (finmap.entries_sorted a) (finmap.entries_sorted b) (rows_valid a is) (rows_valid b other) same)
