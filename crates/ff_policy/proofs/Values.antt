-- The values that a policy is printed through, one more at a time.
use Rattle.std.proofs.Common.{◌≡◌, ℕ, suc, ◌+◌, ◌<◌, ◌≤◌, List, [], ◌∷◌, ◌++◌, length, get_or, take, codes, map, flat_map, Vec, BTreeMap, String, Global, Less, Greater, nat_cmp, refl, sym, ap, ap₂, subst, ◌∙◌, arith, append_assoc, append-nil}
use Rattle.std.proofs.lemmas.Cmp.{nat_list_cmp_total}
use Rattle.std.proofs.lemmas.List.{map-append, take_more, take_all, length-take-le, get_or-take, get_or_read}
use Rattle.std.proofs.lemmas.List.Concat.{flat_map-append}
use Rattle.std.specs.Cmp.Lexicographic.{slice_cmp}
use Rattle.std.specs.Ordering.{match_ordering, ordering_reverse}
use Rattle.serde_json.specs.Data.{Data, string, number, unsigned, array, object, Members, no_members, member, put}
use Rattle.serde_json.specs.View.{view, items_of, members_view}
use Rattle.serde_json.specs.declared.value.Value.{Value, Array, Object}
use Rattle.serde_json.proofs.Views.{view-Array, view-Object}
use Rattle.ff_lattice.specs.declared.pair.Pair.{Pair}
use Rattle.ff_lattice.specs.LevelSet.{below}
use Rattle.ff_lattice.specs.Order.{Order, size, name}
use Rattle.ff_policy.specs.Assignment.{Key, Kinds, Assignment, key_at, AreKeys}
use Rattle.ff_policy.specs.Printing.{strings, pairs_from, pairs_in, pair_data, pairs_data, keys_data, kind_data, kinds_data, data_of}

pushed : (vs : List Value) (v : Value) → map view (vs ++ v ∷ []) ≡ map view vs ++ view v ∷ []
pushed vs v = map-append view vs (v ∷ [])

-- ---- names

pub strings_more : (vs new : List Value) (v : Value) (names : List (List ℕ)) (i : ℕ) → map view vs ≡ map string (take i names) → i < length names → view v ≡ string (get_or names i []) → new ≡ vs ++ v ∷ []
    → map view new ≡ map string (take (i + 1) names)
strings_more vs new v names i is less value made =
    ap (map view) made ∙ pushed vs v ∙ ap₂ (λ (ds : List Data) (d : Data). ds ++ d ∷ []) is value
    ∙ sym (ap (map string) (take_more names i [] less) ∙ map-append string (take i names) (get_or names i [] ∷ []))

pub strings_done : (vs : Vec Value Global) (names : List (List ℕ)) (i : ℕ) → map view vs.items ≡ map string (take i names) → length names ≤ i → view (Array vs) ≡ strings names
strings_done vs names i is far = view-Array vs ∙ ap (λ (ds : List Data). array (items_of ds)) (is ∙ ap (map string) (take_all i names far))

-- ---- pairs

next : (n : ℕ) → below (n + 1) ≡ below n ++ n ∷ []
unfolding below
next n = let more : n + 1 ≡ suc n = omega arith in ap below more

flat_next : (f : ℕ → List Pair) (n : ℕ) → map pair_data (flat_map f (below (n + 1))) ≡ map pair_data (flat_map f (below n)) ++ map pair_data (f n)
flat_next f n =
    ap (map pair_data)
    (ap (flat_map f) (next n) ∙ flat_map-append f (below n) (n ∷ []) ∙ ap (λ (ps : List Pair). flat_map f (below n) ++ ps) (append-nil (f n)))
    ∙ map-append pair_data (flat_map f (below n)) (f n)

-- the pairs of the levels below n, behind old ones
pub record Adds (f : ℕ → List Pair) (old now : List Data) (n : ℕ) : Type 0 where
  pub is : now ≡ old ++ map pair_data (flat_map f (below n))

pub adds_none : (f : ℕ → List Pair) (old : List Data) → Adds f old old 0
unfolding below
adds_none f old = record { is = sym (append-nil old) }

pub adds_next : (f : ℕ → List Pair) (old now new : List Data) (n : ℕ) → Adds f old now n → new ≡ now ++ map pair_data (f n) → Adds f old new (n + 1)
adds_next f old now new n given more = record {
  is = more ∙ ap (λ (ds : List Data). ds ++ map pair_data (f n)) given.is ∙ append_assoc old (map pair_data (flat_map f (below n))) (map pair_data (f n))
      ∙ ap (λ (ds : List Data). old ++ ds) (sym (flat_next f n));
}

pub adds_all : (f : ℕ → List Pair) (old now : List Data) (n m : ℕ) → Adds f old now n → n ≡ m → now ≡ old ++ map pair_data (flat_map f (below m))
adds_all f old now n m given same = given.is ∙ ap (λ (k : ℕ). old ++ map pair_data (flat_map f (below k))) same

pub pairs_done : (order : Order) (vs : Vec Value Global) (n : ℕ) → Adds (pairs_from order) [] (map view vs.items) n → n ≡ size order → view (Array vs) ≡ pairs_data (pairs_in order)
pairs_done order vs n given same = view-Array vs ∙ ap (λ (ds : List Data). array (items_of ds)) (adds_all (pairs_from order) [] (map view vs.items) n (size order) given same)

module _ (order : Order) where
  -- ---- keys

  put_last : (keys : List Key) (one : Key) → ((j : ℕ) → j < length keys → slice_cmp nat_cmp (key_at keys j).key one.key ≡ Less)
      → put one.key (string (name order one.level)) (keys_data order keys) ≡ keys_data order (keys ++ one ∷ [])
  put_last [] one above = refl
  put_last (first ∷ keys) one above =
      let greater : slice_cmp nat_cmp one.key first.key ≡ Greater = nat_list_cmp_total.antisymm one.key first.key ∙ ap ordering_reverse (above 0 (omega arith)) in
      ap (λ o. match_ordering o (member one.key (string (name order one.level)) (keys_data order (first ∷ keys))) (member first.key (string (name order one.level)) (keys_data order keys)) (member first.key (string (name order first.level)) (put one.key (string (name order one.level)) (keys_data order keys)))) greater
      ∙ ap (member first.key (string (name order first.level))) (put_last keys one (λ j less. above (suc j) (omega arith)))

  -- the keys before a place lie below the one there
  above : (n : ℕ) (keys : List Key) (i : ℕ) (one : Key) → AreKeys n keys → i < length keys → one ≡ get_or keys i one → (j : ℕ) → j < length (take i keys) → slice_cmp nat_cmp (key_at (take i keys) j).key one.key ≡ Less
  above n keys i one are less is j in_front =
      let d : Key = record { key = []; level = 0 } in
      let long : length (take i keys) ≡ i = length-take-le i keys (omega arith) in
      let before : j < i = omega arith in
      ap (λ (k : Key). slice_cmp nat_cmp k.key one.key) (get_or-take i keys j d before)
      ∙ ap (λ (k : Key). slice_cmp nat_cmp (key_at keys j).key k.key) (get_or_read keys i one less is d)
      ∙ are.rising j i before less

  pub keys_more : (n : ℕ) (keys : List Key) (i : ℕ) (one : Key) (old new : Members) → AreKeys n keys → i < length keys → one ≡ get_or keys i one → old ≡ keys_data order (take i keys)
      → new ≡ put one.key (string (name order one.level)) old → new ≡ keys_data order (take (i + 1) keys)
  keys_more n keys i one old new are less is so_far made =
      let d : Key = record { key = []; level = 0 } in
      made ∙ ap (put one.key (string (name order one.level))) so_far
      ∙ put_last (take i keys) one (above n keys i one are less is)
      ∙ ap (λ (k : Key). keys_data order (take i keys ++ k ∷ [])) (get_or_read keys i one less is d)
      ∙ ap (keys_data order) (sym (take_more keys i d less))

  pub keys_done : (members : BTreeMap (String Global) Value) (keys : List Key) (i : ℕ) → members_view members.entries ≡ keys_data order (take i keys) → length keys ≤ i → view (Object members) ≡ object (keys_data order keys)
  keys_done members keys i is far = view-Object members ∙ ap object (is ∙ ap (keys_data order) (take_all i keys far))

-- a key's level is one
pub level_at_place : (n : ℕ) (keys : List Key) (i : ℕ) (one : Key) → AreKeys n keys → i < length keys → one ≡ get_or keys i one → one.level < n
level_at_place n keys i one are less is =
    let d : Key = record { key = []; level = 0 } in
    subst (λ (k : Key). k.level < n) (sym (get_or_read keys i one less is d)) (are.levels i less)

-- ---- members

-- each kind after those before it
pub kinds_made : (order : Order) (kinds : Kinds) (ms : BTreeMap (String Global) Value) (m0 m1 m2 m3 m4 m5 m6 : Members) → m0 ≡ no_members
    → m1 ≡ put (codes "click") (kind_data order kinds.clicks) m0
    → m2 ≡ put (codes "close") (kind_data order kinds.closes) m1
    → m3 ≡ put (codes "go") (kind_data order kinds.goes) m2
    → m4 ≡ put (codes "link") (kind_data order kinds.links) m3
    → m5 ≡ put (codes "open") (kind_data order kinds.opens) m4
    → m6 ≡ put (codes "reply") (kind_data order kinds.replies) m5
    → members_view ms.entries ≡ put (codes "type") (kind_data order kinds.types) m6
    → view (Object ms) ≡ kinds_data order kinds
kinds_made order kinds ms m0 m1 m2 m3 m4 m5 m6 none a b c d e f g =
    view-Object ms
    ∙ ap object
    (g ∙ ap (put (codes "type") (kind_data order kinds.types)) (f ∙ ap (put (codes "reply") (kind_data order kinds.replies)) (e ∙ ap (put (codes "open") (kind_data order kinds.opens)) (d ∙ ap (put (codes "link") (kind_data order kinds.links)) (c ∙ ap (put (codes "go") (kind_data order kinds.goes)) (b ∙ ap (put (codes "close") (kind_data order kinds.closes)) (a ∙ ap (put (codes "click") (kind_data order kinds.clicks)) none)))))))

-- each member of a policy after those before it
pub members_made : (p : Assignment) (ms : BTreeMap (String Global) Value) (m0 m1 m2 m3 m4 m5 m6 m7 : Members) (below other domains fuel kinds levels ui version : Data) → m0 ≡ no_members
    → below ≡ pairs_data (pairs_in p.order) → m1 ≡ put (codes "below") below m0
    → other ≡ string (name p.order p.other) → m2 ≡ put (codes "domain") other m1
    → domains ≡ object (keys_data p.order p.domains) → m3 ≡ put (codes "domains") domains m2
    → fuel ≡ number (unsigned p.fuel) → m4 ≡ put (codes "fuel") fuel m3
    → kinds ≡ kinds_data p.order p.kinds → m5 ≡ put (codes "kinds") kinds m4
    → levels ≡ strings p.order.names → m6 ≡ put (codes "levels") levels m5
    → ui ≡ string (name p.order p.ui) → m7 ≡ put (codes "ui") ui m6
    → version ≡ number (unsigned 2) → members_view ms.entries ≡ put (codes "version") version m7
    → view (Object ms) ≡ data_of p
unfolding data_of
members_made p ms m0 m1 m2 m3 m4 m5 m6 m7 below other domains fuel kinds levels ui version none v1 e1 v2 e2 v3 e3 v4 e4 v5 e5 v6 e6 v7 e7 v8 e8 =
    view-Object ms
    ∙ ap object
    (e8 ∙ ap₂ (put (codes "version")) v8 (e7 ∙ ap₂ (put (codes "ui")) v7 (e6 ∙ ap₂ (put (codes "levels")) v6 (e5 ∙ ap₂ (put (codes "kinds")) v5 (e4 ∙ ap₂ (put (codes "fuel")) v4 (e3 ∙ ap₂ (put (codes "domains")) v3 (e2 ∙ ap₂ (put (codes "domain")) v2 (e1 ∙ ap₂ (put (codes "below")) v1 none))))))))
