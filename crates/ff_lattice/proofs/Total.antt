-- Names and pairs are a lattice or have a fault: each test that tells can be made.
use Rattle.std.proofs.Common.{◌≡◌, ℕ, zero, suc, ◌+◌, ◌<◌, ◌≤◌, ◌⊎◌, inl, inr, Bool, true, false, ◌&&◌, ◌||◌, List, [], ◌∷◌, refl, sym, ◌∙◌, ap, subst, arith, length, get_or, take, bytes_eq, nat_eq, ltb, eqb}
use Rattle.std.specs.List.{list_any}
use Rattle.std.specs.Cmp.Lexicographic.{pointwise}
use Rattle.std.proofs.lemmas.Bool.{cases_Bool, cases_eq, cases_lt, false≢true, true≢false, and_parts, and_from, or_cases, ltb-true, lt-ltb, eqb-true, eq-eqb}
use Rattle.std.proofs.lemmas.Slice.Eq.{bytes_eq-Decides}
use Rattle.ff_lattice.specs.declared.pair.Pair.{Pair}
use Rattle.ff_lattice.specs.declared.fault.LatticeFault.{LatticeFault}
use Rattle.ff_lattice.specs.declared.fault.LatticeFault.TheVariants.{NoLevels, TooMany, BadName, Repeated, Unknown, Cycle, NoJoin, NoMeet}
use Rattle.ff_lattice.specs.declared.names.TheConstants.{MOST_LEVELS}
use Rattle.ff_lattice.specs.Bounds.{Flip, HasJoin, LacksJoin, HasMeet, LacksMeet, AreCyclic, IsFirst, NoPair, EachPair, IsLeastPair}
use Rattle.ff_lattice.specs.LevelSet.{has, levels_where, IsLevelSet}
use Rattle.ff_lattice.specs.Levels.{nth, pair_at, IsRepeat, IsLevel, IsKnown, IsAmongFirst, AreSized, AreNamed, AreApart, AreLeastNames, IsFault, IsLatticeOf}
use Rattle.ff_lattice.specs.Order.{Order, is_level_name}
use Rattle.ff_lattice.specs.Relation.{related, Related, IsRelation, AreOrdered, HoldPairs, Passes, Closes, AreTurned}
use Rattle.ff_lattice.proofs.Built.{fault_from_order, lattice_is, up_rows, up_ordered}
use Rattle.ff_lattice.proofs.Closure.{ClosedBelow, ClosedBelow-none, ClosedBelow-more, Closes-from_passes}
use Rattle.ff_lattice.proofs.LevelSets.{IsLevelSet-levels_where}
use Rattle.ff_lattice.proofs.NameLemmas.{level_from_any, no_level_from_any, repeat_from_any, no_repeat_from_any, unknown_low, unknown_high}
use Rattle.ff_lattice.proofs.Orders.{IsJoin-from_row, LacksJoin-from_rows, HasJoin-agree, LacksJoin-agree, turned-agree, AreOrdered-turned, IsLattice-from_checks}
use Rattle.ff_lattice.proofs.Tables.{made_holds, made_passes, same_tests, IsLevelSet-nil}

-- ---- what can be tested

-- what a test tells of a thing, it tells of its opposite
pub opposite : {P : Type 0} → P ⊎ (¬ P) → (¬ P) ⊎ (¬ (¬ P))
opposite (inl is) = inr (λ isnt. isnt is)
opposite (inr isnt) = inl isnt

pub settled : {P : Type 0} → P ⊎ (¬ P) → ¬ (¬ P) → P
settled (inl is) never = is
settled (inr isnt) never = absurd (never isnt)

pub by_bool : (b : Bool) → (b ≡ true) ⊎ (¬ (b ≡ true))
by_bool true = inl refl
by_bool false = inr false≢true

-- ---- searches

-- the first place below n that shows P, or there is none
pub data Search (n : ℕ) (P : ℕ → Type 0) : Type 0 where
  first_at : (place : ℕ) → IsFirst n P place → Search n P
  nowhere : ((k : ℕ) → k < n → ¬ P k) → Search n P

pub first_below : (n : ℕ) (P : ℕ → Type 0) → ((k : ℕ) → k < n → P k ⊎ (¬ P k)) → Search n P
first_below zero P test = nowhere (λ k less. absurd (omega arith))
first_below (suc n) P test = more (first_below n P (λ k less. test k (omega arith)))
  where
    last : ((k : ℕ) → k < n → ¬ P k) → P n ⊎ (¬ P n) → Search (suc n) P
    last before (inl shows) = first_at n (record { within = omega arith; shows = shows; first = before })
    last before (inr isnt) = nowhere (λ k less. elim (cases_eq k n) as (λ _. ¬ P k) [ inl e ↦ λ shows. isnt (subst P e shows) | inr ne ↦ before k (omega arith) ])

    more : Search n P → Search (suc n) P
    more (first_at place found) = first_at place (record { within = let within = found.within in omega (arith, within); shows = found.shows; first = found.first })
    more (nowhere before) = last before (test n (omega arith))

-- the least pair below n that shows P, or there is none
pub data PairSearch (n : ℕ) (P : ℕ → ℕ → Type 0) : Type 0 where
  least_at : (a b : ℕ) → IsLeastPair n P a b → PairSearch n P
  no_pair : NoPair n P → PairSearch n P

module _ (n : ℕ) (P : ℕ → ℕ → Type 0) (test : (a b : ℕ) → a < b → b < n → P a b ⊎ (¬ P a b)) where
  abbrev After : ℕ → ℕ → Type 0
  After a b = (a < b) × P a b

  abbrev Begins : ℕ → Type 0
  Begins a = (b : ℕ) × IsFirst n (After a) b

  second : (a : ℕ) → Search n (After a)
  second a = first_below n (After a) (λ b less. from b less (cases_lt a b))
    where
      with : (b : ℕ) → a < b → P a b ⊎ (¬ P a b) → After a b ⊎ (¬ After a b)
      with b after (inl shows) = inl (after, shows)
      with b after (inr isnt) = inr (λ pair. isnt pair.1)

      from : (b : ℕ) → b < n → (a < b) ⊎ (b ≤ a) → After a b ⊎ (¬ After a b)
      from b less (inl after) = with b after (test a b after less)
      from b less (inr not_after) = inr (λ pair. let after : a < b = pair.0 in omega arith)

  begins : (a : ℕ) → Begins a ⊎ (¬ Begins a)
  begins a = from (second a)
    where
      from : Search n (After a) → Begins a ⊎ (¬ Begins a)
      from (first_at b found) = inl (b, found)
      from (nowhere isnt) = inr (λ begun. isnt begun.0 begun.1.within begun.1.shows)

  begun : (a b : ℕ) → a < b → b < n → P a b → Begins a
  begun a b after less shows = from (second a)
    where
      from : Search n (After a) → Begins a
      from (first_at b found) = (b, found)
      from (nowhere isnt) = absurd (isnt b less (after, shows))

  pub pair_below : PairSearch n P
  pair_below = from (first_below n Begins (λ a less. begins a))
    where
      from : Search n Begins → PairSearch n P
      from (first_at a found) =
          let b = found.shows.0 in
          let least = found.shows.1 in
          least_at a b (record {
            ordered = least.shows.0;
            within = least.within;
            shows = least.shows.1;
            least_first = λ c d before after less shows. found.first c before (begun c d after less shows);
            least_second = λ d after before shows. least.first d before (after, shows);
          })
      from (nowhere isnt) = no_pair (λ a b after less shows. isnt a (omega arith) (begun a b after less shows))

-- ---- rows that are made by a test

abbrev row_list : (ℕ → List ℕ) → ℕ → ℕ → List (List ℕ)
row_list f zero from = []
row_list f (suc n) from = f from ∷ row_list f n (suc from)

row_at : (f : ℕ → List ℕ) (n from a : ℕ) → a < n → get_or (row_list f n from) a [] ≡ f (from + a)
row_at f zero from a less = absurd (omega arith)
row_at f (suc n) from zero less = let same : from ≡ from + 0 = omega arith in ap f same
row_at f (suc n) from (suc a) less = let same : suc from + a ≡ from + suc a = omega arith in row_at f n (suc from) a (omega arith) ∙ ap f same

row_here : (f : ℕ → List ℕ) (n a : ℕ) → a < n → get_or (row_list f n 0) a [] ≡ f a
row_here f n a less = let same : 0 + a ≡ a = omega arith in row_at f n 0 a less ∙ ap f same

row_past : (f : ℕ → List ℕ) (n from a : ℕ) → n ≤ a → get_or (row_list f n from) a [] ≡ []
row_past f zero from a past = refl
row_past f (suc n) from zero past = absurd (omega arith)
row_past f (suc n) from (suc a) past = row_past f n (suc from) a (omega arith)

row_count : (f : ℕ → List ℕ) (n from : ℕ) → length (row_list f n from) ≡ n
row_count f zero from = refl
row_count f (suc n) from = let rest = row_count f n (suc from) in omega (arith, rest)

module _ (n : ℕ) (few : n ≤ MOST_LEVELS) where
  abbrev row : (ℕ → ℕ → Bool) → ℕ → List ℕ
  row test a = levels_where (λ b. ltb b n && test a b)

  abbrev table : (ℕ → ℕ → Bool) → List (List ℕ)
  table test = row_list (row test) n 0

  table_holds : (test : ℕ → ℕ → Bool) (a b : ℕ) → a < n → b < n → test a b ≡ true → Related (table test) a b
  table_holds test a b in_a in_b is = ap (λ r. has r b) (row_here (row test) n a in_a) ∙ made_holds (λ c. ltb c n && test a c) b (omega arith) (and_from (ltb b n) (test a b) (lt-ltb b n in_b) is)

  table_passes : (test : ℕ → ℕ → Bool) (a b : ℕ) → Related (table test) a b → (a < n) × (b < n) × (test a b ≡ true)
  table_passes test a b held = from (cases_lt a n)
    where
      from : (a < n) ⊎ (n ≤ a) → (a < n) × (b < n) × (test a b ≡ true)
      from (inl in_a) =
          let both = and_parts (ltb b n) (test a b) (made_passes (λ c. ltb c n && test a c) b (sym (ap (λ r. has r b) (row_here (row test) n a in_a)) ∙ held)) in
          (in_a, ltb-true b n both.0, both.1)
      from (inr past) = absurd (false≢true (sym (ap (λ r. has r b) (row_past (row test) n 0 a past)) ∙ held))

  table_count : (test : ℕ → ℕ → Bool) → length (table test) ≡ n
  table_count test = row_count (row test) n 0

  table_rows : (test : ℕ → ℕ → Bool) → IsRelation n (table test)
  table_rows test = record { few = few; count = table_count test; set = set; within = λ a b held. (table_passes test a b held).1 }
    where
      from : (l : ℕ) → (l < n) ⊎ (n ≤ l) → IsLevelSet (get_or (table test) l [])
      from l (inl in_l) = subst IsLevelSet (sym (row_here (row test) n l in_l)) (IsLevelSet-levels_where (λ b. ltb b n && test l b))
      from l (inr past) = subst IsLevelSet (sym (row_past (row test) n 0 l past)) IsLevelSet-nil

      set : (l : ℕ) → IsLevelSet (get_or (table test) l [])
      set l = from l (cases_lt l n)

  -- a relation with the steps through the levels below k
  abbrev closed : (ℕ → ℕ → Bool) → ℕ → ℕ → ℕ → Bool
  closed start zero a b = start a b
  closed start (suc k) a b = closed start k a b || (closed start k a k && closed start k k b)

  passes_level : (start : ℕ → ℕ → Bool) (k : ℕ) → k < n → Passes (table (closed start k)) (table (closed start (suc k))) k
  passes_level start k in_k = record {
    rows = subst (λ m. IsRelation m (table (closed start (suc k)))) (sym (table_count (closed start k))) (table_rows (closed start (suc k)));
    grows = λ a b held. let was = table_passes (closed start k) a b held in table_holds (closed start (suc k)) a b was.0 was.1 (ap (λ t. t || (closed start k a k && closed start k k b)) was.2);
    held = λ a b first other.
        let from = table_passes (closed start k) a k first in
        let to = table_passes (closed start k) k b other in
        table_holds (closed start (suc k)) a b from.0 to.1 (ap (λ t. closed start k a b || t) (and_from (closed start k a k) (closed start k k b) from.2 to.2) ∙ or_last (closed start k a b));
    sound = λ a b now. let is = table_passes (closed start (suc k)) a b now in sound a b is.0 is.1 (or_cases (closed start k a b) (closed start k a k && closed start k k b) is.2);
  }
    where
      or_last : (t : Bool) → (t || true) ≡ true
      or_last true = refl
      or_last false = refl

      sound : (a b : ℕ) → a < n → b < n → (closed start k a b ≡ true) ⊎ ((closed start k a k && closed start k k b) ≡ true)
          → Related (table (closed start k)) a b ⊎ (Related (table (closed start k)) a k × Related (table (closed start k)) k b)
      sound a b in_a in_b (inl was) = inl (table_holds (closed start k) a b in_a in_b was)
      sound a b in_a in_b (inr through) =
          let both = and_parts (closed start k a k) (closed start k k b) through in
          inr (table_holds (closed start k) a k in_a in_k both.0, table_holds (closed start k) k b in_k in_b both.1)

  closed_below : (start : ℕ → ℕ → Bool) (k : ℕ) → k ≤ n → ClosedBelow k (table start) (table (closed start k))
  closed_below start zero most = ClosedBelow-none (table start) (subst (λ m. IsRelation m (table start)) (sym (table_count start)) (table_rows start))
  closed_below start (suc k) most =
      let next : k + 1 ≡ suc k = omega arith in
      subst (λ m. ClosedBelow m (table start) (table (closed start (suc k)))) next
      (ClosedBelow-more k (table start) (table (closed start k)) (table (closed start (suc k))) (closed_below start k (omega arith)) (passes_level start k (omega arith)))

  abbrev pub up_of : (ℕ → ℕ → Bool) → List (List ℕ)
  up_of start = table (closed start n)

  abbrev pub down_of : (ℕ → ℕ → Bool) → List (List ℕ)
  down_of start = table (λ a b. closed start n b a)

  pub closes : (start : ℕ → ℕ → Bool) → Closes (table start) (up_of start)
  closes start = Closes-from_passes n (table start) (up_of start) (let count = table_count start in omega (arith, count)) (closed_below start n (omega arith))

  pub turned : (start : ℕ → ℕ → Bool) → AreTurned (up_of start) (down_of start)
  turned start = record {
    rows = subst (λ m. IsRelation m (down_of start)) (sym (table_count (closed start n))) (table_rows (λ a b. closed start n b a));
    turned = λ a b.
        same_tests (related (down_of start) b a) (related (up_of start) a b)
        (λ held. let is = table_passes (λ c d. closed start n d c) b a held in table_holds (closed start n) a b is.1 is.0 is.2)
        (λ held. let is = table_passes (closed start n) a b held in table_holds (λ c d. closed start n d c) b a is.1 is.0 is.2);
  }

-- ---- the pairs of names

abbrev gives : List ℕ → List ℕ → Pair → Bool
gives low high pair = bytes_eq pair.low low && bytes_eq pair.high high

among_from_any : (below : List Pair) (low high : List ℕ) → list_any (gives low high) below ≡ true → IsAmongFirst (length below) below low high
among_from_any [] low high some = absurd (false≢true some)
among_from_any (p ∷ ps) low high some = from (or_cases (gives low high p) (list_any (gives low high) ps) some) (λ later. among_from_any ps low high later)
  where
    from : (gives low high p ≡ true) ⊎ (list_any (gives low high) ps ≡ true) → (list_any (gives low high) ps ≡ true → IsAmongFirst (length ps) ps low high) → IsAmongFirst (length (p ∷ ps)) (p ∷ ps) low high
    from (inl here) others =
        let both = and_parts (bytes_eq p.low low) (bytes_eq p.high high) here in
        (0, omega arith, (bytes_eq-Decides p.low low).0 both.0, (bytes_eq-Decides p.high high).0 both.1)
    from (inr later) others = let rest = others later in let less = rest.1 in (suc rest.0, omega (arith, less), rest.2, rest.3)

same_bytes : (a b : List ℕ) → a ≡ b → bytes_eq a b ≡ true
same_bytes a b same = (bytes_eq-Decides a b).1 same

any_from_among : (below : List Pair) (low high : List ℕ) (k : ℕ) → k < length below → (pair_at below k).low ≡ low → (pair_at below k).high ≡ high → list_any (gives low high) below ≡ true
any_from_among [] low high k less low_is high_is = absurd (omega arith)
any_from_among (p ∷ ps) low high zero less low_is high_is = ap (λ t. t || list_any (gives low high) ps) (and_from (bytes_eq p.low low) (bytes_eq p.high high) (same_bytes p.low low low_is) (same_bytes p.high high high_is))
any_from_among (p ∷ ps) low high (suc k) less low_is high_is = ap (λ t. gives low high p || t) (any_from_among ps low high k (omega arith) low_is high_is) ∙ or_last (gives low high p)
  where
    or_last : (t : Bool) → (t || true) ≡ true
    or_last true = refl
    or_last false = refl

-- ---- levels and pairs, and whether their order is a lattice

-- names and pairs that are a lattice, or have a fault
pub data Judged (names : List (List ℕ)) (below : List Pair) : Type 0 where
  a_lattice : (order : Order) → IsLatticeOf names below order → Judged names below
  a_fault : (fault : LatticeFault) → IsFault names below fault → Judged names below

cyclic_or : (rows : List (List ℕ)) (a b : ℕ) → AreCyclic (Related rows) a b ⊎ (¬ AreCyclic (Related rows) a b)
cyclic_or rows a b = from (by_bool (related rows a b)) (by_bool (related rows b a))
  where
    from : Related rows a b ⊎ (¬ Related rows a b) → Related rows b a ⊎ (¬ Related rows b a) → AreCyclic (Related rows) a b ⊎ (¬ AreCyclic (Related rows) a b)
    from (inl there) (inl back) = inl (there, back)
    from (inl there) (inr isnt) = inr (λ both. isnt both.1)
    from (inr isnt) back = inr (λ both. isnt both.0)

-- whether a level is above both
abbrev above_both : List (List ℕ) → ℕ → ℕ → ℕ → Bool
above_both rows a b m = has (get_or rows a []) m && has (get_or rows b []) m

join_or : (rows : List (List ℕ)) → IsRelation (length rows) rows → AreOrdered rows → (a b : ℕ) → HasJoin (Related rows) (length rows) a b ⊎ LacksJoin (Related rows) (length rows) a b
join_or rows valid ordered a b = from (first_below (length rows) (λ c. get_or rows c [] ≡ levels_where (above_both rows a b)) (λ c less. test c (cases_Bool (bytes_eq (get_or rows c []) (levels_where (above_both rows a b))))))
  where
    test : (c : ℕ) → (bytes_eq (get_or rows c []) (levels_where (above_both rows a b)) ≡ true) ⊎ (bytes_eq (get_or rows c []) (levels_where (above_both rows a b)) ≡ false)
        → (get_or rows c [] ≡ levels_where (above_both rows a b)) ⊎ (¬ (get_or rows c [] ≡ levels_where (above_both rows a b)))
    test c (inl is) = inl ((bytes_eq-Decides (get_or rows c []) (levels_where (above_both rows a b))).0 is)
    test c (inr isnt) = inr (λ e. true≢false (sym ((bytes_eq-Decides (get_or rows c []) (levels_where (above_both rows a b))).1 e) ∙ isnt))

    from : Search (length rows) (λ c. get_or rows c [] ≡ levels_where (above_both rows a b)) → HasJoin (Related rows) (length rows) a b ⊎ LacksJoin (Related rows) (length rows) a b
    from (first_at c found) = inl (c, IsJoin-from_row rows a b valid ordered c found.within found.shows)
    from (nowhere isnt) = inr (LacksJoin-from_rows rows a b valid ordered isnt)

module _ (names : List (List ℕ)) (below : List Pair) (apart : AreApart names) (known : (k : ℕ) → k < length below → IsKnown names (pair_at below k)) where
  abbrev n : ℕ
  n = length names

  few : n ≤ MOST_LEVELS
  few = apart.named.sized.few

  -- each level with itself, and the levels of each pair
  abbrev start : ℕ → ℕ → Bool
  start a b = eqb a b || list_any (gives (nth names a) (nth names b)) below

  abbrev up : List (List ℕ)
  up = up_of n few start

  abbrev down : List (List ℕ)
  down = down_of n few start

  or_last : (t : Bool) → (t || true) ≡ true
  or_last true = refl
  or_last false = refl

  hold_pairs : HoldPairs (length below) names below (table n few start)
  hold_pairs = record {
    rows = table_rows n few start;
    known = known;
    reflexive = λ a in_a. table_holds n few start a a in_a in_a (ap (λ t. t || list_any (gives (nth names a) (nth names a)) below) (eq-eqb a a refl));
    sound = λ a b held. sound a b (or_cases (eqb a b) (list_any (gives (nth names a) (nth names b)) below) (table_passes n few start a b held).2);
    held = λ a b in_a in_b some. table_holds n few start a b in_a in_b (ap (λ t. eqb a b || t) (any_from_among below (nth names a) (nth names b) some.0 some.1 some.2 some.3) ∙ or_last (eqb a b));
  }
    where
      sound : (a b : ℕ) → (eqb a b ≡ true) ⊎ (list_any (gives (nth names a) (nth names b)) below ≡ true) → (a ≡ b) ⊎ IsAmongFirst (length below) below (nth names a) (nth names b)
      sound a b (inl same) = inl (eqb-true a b same)
      sound a b (inr some) = inr (among_from_any below (nth names a) (nth names b) some)

  closes_up : Closes (table n few start) up
  closes_up = closes n few start

  up_valid : IsRelation n up
  up_valid = up_rows names below (table n few start) up apart hold_pairs closes_up

  ordered : AreOrdered up
  ordered = up_ordered names below (table n few start) up apart hold_pairs closes_up

  turned_down : AreTurned up down
  turned_down = turned n few start

  down_count : length down ≡ n
  down_count = turned_down.rows.count ∙ up_valid.count

  -- joins of the order, and its meets, which are the joins of the order from its other side
  has_join : (a b : ℕ) → a < b → b < n → HasJoin (Related up) n a b ⊎ LacksJoin (Related up) n a b
  has_join a b after less = subst (λ m. HasJoin (Related up) m a b ⊎ LacksJoin (Related up) m a b) up_valid.count (join_or up (subst (λ m. IsRelation m up) (sym up_valid.count) up_valid) ordered a b)

  down_join : (a b : ℕ) → a < b → b < n → HasJoin (Related down) n a b ⊎ LacksJoin (Related down) n a b
  down_join a b after less =
      subst (λ m. HasJoin (Related down) m a b ⊎ LacksJoin (Related down) m a b) down_count
      (join_or down (subst (λ m. IsRelation m down) (up_valid.count ∙ sym down_count) (subst (λ m. IsRelation m down) refl turned_down.rows)) (AreOrdered-turned up down turned_down ordered) a b)

  has_meet : (a b : ℕ) → a < b → b < n → HasMeet (Related up) n a b ⊎ LacksMeet (Related up) n a b
  has_meet a b after less = from (down_join a b after less)
    where
      from : HasJoin (Related down) n a b ⊎ LacksJoin (Related down) n a b → HasMeet (Related up) n a b ⊎ LacksMeet (Related up) n a b
      from (inl has) = inl (HasJoin-agree n (Related down) (Flip (Related up)) (turned-agree up down n turned_down) a b (omega arith) less has)
      from (inr lacks) = inr (LacksJoin-agree n (Related down) (Flip (Related up)) (turned-agree up down n turned_down) a b (omega arith) less lacks)

  least_names : (P : ℕ → ℕ → Type 0) (a b : ℕ) → IsLeastPair n P a b → AreLeastNames names P (nth names a) (nth names b)
  least_names P a b pair = record { a = a; b = b; pair = pair; low_is = refl; high_is = refl }

  by_meets : NoPair n (AreCyclic (Related up)) → EachPair n (HasJoin (Related up) n) → PairSearch n (LacksMeet (Related up) n) → Judged names below
  by_meets no_cycle joins (least_at a b pair) =
      a_fault (NoMeet (nth names a) (nth names b)) (fault_from_order names below (table n few start) up apart hold_pairs closes_up (NoMeet (nth names a) (nth names b)) (no_cycle, joins, least_names (LacksMeet (Related up) n) a b pair))
  by_meets no_cycle joins (no_pair none) =
      let meets : EachPair n (HasJoin (Related down) n) = λ a b after less. settled (down_join a b after less) (λ lacks. none a b after less (LacksJoin-agree n (Related down) (Flip (Related up)) (turned-agree up down n turned_down) a b (omega arith) less lacks)) in
      a_lattice _ (lattice_is names below (table n few start) up apart hold_pairs closes_up
      (IsLattice-from_checks up down n up_valid.count ordered turned_down
      (subst (λ m. NoPair m (AreCyclic (Related up))) (sym up_valid.count) no_cycle)
      (subst (λ m. EachPair m (HasJoin (Related up) m)) (sym up_valid.count) joins)
      (subst (λ m. EachPair m (HasJoin (Related down) m)) (sym down_count) meets)))

  by_joins : NoPair n (AreCyclic (Related up)) → PairSearch n (LacksJoin (Related up) n) → Judged names below
  by_joins no_cycle (least_at a b pair) =
      a_fault (NoJoin (nth names a) (nth names b)) (fault_from_order names below (table n few start) up apart hold_pairs closes_up (NoJoin (nth names a) (nth names b)) (no_cycle, least_names (LacksJoin (Related up) n) a b pair))
  by_joins no_cycle (no_pair none) =
      by_meets no_cycle (λ a b after less. settled (has_join a b after less) (none a b after less)) (pair_below n (LacksMeet (Related up) n) (λ a b after less. opposite (has_meet a b after less)))

  by_cycles : PairSearch n (AreCyclic (Related up)) → Judged names below
  by_cycles (least_at a b pair) =
      a_fault (Cycle (nth names a) (nth names b)) (fault_from_order names below (table n few start) up apart hold_pairs closes_up (Cycle (nth names a) (nth names b)) (least_names (AreCyclic (Related up)) a b pair))
  by_cycles (no_pair none) = by_joins none (pair_below n (LacksJoin (Related up) n) (λ a b after less. opposite (has_join a b after less)))

  judged_levels : Judged names below
  judged_levels = by_cycles (pair_below n (AreCyclic (Related up)) (λ a b after less. cyclic_or up a b))

-- ---- names, and then pairs

level_or : (names : List (List ℕ)) (text : List ℕ) → IsLevel names text ⊎ (¬ IsLevel names text)
level_or names text = from (cases_Bool (list_any (pointwise nat_eq text) names))
  where
    from : (list_any (pointwise nat_eq text) names ≡ true) ⊎ (list_any (pointwise nat_eq text) names ≡ false) → IsLevel names text ⊎ (¬ IsLevel names text)
    from (inl some) = inl (level_from_any names text some)
    from (inr none) = inr (λ level. no_level_from_any names text none level.0 level.1 level.2)

known_or : (names : List (List ℕ)) (pair : Pair) → IsKnown names pair ⊎ (¬ IsKnown names pair)
known_or names pair = from (level_or names pair.low) (level_or names pair.high)
  where
    from : IsLevel names pair.low ⊎ (¬ IsLevel names pair.low) → IsLevel names pair.high ⊎ (¬ IsLevel names pair.high) → IsKnown names pair ⊎ (¬ IsKnown names pair)
    from (inl low) (inl high) = inl (low, high)
    from (inl low) (inr isnt) = inr (λ both. isnt both.1)
    from (inr isnt) high = inr (λ both. isnt both.0)

-- by the first pair with a name that is no level's
judged_pairs : (names : List (List ℕ)) (below : List Pair) → AreApart names → Judged names below
judged_pairs names below apart = from (first_below (length below) (λ k. ¬ IsKnown names (pair_at below k)) (λ k less. opposite (known_or names (pair_at below k))))
  where
    first_wrong : (place : ℕ) → place < length below → ((k : ℕ) → k < place → IsKnown names (pair_at below k)) → ¬ IsKnown names (pair_at below place)
        → IsLevel names (pair_at below place).low ⊎ (¬ IsLevel names (pair_at below place).low) → Judged names below
    first_wrong place within before wrong (inl low) =
        a_fault (Unknown (pair_at below place).high) (unknown_high names below place (pair_at below place).high apart within before low refl (λ high. wrong (low, high)))
    first_wrong place within before wrong (inr isnt) = a_fault (Unknown (pair_at below place).low) (unknown_low names below place (pair_at below place).low apart within before refl isnt)

    from : Search (length below) (λ k. ¬ IsKnown names (pair_at below k)) → Judged names below
    from (first_at place found) = first_wrong place found.within (λ k less. settled (known_or names (pair_at below k)) (found.first k less)) found.shows (level_or names (pair_at below place).low)
    from (nowhere isnt) = judged_levels names below apart (λ k less. settled (known_or names (pair_at below k)) (isnt k less))

-- by the first name that stands before, too
judged_repeats : (names : List (List ℕ)) (below : List Pair) → AreNamed names → Judged names below
judged_repeats names below named = from (first_below (length names) (IsRepeat names) (λ l less. repeats l less (cases_Bool (list_any (pointwise nat_eq (nth names l)) (take l names)))))
  where
    repeats : (l : ℕ) → l < length names → (list_any (pointwise nat_eq (nth names l)) (take l names) ≡ true) ⊎ (list_any (pointwise nat_eq (nth names l)) (take l names) ≡ false) → IsRepeat names l ⊎ (¬ IsRepeat names l)
    repeats l less (inl some) = inl (repeat_from_any names l less some)
    repeats l less (inr none) = inr (no_repeat_from_any names l less none)

    from : Search (length names) (IsRepeat names) → Judged names below
    from (first_at place found) = a_fault (Repeated (nth names place)) (named, record { place = place; first = found; is = refl })
    from (nowhere isnt) = judged_pairs names below (record { named = named; apart = isnt })

-- by the first name that isn't spelled as one
judged_names : (names : List (List ℕ)) (below : List Pair) → AreSized names → Judged names below
judged_names names below sized = from (first_below (length names) (λ l. is_level_name (nth names l) ≡ false) (λ l less. bad l (cases_Bool (is_level_name (nth names l)))))
  where
    bad : (l : ℕ) → (is_level_name (nth names l) ≡ true) ⊎ (is_level_name (nth names l) ≡ false) → (is_level_name (nth names l) ≡ false) ⊎ (¬ (is_level_name (nth names l) ≡ false))
    bad l (inl is) = inr (λ isnt. true≢false (sym is ∙ isnt))
    bad l (inr isnt) = inl isnt

    good : (l : ℕ) → ¬ (is_level_name (nth names l) ≡ false) → (is_level_name (nth names l) ≡ true) ⊎ (is_level_name (nth names l) ≡ false) → is_level_name (nth names l) ≡ true
    good l never (inl is) = is
    good l never (inr isnt) = absurd (never isnt)

    from : Search (length names) (λ l. is_level_name (nth names l) ≡ false) → Judged names below
    from (first_at place found) = a_fault (BadName place) (sized, found)
    from (nowhere isnt) = judged_repeats names below (record { sized = sized; named = λ l less. good l (isnt l less) (cases_Bool (is_level_name (nth names l))) })

-- names and pairs are a lattice, or have a fault
pub judged : (names : List (List ℕ)) (below : List Pair) → Judged names below
judged [] below = a_fault NoLevels refl
judged (first ∷ names) below = from (cases_lt MOST_LEVELS (length (first ∷ names)))
  where
    from : (MOST_LEVELS < length (first ∷ names)) ⊎ (length (first ∷ names) ≤ MOST_LEVELS) → Judged (first ∷ names) below
    from (inl many) = a_fault TooMany many
    from (inr few) = judged_names (first ∷ names) below (record { some = omega arith; few = few })
