-- Lemmas on bounds, least pairs and lattices.
use Rattle.std.proofs.Common.{◌≡◌, ◌≢◌, ℕ, ◌+◌, ◌<◌, ◌≤◌, ◌↔◌, inl, inr, Bool, true, ◌&&◌, List, [], sym, ◌∙◌, ap, subst, arith, length, get_or, Option, Some, None, IfSome, is_some}
use Rattle.std.proofs.lemmas.Bool.{cases_eq, cases_order, and_parts, and_from, false≢true}
use Rattle.ff_name.specs.declared.levels.Level.{Level}
use Rattle.ff_lattice.specs.declared.fault.LatticeFault.{LatticeFault}
use Rattle.ff_lattice.specs.declared.fault.LatticeFault.TheVariants.{NoLevels, TooMany, BadName, Repeated, Unknown, Cycle, NoJoin, NoMeet, NoMemory}
use Rattle.ff_lattice.specs.Bounds.{Flip, IsJoin, HasJoin, LacksJoin, LacksMeet, AreCyclic, IsLattice, NoPair, EachPair, IsLeastPair}
use Rattle.ff_lattice.specs.LevelSet.{has, levels_where}
use Rattle.ff_lattice.specs.Levels.{AreLeastNames, IsOrderFault}
use Rattle.ff_lattice.specs.Relation.{Related, IsRelation, AreOrdered, AreTurned}
use Rattle.ff_lattice.proofs.LevelSets.{same_levels, IsLevelSet-levels_where}
use Rattle.ff_lattice.proofs.Tables.{made_holds, made_passes, same_tests}

-- ---- the row of a join

module _ (rows : List (List ℕ)) (a b : ℕ) (valid : IsRelation (length rows) rows) (ordered : AreOrdered rows) where
  abbrev both : ℕ → Bool
  both m = has (get_or rows a []) m && has (get_or rows b []) m

  in_sixteen : (m : ℕ) → m < length rows → m < 16
  in_sixteen m h = omega (arith, valid.few)

  both_from_row : (c m : ℕ) → get_or rows c [] ≡ levels_where both → Related rows c m → both m ≡ true
  both_from_row c m is held = made_passes both m (sym (ap (λ (r : List ℕ). has r m) is) ∙ held)

  pub IsJoin-from_row : (c : ℕ) → c < length rows → get_or rows c [] ≡ levels_where both → IsJoin (Related rows) (length rows) a b c
  IsJoin-from_row c in_c is =
      let own : both c ≡ true = both_from_row c c is (ordered.reflexive c in_c) in
      let parts = and_parts (has (get_or rows a []) c) (has (get_or rows b []) c) own in
      record {
        within = in_c;
        above_first = parts.0;
        above_second = parts.1;
        least = λ d in_d first second. ap (λ (r : List ℕ). has r d) is ∙ made_holds both d (in_sixteen d in_d) (and_from (has (get_or rows a []) d) (has (get_or rows b []) d) first second);
      }

  pub row_of_join : (c : ℕ) → IsJoin (Related rows) (length rows) a b c → get_or rows c [] ≡ levels_where both
  row_of_join c join =
      same_levels (get_or rows c []) (levels_where both) (valid.set c) (IsLevelSet-levels_where both) (λ m in_m.
      same_tests (has (get_or rows c []) m) (has (levels_where both) m)
      (λ held. made_holds both m in_m (and_from (has (get_or rows a []) m) (has (get_or rows b []) m) (ordered.transitive a c m join.above_first held) (ordered.transitive b c m join.above_second held)))
      (λ held.
      let parts = and_parts (has (get_or rows a []) m) (has (get_or rows b []) m) (made_passes both m held) in
      join.least m (valid.within a m parts.0) parts.0 parts.1))

  pub LacksJoin-from_rows : ((c : ℕ) → c < length rows → get_or rows c [] ≢ levels_where both) → LacksJoin (Related rows) (length rows) a b
  LacksJoin-from_rows none join = none join.0 join.1.within (row_of_join join.0 join.1)

-- ---- relations that agree on the levels

abbrev pub Agree : ℕ → (ℕ → ℕ → Type 0) → (ℕ → ℕ → Type 0) → Type 0
Agree n R S = (a b : ℕ) → a < n → b < n → R a b ↔ S a b

pub Agree-sym : (n : ℕ) (R S : ℕ → ℕ → Type 0) → Agree n R S → Agree n S R
Agree-sym n R S agree a b in_a in_b = ((agree a b in_a in_b).1, (agree a b in_a in_b).0)

pub Agree-flip : (n : ℕ) (R S : ℕ → ℕ → Type 0) → Agree n R S → Agree n (Flip R) (Flip S)
Agree-flip n R S agree a b in_a in_b = agree b a in_b in_a

module _ (n : ℕ) (R S : ℕ → ℕ → Type 0) (agree : Agree n R S) where
  pub IsJoin-agree : (a b c : ℕ) → a < n → b < n → IsJoin R n a b c → IsJoin S n a b c
  IsJoin-agree a b c in_a in_b join = record {
    within = join.within;
    above_first = (agree a c in_a join.within).0 join.above_first;
    above_second = (agree b c in_b join.within).0 join.above_second;
    least = λ d in_d first second. (agree c d join.within in_d).0 (join.least d in_d ((agree a d in_a in_d).1 first) ((agree b d in_b in_d).1 second));
  }

  pub HasJoin-agree : (a b : ℕ) → a < n → b < n → HasJoin R n a b → HasJoin S n a b
  HasJoin-agree a b in_a in_b join = (join.0, IsJoin-agree a b join.0 in_a in_b join.1)

  AreCyclic-agree : (a b : ℕ) → a < n → b < n → AreCyclic R a b → AreCyclic S a b
  AreCyclic-agree a b in_a in_b both = ((agree a b in_a in_b).0 both.0, (agree b a in_b in_a).0 both.1)

pub LacksJoin-agree : (n : ℕ) (R S : ℕ → ℕ → Type 0) → Agree n R S → (a b : ℕ) → a < n → b < n → LacksJoin R n a b → LacksJoin S n a b
LacksJoin-agree n R S agree a b in_a in_b none join = none (HasJoin-agree n S R (Agree-sym n R S agree) a b in_a in_b join)

pub IsLattice-agree : (n : ℕ) (R S : ℕ → ℕ → Type 0) → Agree n R S → IsLattice R n → IsLattice S n
IsLattice-agree n R S agree lattice = record {
  antisymmetric = λ a b in_a in_b there back. lattice.antisymmetric a b in_a in_b ((agree a b in_a in_b).1 there) ((agree b a in_b in_a).1 back);
  joins = λ a b in_a in_b. HasJoin-agree n R S agree a b in_a in_b (lattice.joins a b in_a in_b);
  meets = λ a b in_a in_b. HasJoin-agree n (Flip R) (Flip S) (Agree-flip n R S agree) a b in_a in_b (lattice.meets a b in_a in_b);
}

module _ (n : ℕ) (P Q : ℕ → ℕ → Type 0) (to : (a b : ℕ) → a < n → b < n → P a b → Q a b) where
  pub EachPair-to : EachPair n P → EachPair n Q
  EachPair-to each a b less in_b = to a b (omega arith) in_b (each a b less in_b)

  pub NoPair-to : NoPair n Q → NoPair n P
  NoPair-to none a b less in_b shows = none a b less in_b (to a b (omega arith) in_b shows)

  pub IsLeastPair-to : ((a b : ℕ) → a < n → b < n → Q a b → P a b) → (a b : ℕ) → IsLeastPair n P a b → IsLeastPair n Q a b
  IsLeastPair-to from a b pair = record {
    ordered = pair.ordered;
    within = pair.within;
    shows = to a b (omega (arith, pair.ordered, pair.within)) pair.within pair.shows;
    least_first = λ c d first less in_d shows. pair.least_first c d first less in_d (from c d (omega arith) in_d shows);
    least_second = λ d first less shows.
        let in_d : d < n = omega (arith, pair.within) in
        pair.least_second d first less (from a d (omega arith) in_d shows);
  }

AreLeastNames-to : (names : List (List ℕ)) (P Q : ℕ → ℕ → Type 0) → ((a b : ℕ) → a < length names → b < length names → P a b → Q a b) → ((a b : ℕ) → a < length names → b < length names → Q a b → P a b) → (low high : List ℕ) → AreLeastNames names P low high → AreLeastNames names Q low high
AreLeastNames-to names P Q to from low high least = record {
  a = least.a;
  b = least.b;
  pair = IsLeastPair-to (length names) P Q to from least.a least.b least.pair;
  low_is = least.low_is;
  high_is = least.high_is;
}

module _ (names : List (List ℕ)) (R S : ℕ → ℕ → Type 0) (agree : Agree (length names) R S) where
  abbrev n : ℕ
  n = length names

  back : Agree (length names) S R
  back = Agree-sym n R S agree

  flipped : Agree (length names) (Flip R) (Flip S)
  flipped = Agree-flip n R S agree

  flipped_back : Agree (length names) (Flip S) (Flip R)
  flipped_back = Agree-sym n (Flip R) (Flip S) flipped

  no_cycles : NoPair (length names) (AreCyclic R) → NoPair (length names) (AreCyclic S)
  no_cycles = NoPair-to n (AreCyclic S) (AreCyclic R) (AreCyclic-agree n S R back)

  pub IsOrderFault-agree : (fault : LatticeFault) → IsOrderFault names R fault → IsOrderFault names S fault
  IsOrderFault-agree (Cycle x y) shown = AreLeastNames-to names (AreCyclic R) (AreCyclic S) (AreCyclic-agree n R S agree) (AreCyclic-agree n S R back) x y shown
  IsOrderFault-agree (NoJoin x y) shown =
      (no_cycles shown.0, AreLeastNames-to names (LacksJoin R n) (LacksJoin S n) (LacksJoin-agree n R S agree) (LacksJoin-agree n S R back) x y shown.1)
  IsOrderFault-agree (NoMeet x y) shown = (
    no_cycles shown.0,
    EachPair-to n (HasJoin R n) (HasJoin S n) (HasJoin-agree n R S agree) shown.1,
    AreLeastNames-to names (LacksMeet R n) (LacksMeet S n) (LacksJoin-agree n (Flip R) (Flip S) flipped) (LacksJoin-agree n (Flip S) (Flip R) flipped_back) x y shown.2,
  )
  IsOrderFault-agree NoLevels shown = shown
  IsOrderFault-agree TooMany shown = shown
  IsOrderFault-agree (BadName _) shown = shown
  IsOrderFault-agree (Repeated _) shown = shown
  IsOrderFault-agree (Unknown _) shown = shown
  IsOrderFault-agree NoMemory shown = shown

-- ---- a lattice from its pairs

module _ (n : ℕ) (R : ℕ → ℕ → Type 0) (reflexive : (a : ℕ) → a < n → R a a) where
  own_join : (a : ℕ) → a < n → HasJoin R n a a
  own_join a in_a = (a, record { within = in_a; above_first = reflexive a in_a; above_second = reflexive a in_a; least = λ d in_d first _. first })

  turned_join : (a b : ℕ) → HasJoin R n a b → HasJoin R n b a
  turned_join a b join =
      (join.0, record { within = join.1.within; above_first = join.1.above_second; above_second = join.1.above_first; least = λ d in_d first second. join.1.least d in_d second first })

  pub joins_from_pairs : EachPair n (HasJoin R n) → (a b : ℕ) → a < n → b < n → HasJoin R n a b
  joins_from_pairs each a b in_a in_b =
      elim (cases_order a b) as (λ _. HasJoin R n a b) [
        | inl e ↦ subst (λ (k : ℕ). HasJoin R n a k) e (own_join a in_a)
        | inr other ↦ elim other as (λ _. HasJoin R n a b) [
          | inl less ↦ each a b less in_b
          | inr more ↦ turned_join b a (each b a more in_a)
        ]
      ]

  pub antisymmetric_from_pairs : NoPair n (AreCyclic R) → (a b : ℕ) → a < n → b < n → R a b → R b a → a ≡ b
  antisymmetric_from_pairs none a b in_a in_b there back =
      elim (cases_order a b) as (λ _. a ≡ b) [
        | inl e ↦ e
        | inr other ↦ elim other as (λ _. a ≡ b) [
          | inl less ↦ absurd (none a b less in_b (there, back))
          | inr more ↦ absurd (none b a more in_a (back, there))
        ]
      ]

-- the other side of a table is its relation flipped
pub turned-agree : (up down : List (List ℕ)) (n : ℕ) → AreTurned up down → Agree n (Related down) (Flip (Related up))
turned-agree up down n turned a b in_a in_b = (λ held. sym (turned.turned b a) ∙ held, λ held. turned.turned b a ∙ held)

pub AreOrdered-turned : (up down : List (List ℕ)) → AreTurned up down → AreOrdered up → AreOrdered down
AreOrdered-turned up down turned ordered = record {
  reflexive = λ a in_a. let in_up : a < length up = omega (arith, turned.rows.count) in turned.turned a a ∙ ordered.reflexive a in_up;
  transitive = λ a b c first second. turned.turned c a ∙ ordered.transitive c b a (sym (turned.turned c b) ∙ second) (sym (turned.turned b a) ∙ first);
}

pub IsLattice-from_tables : (up down : List (List ℕ)) → AreOrdered up → AreTurned up down → NoPair (length up) (AreCyclic (Related up)) → EachPair (length up) (HasJoin (Related up) (length up)) → EachPair (length up) (HasJoin (Related down) (length up)) → IsLattice (Related up) (length up)
IsLattice-from_tables up down ordered turned no_cycle joins meets =
    let n : ℕ = length up in
    record {
      antisymmetric = antisymmetric_from_pairs n (Related up) ordered.reflexive no_cycle;
      joins = joins_from_pairs n (Related up) ordered.reflexive joins;
      meets = joins_from_pairs n (Flip (Related up)) ordered.reflexive (EachPair-to n (HasJoin (Related down) n) (HasJoin (Flip (Related up)) n) (HasJoin-agree n (Related down) (Flip (Related up)) (turned-agree up down n turned)) meets);
    }

-- ---- loops over pairs

-- one more first level, with all the second ones after it
pub pairs_more : (P : ℕ → ℕ → Type 0) (size a b : ℕ) → ((c d : ℕ) → c < a → c < d → d < size → P c d) → ((d : ℕ) → a < d → d < b → P a d) → size ≤ b → (c d : ℕ) → c < a + 1 → c < d → d < size → P c d
pairs_more P size a b before here all c d low less in_d =
    elim (cases_eq c a) as (λ _. P c d) [
      | inl e ↦ let after : a < d = omega arith in subst (λ (k : ℕ). P k d) (sym e) (here d after (omega arith))
      | inr ne ↦ before c d (omega arith) less in_d
    ]

-- one more second level
pub seconds_more : (P : ℕ → ℕ → Type 0) (a b : ℕ) → ((d : ℕ) → a < d → d < b → P a d) → P a b → (d : ℕ) → a < d → d < b + 1 → P a d
seconds_more P a b before here d after low =
    elim (cases_eq d b) as (λ _. P a d) [
      | inl e ↦ subst (λ (k : ℕ). P a k) (sym e) here
      | inr ne ↦ before d after (omega arith)
    ]

pub HasJoin-from_some : (R : ℕ → ℕ → Type 0) (n a b : ℕ) (answer : Option Level) → IfSome answer (λ c. IsJoin R n a b c.0) → is_some answer ≡ true → HasJoin R n a b
HasJoin-from_some R n a b None found is = absurd (false≢true is)
HasJoin-from_some R n a b (Some c) found is = (c.0, found)

-- the pair without a join on the other side is the pair without a meet
pub IsLeastPair-turned : (up down : List (List ℕ)) (n a b : ℕ) → length up ≡ n → AreTurned up down → IsLeastPair (length down) (LacksJoin (Related down) (length down)) a b → IsLeastPair n (LacksMeet (Related up) n) a b
IsLeastPair-turned up down n a b size turned pair =
    IsLeastPair-to n (LacksJoin (Related down) n) (LacksMeet (Related up) n)
    (LacksJoin-agree n (Related down) (Flip (Related up)) (turned-agree up down n turned))
    (LacksJoin-agree n (Flip (Related up)) (Related down) (Agree-sym n (Related down) (Flip (Related up)) (turned-agree up down n turned)))
    a b (subst (λ (k : ℕ). IsLeastPair k (LacksJoin (Related down) k) a b) (turned.rows.count ∙ size) pair)

pub IsLattice-from_checks : (up down : List (List ℕ)) (n : ℕ) → length up ≡ n → AreOrdered up → AreTurned up down → NoPair (length up) (AreCyclic (Related up)) → EachPair (length up) (HasJoin (Related up) (length up)) → EachPair (length down) (HasJoin (Related down) (length down)) → IsLattice (Related up) n
IsLattice-from_checks up down n size ordered turned no_cycle joins meets =
    subst (λ (k : ℕ). IsLattice (Related up) k) size
    (IsLattice-from_tables up down ordered turned no_cycle joins
    (subst (λ (k : ℕ). EachPair k (HasJoin (Related down) k)) turned.rows.count meets))
