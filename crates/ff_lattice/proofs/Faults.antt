-- At most one fault is the first, and a lattice has none.
use Rattle.std.proofs.Common.{◌≡◌, ◌≢◌, ℕ, ◌<◌, ◌≤◌, ◌⊎◌, inl, inr, zero, suc, List, [], refl, sym, ◌∙◌, ap, subst, arith, length, Result, Ok, Err, IfOk, IfErr, IsErrOf}
use Rattle.std.proofs.lemmas.Bool.{cases_eq, cases_order, true≢false}
use Rattle.ff_lattice.specs.declared.pair.Pair.{Pair}
use Rattle.ff_lattice.specs.declared.fault.LatticeFault.{LatticeFault}
use Rattle.ff_lattice.specs.declared.fault.LatticeFault.TheVariants.{NoLevels, TooMany, BadName, Repeated, Unknown, Cycle, NoJoin, NoMeet, NoMemory}
use Rattle.ff_lattice.specs.Bounds.{HasJoin, HasMeet, LacksJoin, LacksMeet, AreCyclic, IsLattice, IsFirst, NoPair, EachPair, IsLeastPair}
use Rattle.ff_lattice.specs.Levels.{nth, pair_at, IsRepeat, IsKnown, AreSized, AreNamed, AreApart, AreLevels, IsFirstRepeat, IsUnknownOf, IsFirstUnknown, AreLeastNames, Reaches, IsFault, IsLatticeOf}
use Rattle.ff_lattice.specs.Order.{Order}

-- ---- what comes first is one

pub IsFirst-unique : (n : ℕ) (P : ℕ → Type 0) (p q : ℕ) → IsFirst n P p → IsFirst n P q → p ≡ q
IsFirst-unique n P p q one other =
    elim (cases_order p q) as (λ _. p ≡ q) [
      | inl e ↦ e
      | inr apart ↦ elim apart as (λ _. p ≡ q) [ inl less ↦ absurd (other.first p less one.shows) | inr more ↦ absurd (one.first q more other.shows) ]
    ]

module _ (n : ℕ) (P : ℕ → ℕ → Type 0) where
  first_unique : (a b c d : ℕ) → IsLeastPair n P a b → IsLeastPair n P c d → a ≡ c
  first_unique a b c d one other =
      elim (cases_order a c) as (λ _. a ≡ c) [
        | inl e ↦ e
        | inr apart ↦ elim apart as (λ _. a ≡ c) [
          | inl less ↦ absurd (other.least_first a b less one.ordered one.within one.shows)
          | inr more ↦ absurd (one.least_first c d more other.ordered other.within other.shows)
        ]
      ]

  second_unique : (a b d : ℕ) → IsLeastPair n P a b → IsLeastPair n P a d → b ≡ d
  second_unique a b d one other =
      elim (cases_order b d) as (λ _. b ≡ d) [
        | inl e ↦ e
        | inr apart ↦ elim apart as (λ _. b ≡ d) [
          | inl less ↦ absurd (other.least_second b one.ordered less one.shows)
          | inr more ↦ absurd (one.least_second d other.ordered more other.shows)
        ]
      ]

  IsLeastPair-unique : (a b c d : ℕ) → IsLeastPair n P a b → IsLeastPair n P c d → (a ≡ c) × (b ≡ d)
  IsLeastPair-unique a b c d one other =
      let first : a ≡ c = first_unique a b c d one other in
      (first, second_unique a b d one (subst (λ (k : ℕ). IsLeastPair n P k d) (sym first) other))

names_unique : (names : List (List ℕ)) (P : ℕ → ℕ → Type 0) (low high low' high' : List ℕ) → AreLeastNames names P low high → AreLeastNames names P low' high' → (low ≡ low') × (high ≡ high')
names_unique names P low high low' high' one other =
    let same = IsLeastPair-unique (length names) P one.a one.b other.a other.b one.pair other.pair in
    (one.low_is ∙ ap (nth names) same.0 ∙ sym other.low_is, one.high_is ∙ ap (nth names) same.1 ∙ sym other.high_is)

repeat_unique : (names : List (List ℕ)) (text other : List ℕ) → IsFirstRepeat names text → IsFirstRepeat names other → text ≡ other
repeat_unique names text other one two =
    one.is ∙ ap (nth names) (IsFirst-unique (length names) (IsRepeat names) one.place two.place one.first two.first) ∙ sym two.is

known_or_not : (names : List (List ℕ)) (pair : Pair) (text : List ℕ) → IsUnknownOf names pair text → ¬ IsKnown names pair
known_or_not names pair text unknown known = elim unknown [ inl low ↦ low.0 known.0 | inr high ↦ high.1 known.1 ]

unknown_of_unique : (names : List (List ℕ)) (pair : Pair) (text other : List ℕ) → IsUnknownOf names pair text → IsUnknownOf names pair other → text ≡ other
unknown_of_unique names pair text other one two =
    elim one as (λ _. text ≡ other) [
      | inl low ↦ elim two as (λ _. text ≡ other) [ inl also ↦ low.1 ∙ sym also.1 | inr high ↦ absurd (low.0 high.0) ]
      | inr high ↦ elim two as (λ _. text ≡ other) [ inl low ↦ absurd (low.0 high.0) | inr also ↦ high.2 ∙ sym also.2 ]
    ]

unknown_unique : (names : List (List ℕ)) (below : List Pair) (text other : List ℕ) → IsFirstUnknown names below text → IsFirstUnknown names below other → text ≡ other
unknown_unique names below text other one two =
    elim (cases_order one.place two.place) as (λ _. text ≡ other) [
      | inl e ↦ unknown_of_unique names (pair_at below two.place) text other (subst (λ (k : ℕ). IsUnknownOf names (pair_at below k) text) e one.is) two.is
      | inr apart ↦ elim apart as (λ _. text ≡ other) [
        | inl less ↦ absurd (known_or_not names (pair_at below one.place) text one.is (two.first one.place less))
        | inr more ↦ absurd (known_or_not names (pair_at below two.place) other two.is (one.first two.place more))
      ]
    ]

-- ---- the tests in their order

-- the place of a fault in the order
abbrev pub stage : LatticeFault → ℕ
stage NoLevels = 0
stage TooMany = 1
stage (BadName _) = 2
stage (Repeated _) = 3
stage (Unknown _) = 4
stage (Cycle _ _) = 5
stage (NoJoin _ _) = 6
stage (NoMeet _ _) = 7
stage NoMemory = 8

stage_low : (fault : LatticeFault) → suc (stage fault) ≤ 9
stage_low NoLevels = omega arith
stage_low TooMany = omega arith
stage_low (BadName _) = omega arith
stage_low (Repeated _) = omega arith
stage_low (Unknown _) = omega arith
stage_low (Cycle _ _) = omega arith
stage_low (NoJoin _ _) = omega arith
stage_low (NoMeet _ _) = omega arith
stage_low NoMemory = omega arith

module _ (names : List (List ℕ)) (below : List Pair) where
  abbrev n : ℕ
  n = length names

  abbrev R : ℕ → ℕ → Type 0
  R = Reaches names below

  -- names and pairs pass the tests before this place
  abbrev pub Passed : ℕ → Type 0
  Passed zero = Unit {0}
  Passed (suc zero) = 1 ≤ length names
  Passed (suc (suc zero)) = AreSized names
  Passed (suc (suc (suc zero))) = AreNamed names
  Passed (suc (suc (suc (suc zero)))) = AreApart names
  Passed (suc (suc (suc (suc (suc zero))))) = AreLevels names below
  Passed (suc (suc (suc (suc (suc (suc zero)))))) = AreLevels names below × NoPair n (AreCyclic R)
  Passed (suc (suc (suc (suc (suc (suc (suc zero))))))) = AreLevels names below × NoPair n (AreCyclic R) × EachPair n (HasJoin R n)
  Passed (suc (suc (suc (suc (suc (suc (suc (suc _)))))))) = AreLevels names below × NoPair n (AreCyclic R) × EachPair n (HasJoin R n) × EachPair n (HasMeet R n)

  one_less : (s : ℕ) → Passed (suc s) → Passed s
  one_less zero passed = tt
  one_less (suc zero) passed = passed.some
  one_less (suc (suc zero)) passed = passed.sized
  one_less (suc (suc (suc zero))) passed = passed.named
  one_less (suc (suc (suc (suc zero)))) passed = passed.apart
  one_less (suc (suc (suc (suc (suc zero))))) passed = passed.0
  one_less (suc (suc (suc (suc (suc (suc zero)))))) passed = (passed.0, passed.1)
  one_less (suc (suc (suc (suc (suc (suc (suc zero))))))) passed = (passed.0, passed.1, passed.2)
  one_less (suc (suc (suc (suc (suc (suc (suc (suc s)))))))) passed = passed

  pub Passed-less : (t s : ℕ) → s ≤ t → Passed t → Passed s
  Passed-less zero s low passed = let e : s ≡ 0 = omega arith in subst Passed (sym e) tt
  Passed-less (suc t) s low passed =
      elim (cases_eq s (suc t)) as (λ _. Passed s) [
        | inl e ↦ subst Passed (sym e) passed
        | inr ne ↦ Passed-less t s (omega arith) (one_less t passed)
      ]

  -- a fault comes after the tests before it
  passed_before : (fault : LatticeFault) → IsFault names below fault → Passed (stage fault)
  passed_before NoLevels shown = tt
  passed_before TooMany shown = omega arith
  passed_before (BadName _) shown = shown.0
  passed_before (Repeated _) shown = shown.0
  passed_before (Unknown _) shown = shown.0
  passed_before (Cycle _ _) shown = shown.0
  passed_before (NoJoin _ _) shown = (shown.0, shown.1.0)
  passed_before (NoMeet _ _) shown = (shown.0, shown.1.0, shown.1.1)
  passed_before NoMemory shown = absurd shown

  no_names : names ≡ [] → 1 ≤ length names → ⊥
  no_names none some = let long : length names ≡ 0 = ap length none in omega arith

  -- and fails its own
  pub fails : (fault : LatticeFault) → IsFault names below fault → ¬ Passed (suc (stage fault))
  fails NoLevels shown passed = no_names shown passed
  fails TooMany shown passed = let few : length names ≤ 16 = passed.few in omega arith
  fails (BadName place) shown passed = true≢false (sym (passed.named place shown.1.within) ∙ shown.1.shows)
  fails (Repeated _) shown passed = passed.apart shown.1.place shown.1.first.within shown.1.first.shows
  fails (Unknown text) shown passed = known_or_not names (pair_at below shown.1.place) text shown.1.is (passed.known shown.1.place shown.1.within)
  fails (Cycle _ _) shown passed = passed.1 shown.1.a shown.1.b shown.1.pair.ordered shown.1.pair.within shown.1.pair.shows
  fails (NoJoin _ _) shown passed = shown.1.1.pair.shows (passed.2 shown.1.1.a shown.1.1.b shown.1.1.pair.ordered shown.1.1.pair.within)
  fails (NoMeet _ _) shown passed = shown.1.2.pair.shows (passed.3 shown.1.2.a shown.1.2.b shown.1.2.pair.ordered shown.1.2.pair.within)
  fails NoMemory shown passed = absurd shown

  clash : (one other : LatticeFault) → IsFault names below one → IsFault names below other → ¬ (stage one < stage other)
  clash one other is_one is_other less = fails one is_one (Passed-less (stage other) (suc (stage one)) less (passed_before other is_other))

  stage_unique : (one other : LatticeFault) → IsFault names below one → IsFault names below other → stage one ≡ stage other
  stage_unique one other is_one is_other =
      elim (cases_order (stage one) (stage other)) as (λ _. stage one ≡ stage other) [
        | inl e ↦ e
        | inr apart ↦ elim apart as (λ _. stage one ≡ stage other) [ inl less ↦ absurd (clash one other is_one is_other less) | inr more ↦ absurd (clash other one is_other is_one more) ]
      ]

  at_stage : (one other : LatticeFault) → stage one ≡ stage other → IsFault names below one → IsFault names below other → one ≡ other
  at_stage NoLevels NoLevels _ a b = refl
  at_stage TooMany TooMany _ a b = refl
  at_stage (BadName p) (BadName q) _ a b = ap BadName (IsFirst-unique n _ p q a.1 b.1)
  at_stage (Repeated x) (Repeated y) _ a b = ap Repeated (repeat_unique names x y a.1 b.1)
  at_stage (Unknown x) (Unknown y) _ a b = ap Unknown (unknown_unique names below x y a.1 b.1)
  at_stage (Cycle x y) (Cycle z w) _ a b = let same = names_unique names (AreCyclic R) x y z w a.1 b.1 in λ i. Cycle (same.0 i) (same.1 i)
  at_stage (NoJoin x y) (NoJoin z w) _ a b = let same = names_unique names (LacksJoin R n) x y z w a.1.1 b.1.1 in λ i. NoJoin (same.0 i) (same.1 i)
  at_stage (NoMeet x y) (NoMeet z w) _ a b = let same = names_unique names (LacksMeet R n) x y z w a.1.2 b.1.2 in λ i. NoMeet (same.0 i) (same.1 i)
  at_stage one other same a b = absurd (omega arith)

  pub IsFault-unique : (one other : LatticeFault) → IsFault names below one → IsFault names below other → one ≡ other
  IsFault-unique one other is_one is_other = at_stage one other (stage_unique one other is_one is_other) is_one is_other

  -- a lattice has no fault
  pub no_fault : AreLevels names below → IsLattice R n → (fault : LatticeFault) → ¬ IsFault names below fault
  no_fault levels lattice fault shown =
      fails fault shown (Passed-less 9 (suc (stage fault)) (stage_low fault) (
        levels,
        (λ a b less in_b both. let in_a : a < length names = omega arith in let same : a ≡ b = lattice.antisymmetric a b in_a in_b both.0 both.1 in omega (arith, same, less)),
        (λ a b less in_b. lattice.joins a b (omega arith) in_b),
        (λ a b less in_b. lattice.meets a b (omega arith) in_b),
      ))

  pub memory_or : (fault : LatticeFault) → (fault ≡ NoMemory) ⊎ (fault ≢ NoMemory)
  memory_or NoMemory = inl refl
  memory_or NoLevels = inr (λ e. cc)
  memory_or TooMany = inr (λ e. cc)
  memory_or (BadName _) = inr (λ e. cc)
  memory_or (Repeated _) = inr (λ e. cc)
  memory_or (Unknown _) = inr (λ e. cc)
  memory_or (Cycle _ _) = inr (λ e. cc)
  memory_or (NoJoin _ _) = inr (λ e. cc)
  memory_or (NoMeet _ _) = inr (λ e. cc)

  -- an answer that is right where it comes refuses no lattice
  pub accepts_from : (answer : Result Order LatticeFault) → IfErr answer (λ fault. fault ≢ NoMemory → IsFault names below fault) → AreLevels names below → IsLattice R n → IfErr answer (λ fault. fault ≡ NoMemory)
  accepts_from (Ok order) right levels lattice = tt
  accepts_from (Err fault) right levels lattice = elim (memory_or fault) as (λ _. fault ≡ NoMemory) [ inl e ↦ e | inr named ↦ absurd (no_fault levels lattice fault (right named)) ]

  -- and it gives each fault that there is
  pub only_from : (answer : Result Order LatticeFault) → IfOk answer (IsLatticeOf names below) → IfErr answer (λ fault. fault ≢ NoMemory → IsFault names below fault) → (fault : LatticeFault) → IsFault names below fault → IsErrOf answer fault ⊎ IsErrOf answer NoMemory
  only_from (Ok order) good right fault shown = absurd (no_fault good.levels good.lattice fault shown)
  only_from (Err other) good right fault shown =
      elim (memory_or other) as (λ _. IsErrOf {T = Order} (Err other) fault ⊎ IsErrOf {T = Order} (Err other) NoMemory) [
        | inl e ↦ inr (ap Err e)
        | inr named ↦ inl (ap Err (IsFault-unique other fault (right named) shown))
      ]
