-- Lemmas on tables of a relation: a row for each level.
use Rattle.std.proofs.Common.{◌≡◌, ℕ, ◌+◌, ◌<◌, ◌≤◌, ◌⊎◌, inl, inr, Bool, true, false, ◌&&◌, ◌||◌, eqb, ltb, List, [], refl, sym, ◌∙◌, ap, subst, arith, cond, length, get_or, set}
use Rattle.std.proofs.lemmas.Bool.{cases_eq, cases_lt, cond_both, or_cases, or_left, or_right, and_parts, eq-eqb, eqb-true, false≢true}
use Rattle.std.proofs.lemmas.Bool.Decides.{nat_tests}
use Rattle.std.proofs.lemmas.List.{get_or-set_same, get_or-set_other, length-set, get_or_default, get_or_past}
use Rattle.ff_lattice.specs.LevelSet.{has, levels_where, IsLevelSet}
use Rattle.ff_lattice.specs.LevelBits.{has-levels_where}
use Rattle.ff_lattice.specs.Relation.{related, Related, IsRelation, IsEqual, Relates, Passes, AreTurned}
use Rattle.ff_lattice.proofs.LevelSets.{has_in_range, levels_same, IsLevelSet-levels_where, levels_where_none}

-- ---- a set that a test makes

pub made_holds : (p : ℕ → Bool) (l : ℕ) → l < 16 → p l ≡ true → has (levels_where p) l ≡ true
made_holds p l in_l passes = has_in_range p l in_l ∙ passes

pub made_passes : (p : ℕ → Bool) (l : ℕ) → has (levels_where p) l ≡ true → p l ≡ true
made_passes p l held = (and_parts (ltb l 16) (p l) (sym (has-levels_where p l) ∙ held)).1

pub same_tests : (x y : Bool) → (x ≡ true → y ≡ true) → (y ≡ true → x ≡ true) → x ≡ y
same_tests true y to from = sym (to refl)
same_tests false true to from = from refl
same_tests false false to from = refl

pub IsLevelSet-nil : IsLevelSet []
IsLevelSet-nil = sym (levels_where_none (has []) (λ l. refl))

and_true : (b : Bool) → (b && true) ≡ b
and_true true = refl
and_true false = refl

and_false : (b : Bool) → (b && false) ≡ false
and_false true = refl
and_false false = refl

or_false : (b : Bool) → (b || false) ≡ b
or_false true = refl
or_false false = refl

next_column : (number : ℕ) (r : Bool) → (ltb number (number + 1) && r) ≡ ((ltb number number && r) || (eqb number number && r))
next_column number r = grind (arith, nat_tests)

other_column : (m number : ℕ) (r s : Bool) → (m ≡ number → ⊥) → (ltb m (number + 1) && r) ≡ ((ltb m number && r) || (eqb m number && s))
other_column m number r s ne = grind (arith, nat_tests)

-- ---- one row is changed

-- what holds of the new row, and of each other row, holds of each
at_row : (rows : List (List ℕ)) (low : ℕ) (new : List ℕ) (P : ℕ → List ℕ → Type 0) → low < length rows → P low new → ((a : ℕ) → P a (get_or rows a [])) → (a : ℕ) → P a (get_or (set rows low new) a [])
at_row rows low new P in_low here other a =
    elim (cases_eq a low) as (λ _. P a (get_or (set rows low new) a [])) [
      | inl e ↦ subst (λ (i : ℕ). P i (get_or (set rows low new) i [])) (sym e) (subst (λ (r : List ℕ). P low r) (sym (get_or-set_same rows low new [] in_low)) here)
      | inr ne ↦ subst (λ (r : List ℕ). P a r) (sym (get_or-set_other rows low a new [] ne)) (other a)
    ]

module _ (old : List (List ℕ)) (low high : ℕ) (valid : IsRelation (length old) old) (in_low : low < length old) (in_high : high < length old) where
  abbrev with_high : ℕ → Bool
  with_high m = has (get_or old low []) m || eqb m high

  abbrev new_row : List ℕ
  new_row = levels_where with_high

  in_sixteen : (b : ℕ) → b < length old → b < 16
  in_sixteen b h = omega (arith, valid.few)

  new_within : (b : ℕ) → has new_row b ≡ true → b < length old
  new_within b held =
      elim (or_cases (has (get_or old low []) b) (eqb b high) (made_passes with_high b held)) [
        | inl before ↦ valid.within low b before
        | inr is ↦ let e : b ≡ high = eqb-true b high is in omega arith
      ]

  new_grows : (b : ℕ) → Related old low b → has new_row b ≡ true
  new_grows b before = made_holds with_high b (in_sixteen b (valid.within low b before)) (or_left (has (get_or old low []) b) (eqb b high) before)

  new_sound : (b : ℕ) → has new_row b ≡ true → Related old low b ⊎ ((low ≡ low) × (b ≡ high))
  new_sound b held =
      elim (or_cases (has (get_or old low []) b) (eqb b high) (made_passes with_high b held)) as (λ _. Related old low b ⊎ ((low ≡ low) × (b ≡ high))) [
        | inl before ↦ inl before
        | inr is ↦ inr (refl, eqb-true b high is)
      ]

  pub relates_new_row : Relates old (set old low new_row) low high
  relates_new_row = record {
    rows = record {
      few = valid.few;
      count = length-set old low new_row;
      set = at_row old low new_row (λ _ r. IsLevelSet r) in_low (IsLevelSet-levels_where with_high) valid.set;
      within = λ a b. at_row old low new_row (λ _ r. has r b ≡ true → b < length old) in_low (new_within b) (λ i. valid.within i b) a;
    };
    grows = λ a b. at_row old low new_row (λ i r. Related old i b → has r b ≡ true) in_low (new_grows b) (λ i before. before) a;
    held =
        ap (λ (r : List ℕ). has r high) (get_or-set_same old low new_row [] in_low)
        ∙ made_holds with_high high (in_sixteen high in_high) (or_right (has (get_or old low []) high) (eqb high high) (eq-eqb high high refl));
    sound = λ a b. at_row old low new_row (λ i r. has r b ≡ true → Related old i b ⊎ ((i ≡ low) × (b ≡ high))) in_low (new_sound b) (λ i held. inl held) a;
  }

-- the row that `relate` writes
pub relates_set : (old : List (List ℕ)) (low high : ℕ) (d new : List ℕ) → IsRelation (length old) old → low < length old → high < length old → new ≡ levels_where (λ m. has (get_or old low d) m || eqb m high) → Relates old (set old low new) low high
relates_set old low high d new valid in_low in_high new_is =
    let new_at : new ≡ levels_where (λ m. has (get_or old low []) m || eqb m high) =
    new_is ∙ ap (λ (r : List ℕ). levels_where (λ m. has r m || eqb m high)) (get_or_default old low d [] in_low) in
    subst (λ (r : List ℕ). Relates old (set old low r) low high) (sym new_at) (relates_new_row old low high valid in_low in_high)

-- ---- a pass

-- a row after the pass: it takes in what the middle reaches, if it holds the middle
abbrev pub through : ℕ → List ℕ → List ℕ → List ℕ
through middle reached row = cond (has row middle) (levels_where (λ m. has row m || has reached m)) row

module _ (middle : ℕ) (reached row : List ℕ) where
  abbrev joined : ℕ → Bool
  joined m = has row m || has reached m

  through-set : IsLevelSet row → IsLevelSet (through middle reached row)
  through-set set = cond_both (has row middle) (levels_where joined) row (λ r. IsLevelSet r) (λ _. IsLevelSet-levels_where joined) (λ _. set)

  through-grows : (b : ℕ) → b < 16 → has row b ≡ true → has (through middle reached row) b ≡ true
  through-grows b in_b held = cond_both (has row middle) (levels_where joined) row (λ r. has r b ≡ true) (λ _. made_holds joined b in_b (or_left (has row b) (has reached b) held)) (λ _. held)

  through-held : (b : ℕ) → b < 16 → has row middle ≡ true → has reached b ≡ true → has (through middle reached row) b ≡ true
  through-held b in_b on held =
      cond_both (has row middle) (levels_where joined) row (λ r. has r b ≡ true)
      (λ _. made_holds joined b in_b (or_right (has row b) (has reached b) held))
      (λ off. absurd (false≢true (sym off ∙ on)))

  through-sound : (b : ℕ) → has (through middle reached row) b ≡ true → (has row b ≡ true) ⊎ ((has row middle ≡ true) × (has reached b ≡ true))
  through-sound b =
      cond_both (has row middle) (levels_where joined) row (λ r. has r b ≡ true → (has row b ≡ true) ⊎ ((has row middle ≡ true) × (has reached b ≡ true)))
      (λ on held. elim (or_cases (has row b) (has reached b) (made_passes joined b held)) as (λ _. (has row b ≡ true) ⊎ ((has row middle ≡ true) × (has reached b ≡ true))) [ inl before ↦ inl before | inr more ↦ inr (on, more) ])
      (λ _ held. inl held)

module _ (old new : List (List ℕ)) (middle : ℕ) (valid : IsRelation (length old) old) (same : length new ≡ length old) (each : (j : ℕ) → j < length old → get_or new j [] ≡ through middle (get_or old middle []) (get_or old j [])) where
  each_row : (j : ℕ) → get_or new j [] ≡ through middle (get_or old middle []) (get_or old j [])
  each_row j =
      elim (cases_lt j (length old)) as (λ _. get_or new j [] ≡ through middle (get_or old middle []) (get_or old j [])) [
        | inl in_j ↦ each j in_j
        | inr far ↦ let past : length new ≤ j = omega arith in
            get_or_past new j [] past ∙ sym (ap (λ (r : List ℕ). through middle (get_or old middle []) r) (get_or_past old j [] far))
      ]

  at_each : (P : ℕ → List ℕ → Type 0) → ((j : ℕ) → P j (through middle (get_or old middle []) (get_or old j []))) → (j : ℕ) → P j (get_or new j [])
  at_each P holds j = subst (λ (r : List ℕ). P j r) (sym (each_row j)) (holds j)

  reaches_within : (a b : ℕ) → Related old a b → b < 16
  reaches_within a b held = let in_b : b < length old = valid.within a b held in omega (arith, valid.few)

  new_row_within : (b j : ℕ) → has (through middle (get_or old middle []) (get_or old j [])) b ≡ true → b < length old
  new_row_within b j held =
      elim (through-sound middle (get_or old middle []) (get_or old j []) b held) [ inl before ↦ valid.within j b before | inr more ↦ valid.within middle b more.1 ]

  pub passes_from_rows : Passes old new middle
  passes_from_rows = record {
    rows = record {
      few = valid.few;
      count = same;
      set = at_each (λ _ r. IsLevelSet r) (λ j. through-set middle (get_or old middle []) (get_or old j []) (valid.set j));
      within = λ a b. at_each (λ _ r. has r b ≡ true → b < length old) (new_row_within b) a;
    };
    grows = λ a b before. at_each (λ j r. Related old j b → has r b ≡ true) (λ j held. through-grows middle (get_or old middle []) (get_or old j []) b (reaches_within j b held) held) a before;
    held = λ a b on more. at_each (λ j r. Related old j middle → has r b ≡ true) (λ j first. through-held middle (get_or old middle []) (get_or old j []) b (reaches_within middle b more) first more) a on;
    sound = λ a b. at_each (λ j r. has r b ≡ true → Related old j b ⊎ (Related old j middle × Related old middle b)) (λ j. through-sound middle (get_or old middle []) (get_or old j []) b) a;
  }

-- ---- a table that grows by a row

-- ---- each level related to itself

-- the set of one level
abbrev pub only : ℕ → List ℕ
only l = levels_where (λ m. has [] m || eqb m l)

module _ (n : ℕ) (table : List (List ℕ)) (few : n ≤ 16) (count : length table ≡ n) (each : (j : ℕ) → j < n → get_or table j [] ≡ only j) where
  only_held : (j : ℕ) → j < n → has (get_or table j []) j ≡ true
  only_held j in_j = ap (λ (r : List ℕ). has r j) (each j in_j) ∙ made_holds (λ m. has [] m || eqb m j) j (omega arith) (eq-eqb j j refl)

  only_sound : (a b : ℕ) → Related table a b → (a ≡ b) × (b < n)
  only_sound a b held =
      elim (cases_lt a n) as (λ _. (a ≡ b) × (b < n)) [
        | inl in_a ↦
            let is : b ≡ a = eqb-true b a (made_passes (λ m. has [] m || eqb m a) b (sym (ap (λ (r : List ℕ). has r b) (each a in_a)) ∙ held)) in
            (sym is, omega arith)
        | inr far ↦ let past : length table ≤ a = omega arith in
            absurd (false≢true (sym (ap (λ (r : List ℕ). has r b) (get_or_past table a [] past)) ∙ held))
      ]

  only_set : (l : ℕ) → IsLevelSet (get_or table l [])
  only_set l =
      elim (cases_lt l n) as (λ _. IsLevelSet (get_or table l [])) [
        | inl in_l ↦ subst IsLevelSet (sym (each l in_l)) (IsLevelSet-levels_where (λ m. has [] m || eqb m l))
        | inr far ↦ let past : length table ≤ l = omega arith in
            subst IsLevelSet (sym (get_or_past table l [] past)) IsLevelSet-nil
      ]

  pub IsEqual-from_rows : IsEqual n table
  IsEqual-from_rows = record {
    rows = record { few = few; count = count; set = only_set; within = λ a b held. (only_sound a b held).1 };
    held = only_held;
    sound = λ a b held. (only_sound a b held).0;
  }

-- ---- a table turned

-- the levels that are related to b
abbrev pub column : List (List ℕ) → ℕ → List ℕ
column up b = levels_where (λ l. related up l b)

module _ (up down : List (List ℕ)) (valid : IsRelation (length up) up) (count : length down ≡ length up) (each : (j : ℕ) → j < length up → get_or down j [] ≡ column up j) where
  related_first : (a b : ℕ) → Related up a b → a < length up
  related_first a b held =
      elim (cases_lt a (length up)) as (λ _. a < length up) [
        | inl in_a ↦ in_a
        | inr far ↦ absurd (false≢true (sym (ap (λ (r : List ℕ). has r b) (get_or_past up a [] far)) ∙ held))
      ]

  turned_held : (a b : ℕ) → Related up a b → Related down b a
  turned_held a b held =
      let in_b : b < length up = valid.within a b held in
      let in_a : a < length up = related_first a b held in
      ap (λ (r : List ℕ). has r a) (each b in_b) ∙ made_holds (λ l. related up l b) a (omega (arith, valid.few)) held

  turned_sound : (a b : ℕ) → Related down b a → Related up a b
  turned_sound a b held =
      elim (cases_lt b (length up)) as (λ _. Related up a b) [
        | inl in_b ↦ made_passes (λ l. related up l b) a (sym (ap (λ (r : List ℕ). has r a) (each b in_b)) ∙ held)
        | inr far ↦ let past : length down ≤ b = omega arith in
            absurd (false≢true (sym (ap (λ (r : List ℕ). has r a) (get_or_past down b [] past)) ∙ held))
      ]

  turned_set : (l : ℕ) → IsLevelSet (get_or down l [])
  turned_set l =
      elim (cases_lt l (length up)) as (λ _. IsLevelSet (get_or down l [])) [
        | inl in_l ↦ subst IsLevelSet (sym (each l in_l)) (IsLevelSet-levels_where (λ k. related up k l))
        | inr far ↦ let past : length down ≤ l = omega arith in
            subst IsLevelSet (sym (get_or_past down l [] past)) IsLevelSet-nil
      ]

  pub AreTurned-from_rows : AreTurned up down
  AreTurned-from_rows = record {
    rows = record { few = valid.few; count = count; set = turned_set; within = λ a b held. related_first b a (turned_sound b a held) };
    turned = λ a b. same_tests (related down b a) (related up a b) (turned_sound a b) (turned_held a b);
  }

-- ---- the levels that are related to one, so far

more_column : (up : List (List ℕ)) (high number m : ℕ) → (ltb m (number + 1) && related up m high) ≡ ((ltb m number && related up m high) || (eqb m number && related up number high))
more_column up high number m =
    elim (cases_eq m number) as (λ _. (ltb m (number + 1) && related up m high) ≡ ((ltb m number && related up m high) || (eqb m number && related up number high))) [
      | inl e ↦ subst (λ (k : ℕ). (ltb k (number + 1) && related up k high) ≡ ((ltb k number && related up k high) || (eqb k number && related up number high))) (sym e) (next_column number (related up number high))
      | inr ne ↦ other_column m number (related up m high) (related up number high) ne
    ]

-- a level that is related is added
pub column_with : (up : List (List ℕ)) (high number : ℕ) (levels : List ℕ) → related up number high ≡ true → levels ≡ levels_where (λ m. ltb m number && related up m high) → levels_where (λ m. has levels m || eqb m number) ≡ levels_where (λ m. ltb m (number + 1) && related up m high)
column_with up high number levels is levels_are =
    levels_same _ _ (λ m in_m.
    ap (λ (s : List ℕ). has s m || eqb m number) levels_are
    ∙ ap (λ b. b || eqb m number) (has_in_range (λ k. ltb k number && related up k high) m in_m)
    ∙ ap (λ b. (ltb m number && related up m high) || b) (sym (ap (λ b. eqb m number && b) is ∙ and_true (eqb m number)))
    ∙ sym (more_column up high number m))

-- and one that isn't, is not
pub column_without : (up : List (List ℕ)) (high number : ℕ) (levels : List ℕ) → related up number high ≡ false → levels ≡ levels_where (λ m. ltb m number && related up m high) → levels ≡ levels_where (λ m. ltb m (number + 1) && related up m high)
column_without up high number levels is levels_are =
    levels_are
    ∙ levels_same _ _ (λ m in_m.
    sym (more_column up high number m
    ∙ ap (λ b. (ltb m number && related up m high) || b) (ap (λ b. eqb m number && b) is ∙ and_false (eqb m number))
    ∙ or_false (ltb m number && related up m high)))
