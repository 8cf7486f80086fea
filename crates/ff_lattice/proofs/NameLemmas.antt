-- Lemmas on the names of levels.
use Rattle.std.proofs.Common.{◌≡◌, ◌≢◌, ℕ, ◌+◌, ◌<◌, ◌⊎◌, inl, inr, zero, suc, Bool, true, false, nat_eq, not, cond, List, [], ◌∷◌, ◌++◌, sym, ◌∙◌, ap, subst, arith, length, take}
use Rattle.std.specs.Cmp.Lexicographic.{pointwise, same_text, other_text}
use Rattle.std.specs.List.{list_any}
use Rattle.std.proofs.lemmas.Bool.{cases_eq, cases_order, or_cases, or_parts, false≢true, not-true, not-false, cond-false}
use Rattle.std.proofs.lemmas.List.{get_or-take, length-take-le, take_more}
use Rattle.ff_lattice.specs.declared.pair.Pair.{Pair}
use Rattle.ff_lattice.specs.declared.fault.LatticeFault.TheVariants.{Unknown}
use Rattle.ff_lattice.specs.Levels.{nth, pair_at, IsRepeat, IsLevel, IsKnown, IsAmongFirst, AreApart, IsFault}
use Rattle.ff_lattice.specs.Relation.{Related, IsRelation, HoldPairs, Relates}

-- a name that some name is equal to is that of a level
pub level_from_any : (names : List (List ℕ)) (text : List ℕ) → list_any (pointwise nat_eq text) names ≡ true → IsLevel names text
level_from_any [] text found = absurd (false≢true found)
level_from_any (n ∷ ns) text found =
    elim (or_cases (pointwise nat_eq text n) (list_any (pointwise nat_eq text) ns) found) as (λ _. IsLevel (n ∷ ns) text) [
      | inl here ↦ (0, omega arith, sym (same_text text n (sym here)))
      | inr later ↦ let level : IsLevel ns text = level_from_any ns text later in (suc level.0, omega arith, level.2)
    ]

-- and one that none is, is not
pub no_level_from_any : (names : List (List ℕ)) (text : List ℕ) → list_any (pointwise nat_eq text) names ≡ false → (l : ℕ) → l < length names → nth names l ≢ text
no_level_from_any [] text none l in_l e = absurd (omega arith)
no_level_from_any (n ∷ ns) text none zero in_l e = other_text text n (sym (or_parts (pointwise nat_eq text n) (list_any (pointwise nat_eq text) ns) none).0) (sym e)
no_level_from_any (n ∷ ns) text none (suc l) in_l e =
    no_level_from_any ns text (or_parts (pointwise nat_eq text n) (list_any (pointwise nat_eq text) ns) none).1 l (omega arith) e

-- a name that is among those before it is a repeat
pub repeat_from_any : (names : List (List ℕ)) (place : ℕ) → place < length names → list_any (pointwise nat_eq (nth names place)) (take place names) ≡ true → IsRepeat names place
repeat_from_any names place in_place found =
    let level : IsLevel (take place names) (nth names place) = level_from_any (take place names) (nth names place) found in
    let long : length (take place names) ≡ place = length-take-le place names (omega arith) in
    let before : level.0 < place = omega arith in
    (level.0, before, sym (get_or-take place names level.0 [] before) ∙ level.2)

pub no_repeat_from_any : (names : List (List ℕ)) (place : ℕ) → place < length names → list_any (pointwise nat_eq (nth names place)) (take place names) ≡ false → ¬ IsRepeat names place
no_repeat_from_any names place in_place none repeat =
    let long : length (take place names) ≡ place = length-take-le place names (omega arith) in
    let before : repeat.0 < place = repeat.1 in
    no_level_from_any (take place names) (nth names place) none repeat.0 (omega arith) (get_or-take place names repeat.0 [] before ∙ repeat.2)

-- ---- names that are put into a set one after another

module _ (names keys : List (List ℕ)) (place : ℕ) (value : List ℕ) (is_new : Bool) (in_place : place < length names) (keys_are : keys ≡ take place names) (value_is : value ≡ nth names place) (added : is_new ≡ not (list_any (pointwise nat_eq value) keys)) where
  found_is : list_any (pointwise nat_eq value) keys ≡ list_any (pointwise nat_eq (nth names place)) (take place names)
  found_is = λ i. list_any (pointwise nat_eq (value_is i)) (keys_are i)

  pub repeat_from_added : is_new ≡ false → IsRepeat names place
  repeat_from_added old = repeat_from_any names place in_place (sym found_is ∙ not-false (list_any (pointwise nat_eq value) keys) (sym added ∙ old))

  pub no_repeat_from_added : is_new ≡ true → ¬ IsRepeat names place
  no_repeat_from_added new = no_repeat_from_any names place in_place (sym found_is ∙ not-true (list_any (pointwise nat_eq value) keys) (sym added ∙ new))

  pub keys_more : (after : List (List ℕ)) → after ≡ cond (list_any (pointwise nat_eq value) keys) keys (keys ++ value ∷ []) → is_new ≡ true → after ≡ take (place + 1) names
  keys_more after after_is new =
      after_is
      ∙ cond-false (list_any (pointwise nat_eq value) keys) keys (keys ++ value ∷ []) (not-true (list_any (pointwise nat_eq value) keys) (sym added ∙ new))
      ∙ (λ i. keys_are i ++ value_is i ∷ [])
      ∙ sym (take_more names place [] in_place)

-- names without repeats tell their levels apart
pub level_is : (names : List (List ℕ)) → AreApart names → (a b : ℕ) → a < length names → b < length names → nth names a ≡ nth names b → a ≡ b
level_is names apart a b in_a in_b same =
    elim (cases_order a b) as (λ _. a ≡ b) [
      | inl e ↦ e
      | inr other ↦ elim other as (λ _. a ≡ b) [
        | inl less ↦ absurd (apart.apart b in_b (a, less, same))
        | inr more ↦ absurd (apart.apart a in_a (b, more, sym same))
      ]
    ]

less_than : (k n : ℕ) → k < n + 1 → (k ≡ n → ⊥) → k < n
less_than k n h ne = omega arith

-- ---- the pairs so far

module _ (count : ℕ) (names : List (List ℕ)) (below : List Pair) (old new : List (List ℕ)) (low high : ℕ) (apart : AreApart names) (so_far : HoldPairs count names below old) (in_low : low < length names) (in_high : high < length names) (low_is : nth names low ≡ (pair_at below count).low) (high_is : nth names high ≡ (pair_at below count).high) (relates : Relates old new low high) where
  known_more : (k : ℕ) → k < count + 1 → IsKnown names (pair_at below k)
  known_more k in_k =
      elim (cases_eq k count) as (λ _. IsKnown names (pair_at below k)) [
        | inl e ↦ subst (λ (i : ℕ). IsKnown names (pair_at below i)) (sym e) ((low, in_low, low_is), (high, in_high, high_is))
        | inr ne ↦ so_far.known k (omega arith)
      ]

  among_more : (a b : ℕ) → IsAmongFirst count below (nth names a) (nth names b) → IsAmongFirst (count + 1) below (nth names a) (nth names b)
  among_more a b some = let before : some.0 < count = some.1 in (some.0, omega arith, some.2, some.3)

  sound_more : (a b : ℕ) → Related new a b → (a ≡ b) ⊎ IsAmongFirst (count + 1) below (nth names a) (nth names b)
  sound_more a b held =
      elim (relates.sound a b held) as (λ _. (a ≡ b) ⊎ IsAmongFirst (count + 1) below (nth names a) (nth names b)) [
        | inl before ↦ elim (so_far.sound a b before) as (λ _. (a ≡ b) ⊎ IsAmongFirst (count + 1) below (nth names a) (nth names b)) [
          | inl same ↦ inl same
          | inr some ↦ inr (among_more a b some)
        ]
        | inr here ↦ inr (count, omega arith, sym (ap (nth names) here.0 ∙ low_is), sym (ap (nth names) here.1 ∙ high_is))
      ]

  held_here : (a b : ℕ) → a < length names → b < length names → (pair_at below count).low ≡ nth names a → (pair_at below count).high ≡ nth names b → Related new a b
  held_here a b in_a in_b a_is b_is =
      let low_a : low ≡ a = level_is names apart low a in_low in_a (low_is ∙ a_is) in
      let high_b : high ≡ b = level_is names apart high b in_high in_b (high_is ∙ b_is) in
      subst (λ (i : ℕ). Related new i b) low_a (subst (λ (j : ℕ). Related new low j) high_b relates.held)

  held_more : (a b : ℕ) → a < length names → b < length names → IsAmongFirst (count + 1) below (nth names a) (nth names b) → Related new a b
  held_more a b in_a in_b some =
      elim (cases_eq some.0 count) as (λ _. Related new a b) [
        | inl e ↦ held_here a b in_a in_b (sym (ap (λ (k : ℕ). (pair_at below k).low) e) ∙ some.2) (sym (ap (λ (k : ℕ). (pair_at below k).high) e) ∙ some.3)
        | inr ne ↦
            let in_k : some.0 < count + 1 = some.1 in
            relates.grows a b (so_far.held a b in_a in_b (some.0, less_than some.0 count in_k ne, some.2, some.3))
      ]

  pub HoldPairs-more : HoldPairs (count + 1) names below new
  HoldPairs-more = record {
    rows = subst (λ (n : ℕ). IsRelation n new) so_far.rows.count relates.rows;
    known = known_more;
    reflexive = λ a in_a. relates.grows a a (so_far.reflexive a in_a);
    sound = sound_more;
    held = held_more;
  }

pub unknown_low : (names : List (List ℕ)) (below : List Pair) (place : ℕ) (text : List ℕ) → AreApart names → place < length below → ((k : ℕ) → k < place → IsKnown names (pair_at below k)) → text ≡ (pair_at below place).low → ¬ IsLevel names text → IsFault names below (Unknown text)
unknown_low names below place text apart within first text_is none =
    (apart, record { place = place; within = within; first = first; is = inl (subst (λ (t : List ℕ). ¬ IsLevel names t) text_is none, text_is) })

pub unknown_high : (names : List (List ℕ)) (below : List Pair) (place : ℕ) (text : List ℕ) → AreApart names → place < length below → ((k : ℕ) → k < place → IsKnown names (pair_at below k)) → IsLevel names (pair_at below place).low → text ≡ (pair_at below place).high → ¬ IsLevel names text → IsFault names below (Unknown text)
unknown_high names below place text apart within first known text_is none =
    (apart, record { place = place; within = within; first = first; is = inr (known, subst (λ (t : List ℕ). ¬ IsLevel names t) text_is none, text_is) })
