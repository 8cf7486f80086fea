-- The two levels L and H are a lattice.
use Rattle.std.proofs.Common.{◌≡◌, ℕ, ◌<◌, ◌≤◌, zero, suc, true, false, eqb, ◌||◌, List, [], ◌∷◌, get_or, refl, sym, subst, ap, arith}
use Rattle.std.proofs.lemmas.Bool.{false≢true}
use Rattle.std.proofs.lemmas.Bool.Decides.{nat_tests}
use Rattle.ff_lattice.specs.Bounds.{HasJoin, HasMeet}
use Rattle.ff_lattice.specs.LevelSet.{has, levels_where, IsLevelSet, below}
use Rattle.ff_lattice.specs.Order.{Order, leq, name, two, AtOrBelow, is_level_name, IsOrder}
use Rattle.ff_lattice.specs.Relation.{IsKept}

each_of_two : (P : ℕ → Type 0) → P 0 → P 1 → (l : ℕ) → l < 2 → P l
each_of_two P first second zero h = first
each_of_two P first second (suc zero) h = second
each_of_two P first second (suc (suc l)) h = absurd (omega arith)

-- the sets of the levels at or below L and H
abbrev pub under_two : List (List ℕ)
under_two = (0 ∷ []) ∷ (0 ∷ 1 ∷ []) ∷ []

in_both : (b : ℕ) → has (0 ∷ 1 ∷ []) b ≡ true → b < 2
in_both b h = grind (arith, nat_tests)

in_high : (b : ℕ) → has (1 ∷ []) b ≡ true → 1 ≡ b
in_high b h = grind (arith, nat_tests)

two-within : (a b : ℕ) → AtOrBelow two a b → b < 2
two-within zero b h = in_both b h
two-within (suc zero) b h = let is : 1 ≡ b = in_high b h in omega arith
two-within (suc (suc a)) b h = absurd (false≢true h)

two-transitive : (a b c : ℕ) → AtOrBelow two a b → AtOrBelow two b c → AtOrBelow two a c
two-transitive zero b c h k = each_of_two (λ l. AtOrBelow two 0 l) refl refl c (two-within b c k)
two-transitive (suc zero) b c h k = subst (λ (l : ℕ). AtOrBelow two l c) (sym (in_high b h)) k
two-transitive (suc (suc a)) b c h k = absurd (false≢true h)

two-set : (l : ℕ) → IsLevelSet (get_or (two).above l [])
unfolding below
two-set zero = refl
two-set (suc zero) = refl
two-set (suc (suc l)) = refl

first_letter : List ℕ → ℕ
first_letter [] = 0
first_letter (x ∷ xs) = x

two-apart : (a b : ℕ) → a < 2 → b < 2 → name two a ≡ name two b → a ≡ b
unfolding first_letter
two-apart a b in_a in_b =
    each_of_two (λ a. name two a ≡ name two b → a ≡ b)
    (each_of_two (λ b. name two 0 ≡ name two b → 0 ≡ b) (λ _. refl) (λ e. let no : 76 ≡ 72 = ap first_letter e in absurd (omega arith)) b in_b)
    (each_of_two (λ b. name two 1 ≡ name two b → 1 ≡ b) (λ e. let no : 72 ≡ 76 = ap first_letter e in absurd (omega arith)) (λ _. refl) b in_b)
    a in_a

two-antisymmetric : (a b : ℕ) → a < 2 → b < 2 → AtOrBelow two a b → AtOrBelow two b a → a ≡ b
two-antisymmetric a b in_a in_b =
    each_of_two (λ a. AtOrBelow two a b → AtOrBelow two b a → a ≡ b)
    (each_of_two (λ b. AtOrBelow two 0 b → AtOrBelow two b 0 → 0 ≡ b) (λ _ _. refl) (λ _ k. absurd (false≢true k)) b in_b)
    (each_of_two (λ b. AtOrBelow two 1 b → AtOrBelow two b 1 → 1 ≡ b) (λ h _. absurd (false≢true h)) (λ _ _. refl) b in_b)
    a in_a

two-joins : (a b : ℕ) → a < 2 → b < 2 → HasJoin (AtOrBelow two) 2 a b
two-joins a b in_a in_b =
    let at : 0 < 2 = omega arith in let on : 1 < 2 = omega arith in
    each_of_two (λ a. HasJoin (AtOrBelow two) 2 a b)
    (each_of_two (λ b. HasJoin (AtOrBelow two) 2 0 b)
    (0, record { within = at; above_first = refl; above_second = refl; least = λ d _ h _. h })
    (1, record { within = on; above_first = refl; above_second = refl; least = λ d _ _ k. k }) b in_b)
    (each_of_two (λ b. HasJoin (AtOrBelow two) 2 1 b)
    (1, record { within = on; above_first = refl; above_second = refl; least = λ d _ h _. h })
    (1, record { within = on; above_first = refl; above_second = refl; least = λ d _ h _. h }) b in_b)
    a in_a

two-meets : (a b : ℕ) → a < 2 → b < 2 → HasMeet (AtOrBelow two) 2 a b
two-meets a b in_a in_b =
    let at : 0 < 2 = omega arith in let on : 1 < 2 = omega arith in
    each_of_two (λ a. HasMeet (AtOrBelow two) 2 a b)
    (each_of_two (λ b. HasMeet (AtOrBelow two) 2 0 b)
    (0, record { within = at; above_first = refl; above_second = refl; least = λ d _ h _. h })
    (0, record { within = at; above_first = refl; above_second = refl; least = λ d _ h _. h }) b in_b)
    (each_of_two (λ b. HasMeet (AtOrBelow two) 2 1 b)
    (0, record { within = at; above_first = refl; above_second = refl; least = λ d _ _ k. k })
    (1, record { within = on; above_first = refl; above_second = refl; least = λ d _ h _. h }) b in_b)
    a in_a

pub two-is_order : IsOrder two
two-is_order = record {
  some = omega arith;
  few = omega arith;
  named = each_of_two (λ l. is_level_name (name two l) ≡ true) refl refl;
  apart = two-apart;
  rows = refl;
  set = two-set;
  within = two-within;
  reflexive = each_of_two (λ a. AtOrBelow two a a) refl refl;
  transitive = two-transitive;
  lattice = record { antisymmetric = two-antisymmetric; joins = two-joins; meets = two-meets };
}

none_past_high : (b : ℕ) → 2 ≤ b → has (0 ∷ 1 ∷ []) b ≡ false
none_past_high b far = grind (arith, nat_tests)

none_past_low : (b : ℕ) → 2 ≤ b → has (0 ∷ []) b ≡ false
none_past_low b far = grind (arith, nat_tests)

none_past_one : (b : ℕ) → 2 ≤ b → has (1 ∷ []) b ≡ false
none_past_one b far = grind (arith, nat_tests)

two-turned : (a b : ℕ) → has (get_or under_two b []) a ≡ leq two a b
two-turned zero zero = refl
two-turned zero (suc zero) = refl
two-turned zero (suc (suc b)) = sym (none_past_high (suc (suc b)) (omega arith))
two-turned (suc zero) zero = refl
two-turned (suc zero) (suc zero) = refl
two-turned (suc zero) (suc (suc b)) = sym (none_past_one (suc (suc b)) (omega arith))
two-turned (suc (suc a)) zero = none_past_low (suc (suc a)) (omega arith)
two-turned (suc (suc a)) (suc zero) = none_past_high (suc (suc a)) (omega arith)
two-turned (suc (suc a)) (suc (suc b)) = refl

under-set : (l : ℕ) → IsLevelSet (get_or under_two l [])
unfolding below
under-set zero = refl
under-set (suc zero) = refl
under-set (suc (suc l)) = refl

in_low : (b : ℕ) → has (0 ∷ []) b ≡ true → b < 2
in_low b h = grind (arith, nat_tests)

under-within : (a b : ℕ) → has (get_or under_two a []) b ≡ true → b < 2
under-within zero b h = in_low b h
under-within (suc zero) b h = in_both b h
under-within (suc (suc a)) b h = absurd (false≢true h)

two-is_kept : IsKept two under_two
two-is_kept = record {
  valid = two-is_order;
  turned = record {
    rows = record { few = omega arith; count = refl; set = under-set; within = under-within };
    turned = λ a b. two-turned a b;
  };
}

-- the same of fields that are equal to these
pub kept_from_fields : (names above under : List (List ℕ)) → names ≡ (two).names → above ≡ (two).above → under ≡ under_two → IsKept (record { names = names; above = above }) under
kept_from_fields names above under is_names is_above is_under =
    let kept : IsKept two under_two = two-is_kept in
    subst (λ (u : List (List ℕ)). IsKept (record { names = names; above = above }) u) (sym is_under)
    (subst (λ (a : List (List ℕ)). IsKept (record { names = names; above = a }) under_two) (sym is_above)
    (subst (λ (n : List (List ℕ)). IsKept (record { names = n; above = (two).above }) under_two) (sym is_names) kept))

pub order_from_fields : (names above : List (List ℕ)) → names ≡ (two).names → above ≡ (two).above → ◌≡◌ {A = Order} (record { names = names; above = above }) two
order_from_fields names above is_names is_above = λ i. record { names = is_names i; above = is_above i }

pub low_set : (none : List ℕ) → none ≡ [] → levels_where (λ m. has none m || eqb m 0) ≡ 0 ∷ []
unfolding below
low_set none is = ap (λ (s : List ℕ). levels_where (λ m. has s m || eqb m 0)) is

pub high_set : (none : List ℕ) → none ≡ [] → levels_where (λ m. has none m || eqb m 1) ≡ 1 ∷ []
unfolding below
high_set none is = ap (λ (s : List ℕ). levels_where (λ m. has s m || eqb m 1)) is

pub both_set : (low : List ℕ) → low ≡ 0 ∷ [] → levels_where (λ m. has low m || eqb m 1) ≡ 0 ∷ 1 ∷ []
unfolding below
both_set low is = ap (λ (s : List ℕ). levels_where (λ m. has s m || eqb m 1)) is
