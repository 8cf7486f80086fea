-- What callers cite of a lattice: how its names are spelled, and when two are equal.
use Rattle.std.proofs.Common.{◌≡◌, ℕ, ◌<◌, ◌≤◌, inl, inr, zero, suc, true, ◌&&◌, List, [], ◌∷◌, sym, ◌∙◌, ap, subst, arith, length, get_or}
use Rattle.std.specs.List.{list_all}
use Rattle.std.specs.Char.{is_ascii_alphabetic}
use Rattle.std.proofs.lemmas.Bool.{and_parts, cases_lt, false_from_ne_true}
use Rattle.std.proofs.lemmas.Bool.Decides.{nat_tests}
use Rattle.std.proofs.lemmas.List.{ext_get_or}
use Rattle.ff_name.specs.Spelling.{stands_in_name}
use Rattle.ff_lattice.specs.declared.pair.Pair.{Pair}
use Rattle.ff_lattice.specs.Levels.{IsLatticeOf}
use Rattle.ff_lattice.specs.Order.{Order, size, leq, is_level_name, IsOrder}
use Rattle.ff_lattice.proofs.LevelSets.{same_levels}
use Rattle.ff_lattice.proofs.Tables.{same_tests}

-- ---- names

above_blank : (b : ℕ) → stands_in_name b ≡ true → 32 < b
above_blank b is = grind (arith, nat_tests)

below_delete : (b : ℕ) → stands_in_name b ≡ true → b < 127
below_delete b is = grind (arith, nat_tests)

letter_above_blank : (b : ℕ) → is_ascii_alphabetic b ≡ true → 32 < b
letter_above_blank b is = grind (arith, nat_tests)

letter_below_delete : (b : ℕ) → is_ascii_alphabetic b ≡ true → b < 127
letter_below_delete b is = grind (arith, nat_tests)

rest_graphic : (bytes : List ℕ) → list_all stands_in_name bytes ≡ true → (k : ℕ) → k < length bytes → (32 < get_or bytes k 0) × (get_or bytes k 0 < 127)
rest_graphic [] all k in_k = absurd (omega arith)
rest_graphic (b ∷ bs) all zero in_k =
    let here = and_parts (stands_in_name b) (list_all stands_in_name bs) all in (above_blank b here.0, below_delete b here.0)
rest_graphic (b ∷ bs) all (suc k) in_k = rest_graphic bs (and_parts (stands_in_name b) (list_all stands_in_name bs) all).1 k (omega arith)

-- each byte of a level's name is a printed one, so none is a blank or a newline
pub name_graphic : (bytes : List ℕ) → is_level_name bytes ≡ true → (k : ℕ) → k < length bytes → (32 < get_or bytes k 0) × (get_or bytes k 0 < 127)
name_graphic [] is k in_k = absurd (omega arith)
name_graphic (b ∷ bs) is zero in_k =
    let parts = and_parts (is_ascii_alphabetic b && list_all stands_in_name bs) _ is in
    let first = and_parts (is_ascii_alphabetic b) (list_all stands_in_name bs) parts.0 in
    (letter_above_blank b first.0, letter_below_delete b first.0)
name_graphic (b ∷ bs) is (suc k) in_k =
    let parts = and_parts (is_ascii_alphabetic b && list_all stands_in_name bs) _ is in
    let first = and_parts (is_ascii_alphabetic b) (list_all stands_in_name bs) parts.0 in
    rest_graphic bs first.1 k (omega arith)

-- ---- equal lattices

not_both : (b n : ℕ) → b < n → n ≤ b → ⊥
not_both b n low far = omega arith

module _ (one other : Order) (valid : IsOrder one) (also : IsOrder other) (names : one.names ≡ other.names) (same : (a b : ℕ) → a < size one → b < size one → leq one a b ≡ leq other a b) where
  sizes : size one ≡ size other
  sizes = ap length names

  row_same : (a b : ℕ) → a < size one → leq one a b ≡ leq other a b
  row_same a b in_a =
      elim (cases_lt b (size one)) as (λ _. leq one a b ≡ leq other a b) [
        | inl in_b ↦ same a b in_a in_b
        | inr far ↦
            false_from_ne_true (leq one a b) (λ held. let in_b : b < size one = valid.within a b held in not_both b (size one) in_b far)
            ∙ sym (false_from_ne_true (leq other a b) (λ held. let in_b : b < size one = subst (λ (n : ℕ). b < n) (sym sizes) (also.within a b held) in not_both b (size one) in_b far))
      ]

  above : one.above ≡ other.above
  above = ext_get_or [] one.above other.above (valid.rows ∙ sizes ∙ sym also.rows) (λ a in_a.
      let in_one : a < size one = subst (λ (n : ℕ). a < n) valid.rows in_a in
      same_levels (get_or one.above a []) (get_or other.above a []) (valid.set a) (also.set a) (λ b in_b. row_same a b in_one))

  -- lattices with the same names and the same order are equal
  pub same_order : one ≡ other
  same_order = λ i. record { names = names i; above = above i }

-- names and pairs have one lattice
pub lattice_of_unique : (names : List (List ℕ)) (below : List Pair) (one other : Order) → IsLatticeOf names below one → IsLatticeOf names below other → one ≡ other
lattice_of_unique names below one other is_one is_other =
    same_order one other is_one.valid is_other.valid (is_one.named ∙ sym is_other.named) (λ a b in_a in_b.
    let a_in : a < length names = subst (λ (ns : List (List ℕ)). a < length ns) is_one.named in_a in
    let b_in : b < length names = subst (λ (ns : List (List ℕ)). b < length ns) is_one.named in_b in
    same_tests (leq one a b) (leq other a b)
    (λ held. (is_other.order a b a_in b_in).1 ((is_one.order a b a_in b_in).0 held))
    (λ held. (is_one.order a b a_in b_in).1 ((is_other.order a b a_in b_in).0 held)))
