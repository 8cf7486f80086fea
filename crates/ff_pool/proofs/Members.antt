-- The levels of a class, level by level.
use Rattle.std.proofs.Common.{◌≡◌, ℕ, ◌+◌, ◌<◌, Bool, true, false, ◌==◌, ◌&&◌, ◌||◌, List, [], length, refl, sym, ap, ap₂, ◌∙◌, arith, ltb, eqb, ◌⊎◌, inl, inr}
use Rattle.std.proofs.lemmas.Bool.{cases_order, eqb-true, lt-ltb, le-ltb, eq-eqb, ne_eqb}
use Rattle.ff_lattice.specs.LevelSet.{has, levels_where}
use Rattle.ff_lattice.proofs.LevelSets.{levels_same, has_in_range, levels_where_none}
use Rattle.ff_confinement.specs.Worlds.{leader}
use Rattle.ff_pool.specs.Classes.{class_of}

-- the levels below n that pass a test
unfoldable pub class_below : (ℕ → Bool) → ℕ → List ℕ
class_below test n = levels_where (λ m. ltb m n && test m)

pub class_start : (test : ℕ → Bool) → [] ≡ class_below test 0
unfolding class_below
class_start test = sym (levels_where_none (λ m. ltb m 0 && test m) (λ m. ap (λ b. b && test m) (le-ltb m 0 (omega arith))))

step : (test : ℕ → Bool) (n m : ℕ) → (ltb m (n + 1) && test m) ≡ (ltb m n && test m) || (eqb m n && test m)
step test n m = from (cases_order m n)
  where
    from : (m ≡ n) ⊎ ((m < n) ⊎ (n < m)) → (ltb m (n + 1) && test m) ≡ (ltb m n && test m) || (eqb m n && test m)
    from (inl e) =
        ap (λ b. b && test m) (lt-ltb m (n + 1) (omega arith))
        ∙ sym (ap₂ (λ a b. (a && test m) || (b && test m)) (le-ltb m n (omega arith)) (eq-eqb m n e))
    from (inr (inl less)) =
        ap (λ b. b && test m) (lt-ltb m (n + 1) (omega arith))
        ∙ sym (ap₂ (λ a b. (a && test m) || (b && test m)) (lt-ltb m n less) (ne_eqb m n (λ e. omega arith)) ∙ or_false (test m))
      where
        or_false : (b : Bool) → ((true && b) || (false && b)) ≡ (true && b)
        or_false true = refl
        or_false false = refl
    from (inr (inr more)) =
        ap (λ b. b && test m) (le-ltb m (n + 1) (omega arith))
        ∙ sym (ap₂ (λ a b. (a && test m) || (b && test m)) (le-ltb m n (omega arith)) (ne_eqb m n (λ e. omega arith)))

pub class_with : (test : ℕ → Bool) (n : ℕ) (set : List ℕ) → test n ≡ true → set ≡ class_below test n → levels_where (λ m. has set m || eqb m n) ≡ class_below test (n + 1)
unfolding class_below
class_with test n set pass e =
    levels_same (λ m. has set m || eqb m n) (λ m. ltb m (n + 1) && test m)
    (λ m lt. ap₂ (λ a b. a || b) (ap (λ s. has s m) e ∙ has_in_range (λ j. ltb j n && test j) m lt) (at m (eqb m n) refl) ∙ sym (step test n m))
  where
    at : (m : ℕ) (b : Bool) → eqb m n ≡ b → eqb m n ≡ (eqb m n && test m)
    at m true same = sym (ap (λ b. eqb m n && b) (ap test (eqb-true m n same) ∙ pass) ∙ and_true (eqb m n))
      where
        and_true : (b : Bool) → (b && true) ≡ b
        and_true true = refl
        and_true false = refl
    at m false differ = differ ∙ sym (ap (λ b. b && test m) differ)

pub class_without : (test : ℕ → Bool) (n : ℕ) (set : List ℕ) → test n ≡ false → set ≡ class_below test n → set ≡ class_below test (n + 1)
unfolding class_below
class_without test n set fails e =
    e ∙ levels_same (λ m. ltb m n && test m) (λ m. ltb m (n + 1) && test m)
    (λ m lt. sym (step test n m ∙ ap (λ b. (ltb m n && test m) || b) (at m (eqb m n) refl) ∙ or_false (ltb m n && test m)))
  where
    at : (m : ℕ) (b : Bool) → eqb m n ≡ b → (eqb m n && test m) ≡ false
    at m true same = ap (λ b. b && test m) same ∙ ap test (eqb-true m n same) ∙ fails
    at m false differ = ap (λ b. b && test m) differ

    or_false : (b : Bool) → (b || false) ≡ b
    or_false true = refl
    or_false false = refl

pub class_done : (leaders : List ℕ) (l n : ℕ) (set : List ℕ) → n ≡ length leaders → set ≡ class_below (λ k. leader leaders k == leader leaders l) n → set ≡ class_of leaders l
unfolding class_below class_of
class_done leaders l n set all e = e ∙ ap (λ m. levels_where (λ k. ltb k m && leader leaders k == leader leaders l)) all
