-- The names of the levels tell them apart.
use Rattle.std.proofs.Common.{◌≡◌, ℕ, zero, suc, ◌<◌, Bool, true, false, ◌==◌, ◌&&◌, ◌||◌, ◌⊎◌, inl, inr, [], ◌∷◌, bytes_eq, refl, sym, ap, ◌∙◌, arith}
use Rattle.std.specs.List.{list_any}
use Rattle.std.proofs.lemmas.Bool.{cases_eq, eq-eqb, ne_eqb, false_from_ne_true, and_right}
use Rattle.std.proofs.lemmas.List.Folds.{list_any-append}
use Rattle.std.proofs.lemmas.Slice.Eq.{bytes_eq-Decides}
use Rattle.std.proofs.Math.Bool.{and-true, or-false}
use Rattle.ff_confinement.specs.Runs.{Machine}
use Rattle.ff_confinement.specs.Copies.{Levels}
use Rattle.ff_contract.specs.Lists.{below}
use Rattle.ff_confinement.specs.Text.{names_below}
use Rattle.ff_confinement.specs.Laws.{IsLawful}

-- where at most the number k passes, whether some number below n passes is whether k does
list_any_none_below : (test : ℕ → Bool) (n : ℕ) → ((j : ℕ) → j < n → test j ≡ false) → list_any test (below n) ≡ false
list_any_none_below test zero none = refl
list_any_none_below test (suc n) none =
    list_any-append test (below n) (n ∷ [])
    ∙ ap (λ b. b || (test n || false)) (list_any_none_below test n (λ j lt. none j (omega arith)))
    ∙ ap (λ b. b || false) (none n (omega arith))

list_any_one_below : (test : ℕ → Bool) (k n : ℕ) → k < n → ((j : ℕ) → j < n → (j ≡ k → ⊥) → test j ≡ false) → list_any test (below n) ≡ test k
list_any_one_below test k zero lt none = absurd (omega arith)
list_any_one_below test k (suc n) lt none =
    list_any-append test (below n) (n ∷ []) ∙ from (cases_eq n k) (λ differ. list_any_one_below test k n (omega arith) (λ j below_n. none j (omega arith)))
  where
    from : (n ≡ k) ⊎ (n ≡ k → ⊥) → ((n ≡ k → ⊥) → list_any test (below n) ≡ test k) → (list_any test (below n) || (test n || false)) ≡ test k
    from (inl e) found =
        ap (λ b. b || (test n || false)) (list_any_none_below test n (λ j below_n. none j (omega arith) (λ same. omega arith)))
        ∙ or-false (test n) ∙ ap test e
    from (inr differ) found = ap (λ b. b || (test n || false)) (found differ) ∙ ap (λ b. test k || (b || false)) (none n (omega arith) differ) ∙ or-false (test k)

module _ {I O S : Type 0} {m : Machine I O S} {v : Levels I O} {InputOk : I → Type 0} {StateOk : S → Type 0} {OutputOk : O → Type 0} (law : IsLawful m v InputOk StateOk OutputOk) where
  -- a level's name is its own, and that of no other level
  pub same_name : (k l : ℕ) → k < v.count → l < v.count → bytes_eq (v.name l) (v.name k) ≡ (k == l)
  same_name k l at_k at_l = from (cases_eq k l)
    where
      decides : (bytes_eq (v.name l) (v.name k) ≡ true → v.name l ≡ v.name k) × (v.name l ≡ v.name k → bytes_eq (v.name l) (v.name k) ≡ true)
      decides = bytes_eq-Decides (v.name l) (v.name k)

      from : (k ≡ l) ⊎ (k ≡ l → ⊥) → bytes_eq (v.name l) (v.name k) ≡ (k == l)
      from (inl e) = decides.1 (ap v.name (sym e)) ∙ sym (eq-eqb k l e)
      from (inr differ) =
          false_from_ne_true (bytes_eq (v.name l) (v.name k)) (λ e. differ (law.names_differ k l at_k at_l (sym (decides.0 e))))
          ∙ sym (ne_eqb k l differ)

  -- so the names at or below a level are those of the levels at or below it
  pub name_below : (k l : ℕ) → k < v.count → names_below v l (v.name k) ≡ v.leq k l
  name_below k l at_k =
      list_any_one_below (λ j. v.leq j l && bytes_eq (v.name j) (v.name k)) k v.count at_k
      (λ j at_j differ. and_right (v.leq j l) (bytes_eq (v.name j) (v.name k)) (same_name k j at_k at_j ∙ ne_eqb k j (λ e. differ (sym e))))
      ∙ ap (λ b. v.leq k l && b) (same_name k k at_k at_k ∙ eq-eqb k k refl) ∙ and-true (v.leq k l)
