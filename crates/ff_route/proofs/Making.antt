-- The first rule of use makes the offers.
use Rattle.std.proofs.Common.{◌≡◌, ℕ, zero, suc, ◌<◌, Bool, true, false, Result, Ok, Err, cond, not, ◌&&◌, ◌==◌, List, [], ◌∷◌, length, get_or, set, bytes_eq, refl, sym, ap, ◌∙◌, arith}
use Rattle.std.specs.Prelude.{OnOk}
use Rattle.std.specs.List.{list_any}
use Rattle.std.proofs.lemmas.Bool.{eqb-true, eq-eqb}
use Rattle.std.proofs.lemmas.List.Folds.{list_any_at, list_any_none}
use Rattle.ff_contract.specs.Lists.{below}
use Rattle.ff_confinement.proofs.Below.{length-below, get_or-below}
use Rattle.ff_lattice.specs.Order.{size}
use Rattle.ff_value.specs.declared.input.Input.{Input}
use Rattle.ff_value.specs.Kinds.{word_of, kind_of}
use Rattle.ff_policy.specs.Assignment.{Assignment}
use Rattle.ff_route.specs.Route.{offers}
use Rattle.ff_route.specs.Offering.{rule_offers, differs, is_of_use, released, one_less, left_then, left_of}
use Rattle.ff_route.specs.declared.rule.Rule.{Rule}

module _ (p : Assignment) (i : Input) where
  -- the rules before a place are of no use, and the one there is
  pub offers_at : (rules : List Rule) (place : ℕ) (d : Rule) → place < length rules → ((k : ℕ) → k < place → is_of_use p i (get_or rules k d) ≡ false) → is_of_use p i (get_or rules place d) ≡ true
      → rule_offers p (get_or rules place d) i ≡ released p rules i
  unfolding released
  offers_at [] place d within before here = absurd (omega arith)
  offers_at (rule ∷ rules) zero d within before here = ap (λ b. cond b (rule_offers p rule i) (released p rules i)) (sym here)
  offers_at (rule ∷ rules) (suc place) d within before here =
      offers_at rules place d (omega (arith, within)) (λ k less. before (suc k) (omega (arith, less))) here
      ∙ ap (λ b. cond b (rule_offers p rule i) (released p rules i)) (sym (before 0 (omega arith)))

  pub left_at : (rules : List Rule) (place : ℕ) (d : Rule) → place < length rules → ((k : ℕ) → k < place → is_of_use p i (get_or rules k d) ≡ false) → is_of_use p i (get_or rules place d) ≡ true
      → set rules place (one_less (get_or rules place d)) ≡ left_then p i rules
  unfolding left_then
  left_at [] place d within before here = absurd (omega arith)
  left_at (rule ∷ rules) zero d within before here = ap (λ b. cond b (one_less rule ∷ rules) (rule ∷ left_then p i rules)) (sym here)
  left_at (rule ∷ rules) (suc place) d within before here =
      ap (λ rs. rule ∷ rs) (left_at rules place d (omega (arith, within)) (λ k less. before (suc k) (omega (arith, less))) here)
      ∙ ap (λ b. cond b (one_less rule ∷ rules) (rule ∷ left_then p i rules)) (sym (before 0 (omega arith)))

  -- no rule is of use
  pub offers_none : (rules : List Rule) → ((k : ℕ) (d : Rule) → k < length rules → is_of_use p i (get_or rules k d) ≡ false) → offers p i ≡ released p rules i
  unfolding released
  offers_none [] none = refl
  offers_none (rule ∷ rules) none =
      offers_none rules (λ k d less. none (suc k) d (omega (arith, less))) ∙ ap (λ b. cond b (rule_offers p rule i) (released p rules i)) (sym (none 0 rule (omega arith)))

  pub left_none : (rules : List Rule) → ((k : ℕ) (d : Rule) → k < length rules → is_of_use p i (get_or rules k d) ≡ false) → rules ≡ left_then p i rules
  unfolding left_then
  left_none [] none = refl
  left_none (rule ∷ rules) none =
      ap (λ rs. rule ∷ rs) (left_none rules (λ k d less. none (suc k) d (omega (arith, less)))) ∙ ap (λ b. cond b (one_less rule ∷ rules) (rule ∷ left_then p i rules)) (sym (none 0 rule (omega arith)))

  module _ (rule : Rule) where
    -- a rule of which some is left is of use where some level's offer differs
    pub use_at : (b : Bool) → b ≡ true → (l : ℕ) → (rule.quota ≡ 0 → ⊥) → l < size p.order → differs p rule i l ≡ true → true ≡ (b && (not (rule.quota == 0) && list_any (differs p rule i) (below (size p.order))))
    use_at true e l some within other = some_left (rule.quota == 0) (λ none. some (eqb-true rule.quota 0 none))
      where
        found : list_any (differs p rule i) (below (size p.order)) ≡ true
        found = list_any_at (differs p rule i) (below (size p.order)) l 0 (let long = length-below (size p.order) in omega (arith, long, within)) (ap (differs p rule i) (get_or-below (size p.order) l 0 within) ∙ other)

        some_left : (t : Bool) → (t ≡ true → ⊥) → true ≡ (not t && list_any (differs p rule i) (below (size p.order)))
        some_left true none = absurd (none refl)
        some_left false none = sym found
    use_at false e l some within other = cc

    pub no_use_at : (b t : Bool) → ((l : ℕ) → l < size p.order → differs p rule i l ≡ false) → false ≡ (b && (not t && list_any (differs p rule i) (below (size p.order))))
    no_use_at true true none = refl
    no_use_at true false none = sym (list_any_none (differs p rule i) (below (size p.order)) (λ k d lt.
        let long = length-below (size p.order) in
        let within : k < size p.order = omega (arith, long, lt) in
        ap (differs p rule i) (get_or-below (size p.order) k d within) ∙ none k within))
    no_use_at false t none = refl

    -- a rule of use has some left
    pub some_left : is_of_use p i rule ≡ true → 0 < rule.quota
    some_left of_use = from rule.quota (λ none. empty (bytes_eq (word_of rule.kind) (word_of (kind_of i.act)))
        (sym of_use ∙ ap (λ t. bytes_eq (word_of rule.kind) (word_of (kind_of i.act)) && (not t && list_any (differs p rule i) (below (size p.order)))) (eq-eqb rule.quota 0 none)))
      where
        empty : (b : Bool) → true ≡ (b && false) → ⊥
        empty true e = cc
        empty false e = cc

        from : (n : ℕ) → (n ≡ 0 → ⊥) → 0 < n
        from zero none = absurd (none refl)
        from (suc n) none = omega arith

-- what is left of the rule at a place
pub left_is : (rules : List Rule) (j : ℕ) (d : Rule) → j < length rules → (get_or rules j d).quota ≡ left_of rules j
left_is [] j d within = absurd (omega arith)
left_is (rule ∷ rules) zero d within = refl
left_is (rule ∷ rules) (suc j) d within = left_is rules j d (omega (arith, within))

-- what holds whatever the answer is
pub whatever : {A E : Type 0} {P : Type 0} (r : Result A E) → P → OnOk r P
whatever (Ok x) holds = holds
whatever (Err e) holds = tt
