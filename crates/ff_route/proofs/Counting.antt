-- How often a rule makes the offers, and what is left of it.
use Rattle.std.proofs.Common.{◌≡◌, ℕ, zero, suc, ◌+◌, ◌-◌, ◌<◌, ◌≤◌, Bool, true, false, cond, ◌==◌, List, [], ◌∷◌, ◌++◌, length, map, sum, refl, sym, ap, ap₂, ◌∙◌, append-nil, append_assoc, arith, zero-add, ◌⊎◌, inl, inr}
use Rattle.std.proofs.lemmas.Bool.{cases_eq, eq-eqb, ne_eqb}
use Rattle.std.proofs.lemmas.List.Sums.{sum_by-append}
use Rattle.ff_confinement.specs.Runs.{entries}
use Rattle.ff_value.specs.declared.input.Input.{Input}
use Rattle.ff_policy.specs.Assignment.{Assignment}
use Rattle.ff_route.specs.Route.{offers}
use Rattle.ff_route.specs.Offering.{is_of_use, first_of_use, released, rule_offers, one_less, left_then, left_of}
use Rattle.ff_route.specs.Released.{left_after, offers_after, all_offers, use_of, uses}
use Rattle.ff_route.specs.declared.rule.Rule.{Rule}
use Rattle.ff_route.proofs.Making.{some_left}

-- numbers are equal where the next ones are
suc_same : (a b : ℕ) → (suc a == suc b) ≡ (a == b)
suc_same a b = from (cases_eq a b)
  where
    from : (a ≡ b) ⊎ (a ≡ b → ⊥) → (suc a == suc b) ≡ (a == b)
    from (inl e) = eq-eqb (suc a) (suc b) (ap suc e) ∙ sym (eq-eqb a b e)
    from (inr differ) = ne_eqb (suc a) (suc b) (λ e. differ (omega (arith, e))) ∙ sym (ne_eqb a b differ)

abbrev one_if : Bool → ℕ
one_if b = cond b 1 0

module _ (p : Assignment) where
  -- one input more
  pub left_more : (rules : List Rule) (is : List Input) (i : Input) → left_after p rules (is ++ i ∷ []) ≡ left_then p i (left_after p rules is)
  unfolding left_after
  left_more rules [] i = refl
  left_more rules (j ∷ is) i = left_more (left_then p j rules) is i

  pub left_start : (rules : List Rule) → left_after p rules [] ≡ rules
  unfolding left_after
  left_start rules = refl

  -- rules stay as many
  length-left_then : (i : Input) (rules : List Rule) → length (left_then p i rules) ≡ length rules
  unfolding left_then
  length-left_then i [] = refl
  length-left_then i (rule ∷ rules) = from (is_of_use p i rule) (length-left_then i rules)
    where
      from : (b : Bool) → length (left_then p i rules) ≡ length rules → length (cond b (one_less rule ∷ rules) (rule ∷ left_then p i rules)) ≡ suc (length rules)
      from true rest = refl
      from false rest = ap suc rest

  pub length-left_after : (rules : List Rule) (is : List Input) → length (left_after p rules is) ≡ length rules
  unfolding left_after
  length-left_after rules [] = refl
  length-left_after rules (i ∷ is) = length-left_after (left_then p i rules) is ∙ length-left_then i rules

  -- the rule that makes the offers has one less left, and every other as many
  one_step : (i : Input) (rules : List Rule) (j : ℕ) → j < length rules → cond (first_of_use p i rules == j) 1 0 + left_of (left_then p i rules) j ≡ left_of rules j
  unfolding left_then
  one_step i [] j within = absurd (omega arith)
  one_step i (rule ∷ rules) zero within = from (is_of_use p i rule) refl
    where
      from : (b : Bool) → is_of_use p i rule ≡ b → cond (cond b 0 (suc (first_of_use p i rules)) == 0) 1 0 + left_of (cond b (one_less rule ∷ rules) (rule ∷ left_then p i rules)) 0 ≡ rule.quota
      from true e = let some = some_left p i rule e in omega (arith, some)
      from false e = ap (λ t. cond t 1 0 + rule.quota) (ne_eqb (suc (first_of_use p i rules)) 0 (λ none. omega (arith, none))) ∙ zero-add rule.quota
  one_step i (rule ∷ rules) (suc j) within = from (is_of_use p i rule) (one_step i rules j (omega (arith, within)))
    where
      from : (b : Bool) → cond (first_of_use p i rules == j) 1 0 + left_of (left_then p i rules) j ≡ left_of rules j
          → cond (cond b 0 (suc (first_of_use p i rules)) == suc j) 1 0 + left_of (cond b (one_less rule ∷ rules) (rule ∷ left_then p i rules)) (suc j) ≡ left_of rules j
      from true rest = ap (λ t. cond t 1 0 + left_of rules j) (ne_eqb 0 (suc j) (λ none. omega (arith, none))) ∙ zero-add (left_of rules j)
      from false rest = ap (λ t. cond t 1 0 + left_of (left_then p i rules) j) (suc_same (first_of_use p i rules) j) ∙ rest

  -- over all inputs, uses and what is left are the quota
  module _ (rules : List Rule) where
    uses_from : (j : ℕ) → j < length rules → (before is : List Input) → sum (entries (use_of p rules j) before is) + left_of (left_after p rules (before ++ is)) j ≡ left_of (left_after p rules before) j
    uses_from j within before [] = zero-add (left_of (left_after p rules (before ++ [])) j) ∙ ap (λ bs. left_of (left_after p rules bs) j) (append-nil before)
    uses_from j within before (i ∷ is) =
        let more = uses_from j within (before ++ i ∷ []) is in
        let whole = ap (λ bs. left_of (left_after p rules bs) j) (append_assoc before (i ∷ []) is) in
        let next = ap (λ rs. left_of rs j) (left_more rules before i) in
        let long = length-left_after rules before in
        let step = one_step i (left_after p rules before) j (omega (arith, long, within)) in
        let one = sum_by-append (λ n. n) (use_of p rules j before i ∷ []) (entries (use_of p rules j) (before ++ i ∷ []) is) in
        omega (arith, more, whole, next, step, one)

    pub uses_and_left : (j : ℕ) (is : List Input) → j < length rules → uses p rules j is + left_of (left_after p rules is) j ≡ left_of rules j
    unfolding uses
    uses_and_left j is within = uses_from j within [] is ∙ ap (λ rs. left_of rs j) (left_start rules)

    pub within_quota : (j : ℕ) (is : List Input) → j < length rules → uses p rules j is ≤ left_of rules j
    within_quota j is within = let all = uses_and_left j is within in omega (arith, all)

  -- where no rule makes the offers, they are what the levels see
  unused_one : (i : Input) (rules : List Rule) → ((j : ℕ) → j < length rules → one_if (first_of_use p i rules == j) ≡ 0) → released p rules i ≡ offers p i
  unfolding released
  unused_one i [] none = refl
  unused_one i (rule ∷ rules) none = from (is_of_use p i rule) refl (λ rest. unused_one i rules rest)
    where
      at_first : Bool → ℕ
      at_first b = cond (cond b 0 (suc (first_of_use p i rules)) == 0) 1 0

      at_next : ℕ → Bool → ℕ
      at_next j b = cond (cond b 0 (suc (first_of_use p i rules)) == suc j) 1 0

      from : (b : Bool) → is_of_use p i rule ≡ b → (((j : ℕ) → j < length rules → one_if (first_of_use p i rules == j) ≡ 0) → released p rules i ≡ offers p i) → cond b (rule_offers p rule i) (released p rules i) ≡ offers p i
      from true e rest = let one : 0 ≡ 1 = sym (none 0 (omega arith)) ∙ ap at_first e in absurd (omega (arith, one))
      from false e rest = rest (λ j within. ap one_if (sym (suc_same (first_of_use p i rules) j)) ∙ sym (ap (at_next j) e) ∙ none (suc j) (omega (arith, within)))

  module _ (rules : List Rule) where
    unused_from : (before is : List Input) → ((j : ℕ) → j < length rules → sum (entries (use_of p rules j) before is) ≡ 0) → entries (offers_after p rules) before is ≡ map (offers p) is
    unused_from before [] none = refl
    unused_from before (i ∷ is) none =
        ap₂ (λ row rows. row ∷ rows)
        (unused_one i (left_after p rules before) (λ j within. let long = length-left_after rules before in let parts = apart j (omega (arith, long, within)) in let all = none j (omega (arith, long, within)) in omega (arith, parts, all)))
        (unused_from (before ++ i ∷ []) is (λ j within. let parts = apart j within in let all = none j within in omega (arith, parts, all)))
      where
        apart : (j : ℕ) → j < length rules → sum (entries (use_of p rules j) before (i ∷ is)) ≡ use_of p rules j before i + sum (entries (use_of p rules j) (before ++ i ∷ []) is)
        apart j within =
            let one = sum_by-append (λ n. n) (use_of p rules j before i ∷ []) (entries (use_of p rules j) (before ++ i ∷ []) is) in
            omega (arith, one)

    pub unused : (is : List Input) → ((j : ℕ) → j < length rules → uses p rules j is ≡ 0) → all_offers p rules is ≡ map (offers p) is
    unfolding uses all_offers
    unused is none = unused_from [] is none
