-- What release rules offer to the levels of an input, and what is left of them then.
use Rattle.std.specs.Prelude.{◌<◌, ℕ, zero, suc, ◌-◌, Bool, cond, not, ◌&&◌, ◌==◌, Option, Some, None, List, [], ◌∷◌, map, bytes_eq}
use Rattle.std.specs.List.{list_any}
use Rattle.std.specs.Option.{option_eq}
use Rattle.ff_contract.specs.Lists.{below}
use Rattle.ff_lattice.specs.Order.{Order, size, leq}
use Rattle.ff_value.specs.declared.input.Input.{Input}
use Rattle.ff_value.specs.Kinds.{word_of, kind_of}
use Rattle.ff_policy.specs.Assignment.{Assignment}
use Rattle.ff_value.specs.Same.{same_input}
use Rattle.ff_route.specs.Route.{mask, sees, offers}
use Rattle.ff_route.specs.declared.rule.Rule.{Rule}

-- the rule's level is one of the levels
abbrev pub IsRuleOf : Order → Rule → Type 0
IsRuleOf order rule = rule.level.0 < size order

-- what is seen of an input, or else the masked input
abbrev pub or_mask : Option Input → Input → Option Input
or_mask None i = Some (mask i)
or_mask (Some x) i = Some x

-- what a rule offers to a level of an input: at or above the rule's level the whole input, or the
-- masked one where the level sees nothing; and to every other level what that level sees
abbrev pub rule_offer : Assignment → Rule → Input → ℕ → Option Input
rule_offer p rule i l = cond (leq p.order rule.level.0 l) (cond rule.whole (Some i) (or_mask (sees p l i) i)) (sees p l i)

-- what it offers to the levels, in their order
abbrev pub rule_offers : Assignment → Rule → Input → List (Option Input)
rule_offers p rule i = map (rule_offer p rule i) (below (size p.order))

-- whether a rule is of use at an input: the input is of its kind, some is left, and it offers some
-- level other than what that level sees
abbrev pub differs : Assignment → Rule → Input → ℕ → Bool
differs p rule i l = not (option_eq same_input (rule_offer p rule i l) (sees p l i))

abbrev pub is_of_use : Assignment → Input → Rule → Bool
is_of_use p i rule = bytes_eq (word_of rule.kind) (word_of (kind_of i.act)) && (not (rule.quota == 0) && list_any (differs p rule i) (below (size p.order)))

-- the place of the first rule of use, or how many rules there are where none is
abbrev pub first_of_use : Assignment → Input → List Rule → ℕ
first_of_use p i [] = 0
first_of_use p i (rule ∷ rules) = cond (is_of_use p i rule) 0 (suc (first_of_use p i rules))

-- the offers for an input: those of the first rule of use, or what the levels see
unfoldable pub released : Assignment → List Rule → Input → List (Option Input)
released p [] i = offers p i
released p (rule ∷ rules) i = cond (is_of_use p i rule) (rule_offers p rule i) (released p rules i)

-- a rule with one less left
abbrev pub one_less : Rule → Rule
one_less rule = record { kind = rule.kind; level = rule.level; quota = rule.quota - 1; whole = rule.whole }

-- what is left of the rules then: the first rule of use has one less left
unfoldable pub left_then : Assignment → Input → List Rule → List Rule
left_then p i [] = []
left_then p i (rule ∷ rules) = cond (is_of_use p i rule) (one_less rule ∷ rules) (rule ∷ left_then p i rules)

-- how many uses are left of the rule at a place
abbrev pub left_of : List Rule → ℕ → ℕ
left_of [] j = 0
left_of (rule ∷ rules) zero = rule.quota
left_of (rule ∷ rules) (suc j) = left_of rules j
