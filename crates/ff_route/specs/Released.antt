-- The released run's offers: for each input what the levels are offered by the rules that are left.
use Rattle.std.specs.Prelude.{ℕ, ◌==◌, cond, Option, List, [], ◌∷◌, sum}
use Rattle.ff_confinement.specs.Runs.{entries}
use Rattle.ff_value.specs.declared.input.Input.{Input}
use Rattle.ff_policy.specs.Assignment.{Assignment}
use Rattle.ff_route.specs.Offering.{first_of_use, released, left_then}
use Rattle.ff_route.specs.declared.rule.Rule.{Rule}

-- the rules, with what is left of each after these inputs
unfoldable pub left_after : Assignment → List Rule → List Input → List Rule
left_after p rules [] = rules
left_after p rules (i ∷ is) = left_after p (left_then p i rules) is

-- what the levels are offered of an input after the inputs before it
abbrev pub offers_after : Assignment → List Rule → List Input → Input → List (Option Input)
offers_after p rules before i = released p (left_after p rules before) i

-- what they are offered of each input
unfoldable pub all_offers : Assignment → List Rule → List Input → List (List (Option Input))
all_offers p rules is = entries (offers_after p rules) [] is

-- at how many of the inputs the rule at this place made the offers
abbrev pub use_of : Assignment → List Rule → ℕ → List Input → Input → ℕ
use_of p rules j before i = cond (first_of_use p i (left_after p rules before) == j) 1 0

unfoldable pub uses : Assignment → List Rule → ℕ → List Input → ℕ
uses p rules j is = sum (entries (use_of p rules j) [] is)
