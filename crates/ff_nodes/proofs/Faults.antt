-- Why a child can't stand under a parent, by the tests that say so.
use Rattle.std.proofs.Common.{◌≡◌, ℕ, suc, ◌+◌, ◌<◌, ◌≤◌, ◌≢◌, ◌||◌, ◌==◌, nat_lt, not, ℤ, pos, int_lt, Bool, true, false, cond, Option, Some, None, is_some, is_none, List, length, arith, refl, ap, ◌∙◌, sym}
use Rattle.std.proofs.lemmas.Bool.Decides.{nat_tests}
use Rattle.ff_value.specs.declared.fault.Fault.{Fault}
use Rattle.ff_value.specs.declared.fault.Fault.TheVariants as fault
use Rattle.ff_value.specs.declared.ids.NodeId.{NodeId}
use Rattle.ff_machine.specs.declared.limits.TheConstants.{MOST_TREE_DEPTH}
use Rattle.ff_machine.specs.Shapes.{page_of, may_have_children}
use Rattle.ff_machine.specs.Nodes.{Node, node_at, children, parent, root, depth, height, place_of, insert_fault}

-- the fault that the tests in their order give
abbrev pub first_of_tests : Bool → Bool → Bool → Bool → Bool → Bool → Option Fault
first_of_tests parent_may is_page has_parent is_inside no_place too_deep =
    cond (not parent_may) (Some fault.Kind)
    (cond is_page (Some fault.Kind)
    (cond has_parent (Some fault.Range)
    (cond is_inside (Some fault.Range)
    (cond no_place (Some fault.Range)
    (cond too_deep (Some fault.Limit) None)))))

pub fault_of_tests : (nodes : List Node) (p c : NodeId) (at : ℤ) (may page has inside missing deep : Bool) → may_have_children (node_at nodes p).shape ≡ may → is_some (page_of (node_at nodes c).shape) ≡ page → is_some (parent nodes c) ≡ has
    → ((root nodes p).0 == c.0) ≡ inside → is_none (place_of at (length (children nodes p))) ≡ missing → nat_lt MOST_TREE_DEPTH (suc (depth nodes p + height nodes c)) ≡ deep
    → insert_fault nodes p c at ≡ first_of_tests may page has inside missing deep
unfolding insert_fault
fault_of_tests nodes p c at may page has inside missing deep is_may is_page is_has is_inside is_missing is_deep = cc (is_may, is_page, is_has, is_inside, is_missing, is_deep)

module _ (nodes : List Node) (p c : NodeId) (at : ℤ) where
  pub parent_kind : may_have_children (node_at nodes p).shape ≡ false → insert_fault nodes p c at ≡ Some fault.Kind
  parent_kind may = fault_of_tests nodes p c at false _ _ _ _ _ may refl refl refl refl refl

  pub child_kind : may_have_children (node_at nodes p).shape ≡ true → is_some (page_of (node_at nodes c).shape) ≡ true → insert_fault nodes p c at ≡ Some fault.Kind
  child_kind may page = fault_of_tests nodes p c at true true _ _ _ _ may page refl refl refl refl

  pub child_range : may_have_children (node_at nodes p).shape ≡ true → is_some (page_of (node_at nodes c).shape) ≡ false → is_some (parent nodes c) ≡ true → insert_fault nodes p c at ≡ Some fault.Range
  child_range may page has = fault_of_tests nodes p c at true false true _ _ _ may page has refl refl refl

  module _ (may : may_have_children (node_at nodes p).shape ≡ true) (page : is_some (page_of (node_at nodes c).shape) ≡ false) (has : is_some (parent nodes c) ≡ false) where
    pub inside_range : (root nodes p).0 ≡ c.0 → insert_fault nodes p c at ≡ Some fault.Range
    inside_range inside = fault_of_tests nodes p c at true false false true _ _ may page has (grind (arith, nat_tests, inside)) refl refl

    module _ (apart : (root nodes p).0 ≢ c.0) where
      outside : ((root nodes p).0 == c.0) ≡ false
      outside = grind (arith, nat_tests, apart)

      pub place_range : place_of at (length (children nodes p)) ≡ None → insert_fault nodes p c at ≡ Some fault.Range
      place_range none = fault_of_tests nodes p c at true false false false true _ may page has outside (ap is_none none) refl

      pub deep_limit : (k : ℕ) → place_of at (length (children nodes p)) ≡ Some k → MOST_TREE_DEPTH ≤ depth nodes p + height nodes c → insert_fault nodes p c at ≡ Some fault.Limit
      deep_limit k some deep = fault_of_tests nodes p c at true false false false false true may page has outside (ap is_none some) (grind (arith, nat_tests, deep))

      pub no_fault : (k : ℕ) → place_of at (length (children nodes p)) ≡ Some k → depth nodes p + height nodes c < MOST_TREE_DEPTH → insert_fault nodes p c at ≡ None
      no_fault k some shallow = fault_of_tests nodes p c at true false false false false false may page has outside (ap is_none some) (grind (arith, nat_tests, shallow))

-- a node without a parent
pub no_parent : (o : Option NodeId) → is_some o ≡ false → o ≡ None
no_parent None e = refl
no_parent (Some q) e = cc

-- where no fault forbids a child, the place is one among the children, or after them
pub place_within : (nodes : List Node) (p c : NodeId) (k : ℕ) → insert_fault nodes p c (pos k) ≡ None → k ≤ length (children nodes p)
unfolding insert_fault
place_within nodes p c k e =
    let first = none_of (not (may_have_children (node_at nodes p).shape)) fault.Kind _ e in
    let second = none_of (is_some (page_of (node_at nodes c).shape)) fault.Kind _ first.1 in
    let third = none_of (is_some (parent nodes c)) fault.Range _ second.1 in
    let fourth = none_of ((root nodes p).0 == c.0) fault.Range _ third.1 in
    let fifth = none_of (is_none (place_of (pos k) (length (children nodes p)))) fault.Range _ fourth.1 in
    by (nat_lt (length (children nodes p)) k) refl fifth.0
  where
    none_of : {A : Type 0} (b : Bool) (f : A) (o : Option A) → cond b (Some f) o ≡ None → (b ≡ false) × (o ≡ None)
    none_of true f o e = cc
    none_of false f o e = (refl, e)

    beyond : (a b : Bool) → b ≡ true → is_none (cond (a || b) None (Some k)) ≡ true
    beyond true b t = refl
    beyond false true t = refl
    beyond false false t = cc

    by : (b : Bool) → nat_lt (length (children nodes p)) k ≡ b → is_none (place_of (pos k) (length (children nodes p))) ≡ false → k ≤ length (children nodes p)
    by true t within = absurd (let both : true ≡ false = sym (beyond (int_lt (pos k) (pos 0)) (nat_lt (length (children nodes p)) k) t) ∙ within in cc)
    by false t within = grind (arith, nat_tests, t)
