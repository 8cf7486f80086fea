-- What the bytes of a rules file give, and how a run ends where they give nothing.
use Rattle.std.proofs.Common.{◌≡◌, inl, inr, ℕ, Result, Ok, Err, List, All}
use Rattle.std.proofs.lemmas.List.Elements.{All-nil}
use Rattle.ff_contract.specs.Answering.{Answers}
use Rattle.ff_lattice.specs.Order.{Order}
use Rattle.ff_io.specs.Shelf.{ShelfTold}
use Rattle.ff_rules.specs.Lines.{ReadsRules}
use Rattle.ff_route.specs.Offering.{IsRuleOf}
use Rattle.ff_rules.proofs.Levels.{rules_fit}
use Rattle.ff_route.specs.declared.rule.Rule.{Rule}
use Rattle.ff_rules.specs.declared.fault.ReleaseFail.{ReleaseFail}
use Rattle.ff_rules.specs.declared.fault.ReleaseFail.TheVariants.{Fault, NoMemory}
use Rattle.ff_rules.specs.declared.fault.ReleaseFault.{ReleaseFault}
use Rattle.ff_status.specs.declared.status.Status.{Status}
use Rattle.ff_status.specs.declared.status.Status.TheVariants.{Release}
use Rattle.ff_run.specs.Names.{Names}
use Rattle.ff_run.specs.Rules.{AreBadRules, rules_for}

module _ (order : Order) (bytes : List ℕ) (read : Result (List Rule) ReleaseFail)
    (exact : (fault : ReleaseFault) → ReadsRules order bytes (Err fault) → Answers read (Err (Fault fault)) (Err NoMemory)) where
  -- rules were read, so no fault is found
  pub no_fault : (rules : List Rule) → read ≡ Ok rules → (status : Status) → AreBadRules order bytes status → ⊥
  no_fault rules is _ (AreBadRules.faulty fault faulty) = elim (exact fault faulty) [
    | inl e ↦ cc
    | inr e ↦ cc
  ]

  module _ (fault : ReleaseFault) (is : read ≡ Err (Fault fault)) where
    -- a fault was found, so no rules are read
    pub no_rules : ((rules : List Rule) → ReadsRules order bytes (Ok rules) → Answers read (Ok rules) (Err NoMemory)) → (rules : List Rule) → ReadsRules order bytes (Ok rules) → ⊥
    no_rules only rules reads = elim (only rules reads) [
      | inl e ↦ cc
      | inr e ↦ cc
    ]

    -- nor another fault found
    pub one_fault : (status : Status) → AreBadRules order bytes status → Release fault ≡ status
    one_fault _ (AreBadRules.faulty other faulty) = elim (exact other faulty) [
      | inl e ↦ cc
      | inr e ↦ absurd (cc)
    ]

-- each rule of a name has a level of the lattice
pub named_fit : (order : Order) (shelf : ShelfTold) (name : List ℕ) (rules : List Rule) → Names (rules_for order) shelf name rules → All (IsRuleOf order) rules
named_fit order shelf _ _ (Names.at_dash name is_dash) = All-nil (IsRuleOf order)
named_fit order shelf _ _ (Names.in_file name bytes rules no_dash fetched reads) = rules_fit order bytes rules reads
