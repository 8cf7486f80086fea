-- Which release rules a name stands for, and what is wrong with them.
use Rattle.std.specs.Prelude.{ℕ, Ok, Err, List, []}
use Rattle.ff_io.specs.Shelf.{ShelfTold}
use Rattle.ff_lattice.specs.Order.{Order}
use Rattle.ff_rules.specs.Lines.{ReadsRules}
use Rattle.ff_route.specs.declared.rule.Rule.{Rule}
use Rattle.ff_rules.specs.declared.fault.ReleaseFault.{ReleaseFault}
use Rattle.ff_status.specs.declared.status.Status.{Status}
use Rattle.ff_status.specs.declared.status.Status.TheVariants.{Release}
use Rattle.ff_run.specs.Names.{Kind}
use Rattle.ff_run.specs.declared.rules.TheConstants.{MOST_FETCHED}

-- the bytes give these rules
abbrev pub AreRulesOf : Order → List ℕ → List Rule → Type 0
AreRulesOf order bytes rules = ReadsRules order bytes (Ok rules)

-- bytes are no rules for these levels, and a run ends so
pub data AreBadRules (order : Order) (bytes : List ℕ) : Status → Type 0 where
  faulty : (fault : ReleaseFault) → ReadsRules order bytes (Err fault) → AreBadRules order bytes (Release fault)

-- the release rules for these levels: none, or those of a file, of which so many bytes count
abbrev pub rules_for : Order → Kind (List Rule)
rules_for order = record { built_in = []; most = MOST_FETCHED; gives = AreRulesOf order; is_bad = AreBadRules order }
