-- Rules that bytes give have levels of the lattice.
use Rattle.std.proofs.Common.{◌≡◌, ℕ, ◌+◌, Bool, Option, Some, None, Result, Ok, Err, IfOk, List, [], ◌∷◌, All, sym, subst}
use Rattle.std.specs.Option.{IfSome}
use Rattle.std.proofs.lemmas.List.Elements.{All-nil, All-cons}
use Rattle.ff_io.specs.Cutting.{content, after_line}
use Rattle.ff_lattice.specs.Order.{Order, IsTag, level_named}
use Rattle.ff_lattice.proofs.Named.{level_within}
use Rattle.ff_name.specs.declared.levels.Level.{Level}
use Rattle.ff_text.specs.declared.items.Sexp.{Sexp}
use Rattle.ff_trace.specs.Lines.{kind_of}
use Rattle.ff_trace.specs.Parts.{number_of}
use Rattle.ff_value.specs.declared.kind.Kind.{Kind}
use Rattle.ff_rules.specs.Lines.{GivesRule, silent, bad_text, as_items, form_named, part_in, with_level, with_parts, rule_in, in_front, Reads, at_end, no_rule, a_rule, too_many, bad_line, ReadsRules, by_lines}
use Rattle.ff_route.specs.Offering.{IsRuleOf}
use Rattle.ff_route.specs.declared.rule.Rule.{Rule}
use Rattle.ff_rules.specs.declared.fault.ReleaseFault.{ReleaseFault}

module _ (order : Order) where
  level_fits : (number : ℕ) (kind : Kind) (quota : ℕ) (whole : Bool) (o : Option Level) → IsTag order o → IfOk (with_level number kind quota whole o) (λ rule. IfSome rule (IsRuleOf order))
  level_fits number kind quota whole None tag = tt
  level_fits number kind quota whole (Some level) tag = tag

  parts_fit : (number : ℕ) (kind : Option Kind) (name : Option (List ℕ)) (quota : Option ℕ) (whole : Option Bool) → IfOk (with_parts order number kind name quota whole) (λ rule. IfSome rule (IsRuleOf order))
  parts_fit number None name quota whole = tt
  parts_fit number (Some kind) None quota whole = tt
  parts_fit number (Some kind) (Some name) None whole = tt
  parts_fit number (Some kind) (Some name) (Some quota) None = tt
  parts_fit number (Some kind) (Some name) (Some quota) (Some whole) = level_fits number kind quota whole (level_named order name) (level_within order name)

  items_fit : (number : ℕ) (items : List Sexp) → IfOk (rule_in order number items) (λ rule. IfSome rule (IsRuleOf order))
  items_fit number [] = tt
  items_fit number (a ∷ []) = tt
  items_fit number (a ∷ b ∷ []) = tt
  items_fit number (a ∷ b ∷ c ∷ []) = tt
  items_fit number (kind ∷ level ∷ quota ∷ form ∷ []) = parts_fit number (kind_of kind) (part_in Some level) (part_in number_of quota) (part_in form_named form)
  items_fit number (a ∷ b ∷ c ∷ d ∷ e ∷ items) = tt

  line_fits : (number : ℕ) (line : List ℕ) (answer : Result (Option Rule) ReleaseFault) → GivesRule order number line answer → IfOk answer (λ rule. IfSome rule (IsRuleOf order))
  line_fits number line _ (silent quiet) = tt
  line_fits number line _ (bad_text which quiet bad) = tt
  line_fits number line answer (as_items items other quiet spells is) = subst (λ r. IfOk r (λ rule. IfSome rule (IsRuleOf order))) (sym is) (items_fit number items)

  in_front_fits : (rule : Rule) (answer : Result (List Rule) ReleaseFault) → IsRuleOf order rule → IfOk answer (All (IsRuleOf order)) → IfOk (in_front rule answer) (All (IsRuleOf order))
  in_front_fits rule (Ok rules) fits rest = All-cons (IsRuleOf order) rule rules fits rest
  in_front_fits rule (Err which) fits rest = tt

  lines_fit : (number before : ℕ) (bytes : List ℕ) (answer : Result (List Rule) ReleaseFault) → Reads order number before bytes answer → IfOk answer (All (IsRuleOf order))
  lines_fit _ _ _ _ (at_end number before) = All-nil (IsRuleOf order)
  lines_fit _ _ _ _ (no_rule number before bytes answer some gives rest) = lines_fit (number + 1) before (after_line bytes) answer rest
  lines_fit _ _ _ _ (a_rule number before bytes rule answer some gives room rest) =
      in_front_fits rule answer (line_fits number (content bytes) (Ok (Some rule)) gives) (lines_fit (number + 1) (before + 1) (after_line bytes) answer rest)
  lines_fit _ _ _ _ (too_many number before bytes rule some gives full) = tt
  lines_fit _ _ _ _ (bad_line number before bytes which some gives) = tt

  -- each rule that bytes give has a level of the lattice
  pub rules_fit : (bytes : List ℕ) (rules : List Rule) → ReadsRules order bytes (Ok rules) → All (IsRuleOf order) rules
  rules_fit bytes rules (by_lines answer few reads) = lines_fit 1 0 bytes (Ok rules) reads
