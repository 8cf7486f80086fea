-- All bytes give rules, or a fault.
use Rattle.std.proofs.Common.{◌≡◌, ℕ, zero, suc, ◌+◌, ◌<◌, ◌≤◌, Bool, true, false, Option, Some, None, Result, Ok, Err, List, [], ◌∷◌, length, inl, inr, refl, arith}
use Rattle.std.proofs.lemmas.Bool.{cases_lt}
use Rattle.ff_io.specs.Cutting.{content, after_line}
use Rattle.ff_io.proofs.Cuts.{fewer_after}
use Rattle.ff_lattice.specs.Order.{Order}
use Rattle.ff_text.specs.Machine.{verdict}
use Rattle.ff_text.specs.declared.items.Sexp.{Sexp}
use Rattle.ff_text.specs.declared.items.TextFault.{TextFault}
use Rattle.ff_text.proofs.Verdict.{spelled_from_verdict, fault_from_verdict}
use Rattle.ff_trace.specs.Lines.{is_silent}
use Rattle.ff_rules.specs.Lines.{GivesRule, silent, bad_text, as_items, rule_in, in_front, Reads, at_end, no_rule, a_rule, too_many, bad_line, ReadsRules, too_large, by_lines}
use Rattle.ff_route.specs.declared.rule.Rule.{Rule}
use Rattle.ff_rules.specs.declared.rule.TheConstants.{MOST_RULES, MOST_RULES_BYTES}
use Rattle.ff_rules.specs.declared.fault.ReleaseFault.{ReleaseFault}
use Rattle.ff_rules.specs.declared.fault.ReleaseFault.TheVariants as fault

gives_some : (order : Order) (number : ℕ) (line : List ℕ) → (answer : Result (Option Rule) ReleaseFault) × GivesRule order number line answer
gives_some order number line = from (is_silent line) refl (verdict line) refl
  where
    from : (quiet : Bool) → is_silent line ≡ quiet → (read : Result (List Sexp) TextFault) → verdict line ≡ read → (answer : Result (Option Rule) ReleaseFault) × GivesRule order number line answer
    from true quiet read is = (Ok None, silent quiet)
    from false loud (Ok items) is = (rule_in order number items, as_items items (rule_in order number items) loud (spelled_from_verdict line items is) refl)
    from false loud (Err which) is = (Err (fault.Text number which), bad_text which loud (fault_from_verdict line which is))

abbrev Some-of : Order → ℕ → ℕ → List ℕ → Type 0
Some-of order number before bytes = (answer : Result (List Rule) ReleaseFault) × Reads order number before bytes answer

reads_some : (order : Order) (n number before : ℕ) (bytes : List ℕ) → length bytes ≤ n → Some-of order number before bytes
reads_some order n number before [] within = (Ok [], at_end number before)
reads_some order zero number before (b ∷ bs) within = absurd (omega (arith, within))
reads_some order (suc n) number before (b ∷ bs) within =
    let bytes : List ℕ = b ∷ bs in
    let some : 0 < length bytes = omega arith in
    let fewer = fewer_after bytes some in
    let less : length (after_line bytes) ≤ n = omega (arith, fewer, within) in
    let given = gives_some order number (content bytes) in
    from some (λ so_far. reads_some order n (number + 1) so_far (after_line bytes) less) given.0 given.1
  where
    from : 0 < length (b ∷ bs) → ((so_far : ℕ) → Some-of order (number + 1) so_far (after_line (b ∷ bs))) → (answer : Result (Option Rule) ReleaseFault) → GivesRule order number (content (b ∷ bs)) answer → Some-of order number before (b ∷ bs)
    from some rest (Ok None) gives = ((rest before).0, no_rule number before (b ∷ bs) (rest before).0 some gives (rest before).1)
    from some rest (Ok (Some rule)) gives = elim (cases_lt before MOST_RULES) as (λ _. Some-of order number before (b ∷ bs)) [
      | inl room ↦ (in_front rule (rest (before + 1)).0, a_rule number before (b ∷ bs) rule (rest (before + 1)).0 some gives room (rest (before + 1)).1)
      | inr full ↦ (Err (fault.TooMany number), too_many number before (b ∷ bs) rule some gives full)
    ]
    from some rest (Err which) gives = (Err which, bad_line number before (b ∷ bs) which some gives)

pub reads_rules_some : (order : Order) (bytes : List ℕ) → (answer : Result (List Rule) ReleaseFault) × ReadsRules order bytes answer
reads_rules_some order bytes = elim (cases_lt MOST_RULES_BYTES (length bytes)) as (λ _. (answer : Result (List Rule) ReleaseFault) × ReadsRules order bytes answer) [
  | inl over ↦ (Err fault.TooLarge, too_large over)
  | inr within ↦ let read = reads_some order (length bytes) 1 0 bytes (omega arith) in (read.0, by_lines read.0 within read.1)
]
