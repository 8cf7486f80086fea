-- Bytes are read as rules in one way.
use Rattle.std.proofs.Common.{◌≡◌, ℕ, zero, suc, ◌+◌, ◌<◌, ◌≤◌, Bool, true, false, nat_lt, cond, Option, Some, None, Result, Ok, Err, List, [], ◌∷◌, length, refl, sym, ap, ◌∙◌, arith}
use Rattle.std.proofs.lemmas.Bool.Decides.{nat_tests}
use Rattle.ff_io.specs.Cutting.{content, after_line}
use Rattle.ff_lattice.specs.Order.{Order}
use Rattle.ff_text.specs.Machine.{verdict}
use Rattle.ff_text.specs.declared.items.Sexp.{Sexp}
use Rattle.ff_text.specs.declared.items.TextFault.{TextFault}
use Rattle.ff_text.proofs.Complete.{verdict_from_spelled}
use Rattle.ff_text.proofs.Verdict.{verdict_from_fault}
use Rattle.ff_trace.specs.Lines.{is_silent}
use Rattle.ff_rules.specs.Lines.{GivesRule, silent, bad_text, as_items, rule_in, in_front, Reads, at_end, no_rule, a_rule, too_many, bad_line, ReadsRules, too_large, by_lines}
use Rattle.ff_route.specs.declared.rule.Rule.{Rule}
use Rattle.ff_rules.specs.declared.rule.TheConstants.{MOST_RULES}
use Rattle.ff_rules.specs.declared.fault.ReleaseFault.{ReleaseFault}
use Rattle.ff_rules.specs.declared.fault.ReleaseFault.TheVariants as fault
use Rattle.ff_io.proofs.Cuts.{fewer_after}

-- what a line gives, from what its bytes are read as
abbrev line_answer : Order → ℕ → Bool → Result (List Sexp) TextFault → Result (Option Rule) ReleaseFault
line_answer order number true items = Ok None
line_answer order number false (Ok items) = rule_in order number items
line_answer order number false (Err which) = Err (fault.Text number which)

abbrev given : Order → ℕ → List ℕ → Result (Option Rule) ReleaseFault
given order number line = line_answer order number (is_silent line) (verdict line)

line_is : (order : Order) (number : ℕ) (line : List ℕ) (answer : Result (Option Rule) ReleaseFault) → GivesRule order number line answer → answer ≡ given order number line
line_is order number line answer (silent quiet) = rw quiet refl
line_is order number line answer (bad_text which loud first) = rw (loud, verdict_from_fault line which first) refl
line_is order number line answer (as_items items answer' loud spelled is) = is ∙ rw (loud, verdict_from_spelled line items spelled) refl

-- what all lines give, in so many steps
abbrev taken : ℕ → ℕ → Result (Option Rule) ReleaseFault → Result (List Rule) ReleaseFault → Result (List Rule) ReleaseFault → Result (List Rule) ReleaseFault
taken number before (Ok None) without behind = without
taken number before (Ok (Some rule)) without behind = cond (nat_lt before MOST_RULES) (in_front rule behind) (Err (fault.TooMany number))
taken number before (Err which) without behind = Err which

abbrev answer_of : Order → ℕ → ℕ → ℕ → List ℕ → Result (List Rule) ReleaseFault
answer_of order zero number before bytes = Ok []
answer_of order (suc n) number before [] = Ok []
answer_of order (suc n) number before (b ∷ bs) =
    taken number before (given order number (content (b ∷ bs))) (answer_of order n (number + 1) before (after_line (b ∷ bs))) (answer_of order n (number + 1) (before + 1) (after_line (b ∷ bs)))

few : (before : ℕ) → before < MOST_RULES → nat_lt before MOST_RULES ≡ true
few before less = grind (arith, nat_tests)

many : (before : ℕ) → MOST_RULES ≤ before → nat_lt before MOST_RULES ≡ false
many before more = grind (arith, nat_tests)

-- a line and what follows it
next : (order : Order) (n number before : ℕ) (bytes : List ℕ) → 0 < length bytes
    → answer_of order (suc n) number before bytes ≡ taken number before (given order number (content bytes)) (answer_of order n (number + 1) before (after_line bytes)) (answer_of order n (number + 1) (before + 1) (after_line bytes))
next order n number before [] some = absurd (omega arith)
next order n number before (b ∷ bs) some = refl

reads_is : (order : Order) (n number before : ℕ) (bytes : List ℕ) (answer : Result (List Rule) ReleaseFault) → length bytes ≤ n → Reads order number before bytes answer → answer ≡ answer_of order n number before bytes
reads_is order zero number before bytes answer within (at_end number' before') = refl
reads_is order zero number before bytes answer within (no_rule number' before' bytes' answer' some gives rest) = absurd (omega (arith, some, within))
reads_is order zero number before bytes answer within (a_rule number' before' bytes' rule answer' some gives room rest) = absurd (omega (arith, some, within))
reads_is order zero number before bytes answer within (too_many number' before' bytes' rule some gives full) = absurd (omega (arith, some, within))
reads_is order zero number before bytes answer within (bad_line number' before' bytes' which some gives) = absurd (omega (arith, some, within))
reads_is order (suc n) number before bytes answer within (at_end number' before') = refl
reads_is order (suc n) number before bytes answer within (no_rule number' before' bytes' answer' some gives rest) =
    let fewer = fewer_after bytes some in
    let more = reads_is order n (number + 1) before (after_line bytes) answer (omega (arith, fewer, within)) rest in
    more
    ∙ ap (λ g. taken number before g (answer_of order n (number + 1) before (after_line bytes)) (answer_of order n (number + 1) (before + 1) (after_line bytes))) (line_is order number (content bytes) (Ok None) gives)
    ∙ sym (next order n number before bytes some)
reads_is order (suc n) number before bytes answer within (a_rule number' before' bytes' rule answer' some gives room rest) =
    let fewer = fewer_after bytes some in
    let more = reads_is order n (number + 1) (before + 1) (after_line bytes) answer' (omega (arith, fewer, within)) rest in
    ap (in_front rule) more
    ∙ ap (λ b. cond b (in_front rule (answer_of order n (number + 1) (before + 1) (after_line bytes))) (Err (fault.TooMany number))) (sym (few before room))
    ∙ ap (λ g. taken number before g (answer_of order n (number + 1) before (after_line bytes)) (answer_of order n (number + 1) (before + 1) (after_line bytes))) (line_is order number (content bytes) (Ok (Some rule)) gives)
    ∙ sym (next order n number before bytes some)
reads_is order (suc n) number before bytes answer within (too_many number' before' bytes' rule some gives full) =
    ap (λ b. cond b (in_front rule (answer_of order n (number + 1) (before + 1) (after_line bytes))) (Err (fault.TooMany number))) (sym (many before full))
    ∙ ap (λ g. taken number before g (answer_of order n (number + 1) before (after_line bytes)) (answer_of order n (number + 1) (before + 1) (after_line bytes))) (line_is order number (content bytes) (Ok (Some rule)) gives)
    ∙ sym (next order n number before bytes some)
reads_is order (suc n) number before bytes answer within (bad_line number' before' bytes' which some gives) =
    ap (λ g. taken number before g (answer_of order n (number + 1) before (after_line bytes)) (answer_of order n (number + 1) (before + 1) (after_line bytes))) (line_is order number (content bytes) (Err which) gives)
    ∙ sym (next order n number before bytes some)

-- two answers of the same bytes are equal
pub reads_rules_once : (order : Order) (bytes : List ℕ) (a b : Result (List Rule) ReleaseFault) → ReadsRules order bytes a → ReadsRules order bytes b → a ≡ b
reads_rules_once order bytes a b (too_large over) (too_large over') = refl
reads_rules_once order bytes a b (too_large over) (by_lines b' within reads) = absurd (omega (arith, over, within))
reads_rules_once order bytes a b (by_lines a' within reads) (too_large over) = absurd (omega (arith, over, within))
reads_rules_once order bytes a b (by_lines a' within reads) (by_lines b' within' reads') =
    reads_is order (length bytes) 1 0 bytes a (omega arith) reads ∙ sym (reads_is order (length bytes) 1 0 bytes b (omega arith) reads')
