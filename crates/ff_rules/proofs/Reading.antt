-- Rules are read line by line.
use Rattle.std.proofs.Common.{◌≡◌, ◌≢◌, ◌⊎◌, inl, inr, ℕ, ◌+◌, ◌<◌, ◌≤◌, Bool, true, false, Option, Some, None, Result, Ok, Err, List, [], ◌∷◌, ◌++◌, length, nat_eq, All, refl, sym, ap, subst, ◌∙◌, append-nil, append_assoc, arith}
use Rattle.std.proofs.lemmas.Bool.{eqb-true, eq-eqb, true≢false}
use Rattle.std.proofs.lemmas.List.{length_push}
use Rattle.std.proofs.lemmas.List.Elements.{All-push}
use Rattle.ff_contract.specs.Answering.{Answers}
use Rattle.ff_io.specs.Cutting.{content, after_line}
use Rattle.ff_lattice.specs.Order.{Order}
use Rattle.ff_text.specs.Notation.{SpellsItems}
use Rattle.ff_text.specs.Faults.{FirstFault}
use Rattle.ff_text.specs.declared.items.Sexp.{Sexp}
use Rattle.ff_text.specs.declared.items.TextFault.{TextFault}
use Rattle.ff_text.specs.declared.items.TextFault.TheVariants as text
use Rattle.ff_trace.specs.Lines.{is_silent}
use Rattle.ff_rules.specs.Lines.{GivesRule, silent, bad_text, as_items, rule_in, in_front, Reads, at_end, no_rule, a_rule, too_many, bad_line, ReadsRules, too_large, by_lines, IsFound}
use Rattle.ff_route.specs.Offering.{IsRuleOf}
use Rattle.ff_route.specs.declared.rule.Rule.{Rule}
use Rattle.ff_rules.specs.declared.rule.TheConstants.{MOST_RULES, MOST_RULES_BYTES}
use Rattle.ff_rules.specs.declared.fault.ReleaseFault.{ReleaseFault}
use Rattle.ff_rules.specs.declared.fault.ReleaseFault.TheVariants as fault
use Rattle.ff_rules.specs.declared.fault.ReleaseFail.{ReleaseFail}
use Rattle.ff_rules.specs.declared.fault.ReleaseFail.TheVariants.{Fault, NoMemory}
use Rattle.ff_rules.proofs.Once.{reads_rules_once}
use Rattle.ff_io.proofs.Cuts.{fewer_after}

-- ---- a line

module _ (order : Order) (number : ℕ) (line : List ℕ) where
  pub quiet_line : is_silent line ≡ true → GivesRule order number line (Ok None)
  quiet_line quiet = silent quiet

  pub found_items : (items : List Sexp) (result : Result (Option Rule) ReleaseFail) → is_silent line ≡ false → SpellsItems line items → IsFound (λ answer. answer ≡ rule_in order number items) result → IsFound (GivesRule order number line) result
  found_items items (Ok answer) loud spelled is = as_items items (Ok answer) loud spelled is
  found_items items (Err (Fault which)) loud spelled is = as_items items (Err which) loud spelled is
  found_items items (Err NoMemory) loud spelled is = tt

  pub found_fault : (which : TextFault) → is_silent line ≡ false → which ≢ text.NoMemory → (which ≡ text.NoMemory) ⊎ FirstFault line which → GivesRule order number line (Err (fault.Text number which))
  found_fault which loud other cause = elim cause [
    | inl memory ↦ absurd (other memory)
    | inr first ↦ bad_text which loud first
  ]

-- ---- all lines

-- these rules before an answer
abbrev pub behind : List Rule → Result (List Rule) ReleaseFault → Result (List Rule) ReleaseFault
behind rules (Ok more) = Ok (rules ++ more)
behind rules (Err which) = Err which

behind_one : (rules : List Rule) (rule : Rule) (answer : Result (List Rule) ReleaseFault) → behind rules (in_front rule answer) ≡ behind (rules ++ rule ∷ []) answer
behind_one rules rule (Ok more) = ap (λ rs. Ok rs) (sym (append_assoc rules (rule ∷ []) more))
behind_one rules rule (Err which) = refl

-- Where the loop over the lines stands: these rules were read, and the line of this number is next.
pub record IsReading (order : Order) (bytes : List ℕ) (rules : List Rule) (rest : List ℕ) (number : ℕ) : Type 0 where
  pub on : (answer : Result (List Rule) ReleaseFault) → Reads order number (length rules) rest answer → Reads order 1 0 bytes (behind rules answer)
  pub few : length rules ≤ MOST_RULES
  pub counted : number + length rest ≤ length bytes + 1
  pub within : All (IsRuleOf order) rules

module _ (order : Order) (bytes : List ℕ) (rules : List Rule) (rest line more : List ℕ) (number : ℕ) (at : IsReading order bytes rules rest number) (some : 0 < length rest) (line_is : line ≡ content rest) (more_is : more ≡ after_line rest) where
  gives_content : (answer : Result (Option Rule) ReleaseFault) → GivesRule order number line answer → GivesRule order number (content rest) answer
  gives_content answer gives = subst (λ l. GivesRule order number l answer) line_is gives

  next_counted : (number + 1) + length more ≤ length bytes + 1
  next_counted =
      let fewer = fewer_after rest some in
      let same = ap length more_is in
      let so_far = at.counted in
      omega (arith, fewer, same, so_far)

  pub reading_none : GivesRule order number line (Ok None) → IsReading order bytes rules more (number + 1)
  reading_none gives = record {
    on = λ answer reads. at.on answer (no_rule number (length rules) rest answer some (gives_content (Ok None) gives) (subst (λ bs. Reads order (number + 1) (length rules) bs answer) more_is reads));
    few = at.few;
    counted = next_counted;
    within = at.within;
  }

  pub reading_rule : (rule : Rule) (next : List Rule) → GivesRule order number line (Ok (Some rule)) → length rules < MOST_RULES → IsRuleOf order rule → next ≡ rules ++ rule ∷ [] → IsReading order bytes next more (number + 1)
  reading_rule rule next gives room fits next_is = subst (λ rs. IsReading order bytes rs more (number + 1)) (sym next_is) (record {
    on = λ answer reads.
        subst (Reads order 1 0 bytes) (behind_one rules rule answer)
        (at.on (in_front rule answer) (a_rule number (length rules) rest rule answer some (gives_content (Ok (Some rule)) gives) room
        (subst (λ bs. Reads order (number + 1) (length rules + 1) bs answer) more_is (subst (λ n. Reads order (number + 1) n more answer) (length_push rules rule) reads))));
    few = let long = length_push rules rule in omega (arith, long, room);
    counted = next_counted;
    within = All-push (IsRuleOf order) rules rule at.within fits;
  })

  pub reading_bad : (which : ReleaseFault) → GivesRule order number line (Err which) → Reads order 1 0 bytes (Err which)
  reading_bad which gives = at.on (Err which) (bad_line number (length rules) rest which some (gives_content (Err which) gives))

  pub reading_many : (rule : Rule) → GivesRule order number line (Ok (Some rule)) → MOST_RULES ≤ length rules → Reads order 1 0 bytes (Err (fault.TooMany number))
  reading_many rule gives full = at.on (Err (fault.TooMany number)) (too_many number (length rules) rest rule some (gives_content (Ok (Some rule)) gives) full)

pub reading_done : (order : Order) (bytes : List ℕ) (rules : List Rule) (rest : List ℕ) (number : ℕ) → IsReading order bytes rules rest number → rest ≡ [] → Reads order 1 0 bytes (Ok rules)
reading_done order bytes rules rest number at none =
    subst (λ rs. Reads order 1 0 bytes (Ok rs)) (append-nil rules) (at.on (Ok []) (subst (λ bs. Reads order number (length rules) bs (Ok [])) (sym none) (at_end number (length rules))))

-- ---- what a call answers

pub nothing_left : (bytes : List ℕ) (empty : Bool) → empty ≡ nat_eq (length bytes) 0 → empty ≡ true → bytes ≡ []
nothing_left bytes empty is none = by bytes (eqb-true (length bytes) 0 (sym is ∙ none))
  where
    by : (bs : List ℕ) → length bs ≡ 0 → bs ≡ []
    by [] e = refl
    by (b ∷ bs) e = absurd (omega (arith, e))

pub something_left : (bytes : List ℕ) (empty : Bool) → empty ≡ nat_eq (length bytes) 0 → empty ≡ false → 0 < length bytes
something_left bytes empty is some = by bytes (λ none. true≢false (sym (eq-eqb (length bytes) 0 none) ∙ sym is ∙ some))
  where
    by : (bs : List ℕ) → (length bs ≡ 0 → ⊥) → 0 < length bs
    by [] e = absurd (e refl)
    by (b ∷ bs) e = omega arith

-- what a line answers where it gives no rule
pub found_bad : (order : Order) (bytes : List ℕ) (rules : List Rule) (rest line more : List ℕ) (number : ℕ) (at : IsReading order bytes rules rest number) (some : 0 < length rest) (line_is : line ≡ content rest) (more_is : more ≡ after_line rest)
    → length bytes ≤ MOST_RULES_BYTES → (fail : ReleaseFail) → IsFound (GivesRule order number line) (Err fail) → IsFound (ReadsRules order bytes) (Err fail)
found_bad order bytes rules rest line more number at some line_is more_is within (Fault which) found = by_lines (Err which) within (reading_bad order bytes rules rest line more number at some line_is more_is which found)
found_bad order bytes rules rest line more number at some line_is more_is within NoMemory found = tt

pub large : (order : Order) (bytes : List ℕ) → MOST_RULES_BYTES < length bytes → ReadsRules order bytes (Err fault.TooLarge)
large order bytes over = too_large over

pub all_lines : (order : Order) (bytes : List ℕ) (answer : Result (List Rule) ReleaseFault) → length bytes ≤ MOST_RULES_BYTES → Reads order 1 0 bytes answer → ReadsRules order bytes answer
all_lines order bytes answer within reads = by_lines answer within reads

module _ (order : Order) (bytes : List ℕ) where
  pub only_found : (result : Result (List Rule) ReleaseFail) → IsFound (ReadsRules order bytes) result → (rules : List Rule) → ReadsRules order bytes (Ok rules) → Answers result (Ok rules) (Err NoMemory)
  only_found (Ok others) found rules reads = inl (let same = reads_rules_once order bytes (Ok others) (Ok rules) found reads in cc)
  only_found (Err (Fault which)) found rules reads = let same = reads_rules_once order bytes (Err which) (Ok rules) found reads in cc
  only_found (Err NoMemory) found rules reads = inr refl

  pub exact_found : (result : Result (List Rule) ReleaseFail) → IsFound (ReadsRules order bytes) result → (which : ReleaseFault) → ReadsRules order bytes (Err which) → Answers result (Err (Fault which)) (Err NoMemory)
  exact_found (Ok others) found which reads = let same = reads_rules_once order bytes (Ok others) (Err which) found reads in cc
  exact_found (Err (Fault other)) found which reads = inl (let same = reads_rules_once order bytes (Err other) (Err which) found reads in cc)
  exact_found (Err NoMemory) found which reads = inr refl
