-- Whether bytes begin as a saved text does, under another policy.
use Rattle.std.proofs.Common.{◌≡◌, ◌≢◌, ◌≤◌, ℕ, Bool, true, false, not, Option, Some, None, Result, Ok, Err, List, [], length, codes, IfOk, inl, inr, refl, sym, ap, subst, ◌∙◌}
use Rattle.std.specs.Prelude.{OnOk, OnErr, IsTrue}
use Rattle.std.specs.Str.{IsUtf8, bytes_eq}
use Rattle.std.proofs.lemmas.Slice.Eq.{bytes_eq-Decides}
use Rattle.ff_contract.specs.Appending.{Appends}
use Rattle.ff_lattice.specs.Order.{Order}
use Rattle.ff_policy.specs.Assignment.{Assignment}
use Rattle.ff_policy.specs.Printing.{printed}
use Rattle.ff_text.specs.declared.reading.TheConstants.{MOST_BYTES}
use Rattle.ff_trace.specs.declared.fault.LineFault.{LineFault}
use Rattle.ff_trace.specs.declared.fault.LineFault.TheVariants as fault
use Rattle.ff_io.specs.Cutting.{content, after_line}
use Rattle.ff_forms.specs.Canonical.{string}
use Rattle.ff_printing.specs.Pieces.{Prints, after_blank}
use Rattle.ff_printing.specs.declared.printer.Printer.{Printer}
use Rattle.ff_printing.proofs.Printing.{appended}
use Rattle.ff_saved_rows.proofs.Once.{reads_row_once}
use Rattle.ff_saved_rows.proofs.Printing.{row_of_one, head_line}
use Rattle.ff_saved_rows.proofs.Rereading.{line_again}
use Rattle.ff_saved_rows.proofs.Nested.{row_nested}
use Rattle.ff_saved_rows.specs.Reading.{ReadsRow}
use Rattle.ff_trace.specs.Lines.{Gives}
use Rattle.ff_saved_rows.specs.Rows.{row_text, IsRow, FitsLine}
use Rattle.ff_saved_rows.specs.declared.row.Row.{Row}
use Rattle.ff_saved_rows.specs.declared.row.Row.TheVariants as row
use Rattle.ff_save.specs.Whole.{IsOfOther, IsPolicyLine, IsPrintedPolicy, TellsPolicy, policy_line}

-- what was printed of a policy's row
pub printed_line : {X E : Type 0} (p q r : Printer) (answer : Result X E) (done : X) (text new : List ℕ) → answer ≡ Ok done → p.failed ≡ false → p.bytes.items ≡ []
    → Prints p q (codes "policy") → Prints q r (after_blank (string text)) → new ≡ r.bytes.items → OnOk answer (r.failed ≡ false) → OnErr answer (r.failed ≡ true) → new ≡ policy_line text
printed_line p q r answer done text new is before none first rest new_is ok err =
    subst (λ a. Appends a [] new (policy_line text)) is (appended p r answer [] new (policy_line text) before none new_is ok err (row_of_one (codes "policy") (string text) first rest))

-- whether it is a line
pub line_test : (t : Bool) (new line whole : List ℕ) → new ≡ whole → t ≡ bytes_eq new line → (IsTrue t → line ≡ whole) × (line ≡ whole → IsTrue t)
line_test t new line whole is test = (
  (λ is_true. sym ((bytes_eq-Decides new line).0 (sym test ∙ is_true)) ∙ is),
  (λ same. test ∙ (bytes_eq-Decides new line).1 (is ∙ sym same)),
)

-- a line that was read as a row
module _ (order : Order) (line : List ℕ) (answer : Result Row LineFault) (only : (one : Row) → IsRow order one → FitsLine order one → line ≡ row_text order one → Gives answer (Ok one)) where
  -- what it is read as where it is a policy's
  reads_policy : (text : List ℕ) → IsPolicyLine line text → Gives answer (Ok (row.Policy text))
  reads_policy text is = only (row.Policy text) is.utf8 (record { short = is.short; nested = row_nested order (row.Policy text) is.utf8 tt }) is.line_is

  read_told : (one : Row) → answer ≡ Ok one → length line ≤ MOST_BYTES → (found : Option (List ℕ)) → IsPrintedPolicy one line found → TellsPolicy line found
  read_told one at short None none = λ text is. from text is (reads_policy text is)
    where
      from : (text : List ℕ) → IsPolicyLine line text → Gives answer (Ok (row.Policy text)) → ⊥
      from text is (inl e) = let same : one ≡ row.Policy text = cc in none text same is.line_is
      from text is (inr e) = cc
  read_told one at short (Some text) some = record { utf8 = some.1; short = subst (λ bs. length bs ≤ MOST_BYTES) some.2 short; line_is = some.2 }

  pub read_as : {E : Type 0} (one : Row) → answer ≡ Ok one → length line ≤ MOST_BYTES → (found : Result (Option (List ℕ)) E) → IfOk found (IsPrintedPolicy one line) → IfOk found (TellsPolicy line)
  read_as one at short (Ok found) is = read_told one at short found is
  read_as one at short (Err refused) is = tt

  unread_told : (which : LineFault) → answer ≡ Err which → which ≢ fault.NoMemory → (found : Option (List ℕ)) → found ≡ None → TellsPolicy line found
  unread_told which at other None none = λ text is. from (reads_policy text is)
    where
      from : {text : List ℕ} → Gives answer (Ok (row.Policy text)) → ⊥
      from (inl e) = cc
      from (inr e) = let same : which ≡ fault.NoMemory = cc in other same
  unread_told which at other (Some text) none = cc

  pub unread : {E : Type 0} (which : LineFault) → answer ≡ Err which → (found : Result (Option (List ℕ)) E) → IfOk found (λ told. (told ≡ None) × (which ≢ fault.NoMemory)) → IfOk found (TellsPolicy line)
  unread which at (Ok found) is = unread_told which at is.1 found is.0
  unread which at (Err refused) is = tt

-- one line is the row of one policy
abbrev ok_of : Row → Result Row LineFault
ok_of one = Ok one

pub policies_once : (order : Order) (s t : List ℕ) → IsUtf8 s → IsUtf8 t → length (policy_line s) ≤ MOST_BYTES → policy_line s ≡ policy_line t → s ≡ t
policies_once order s t utf8_s utf8_t short same = text_of_row (ok_same (reads_row_once order (policy_line t) (Ok (row.Policy s)) (Ok (row.Policy t)) first second))
  where
    first : ReadsRow order (policy_line t) (Ok (row.Policy s))
    first = subst (λ line. ReadsRow order line (Ok (row.Policy s))) same (line_again order (row.Policy s) utf8_s (record { short = short; nested = row_nested order (row.Policy s) utf8_s tt }))

    second : ReadsRow order (policy_line t) (Ok (row.Policy t))
    second = line_again order (row.Policy t) utf8_t (record { short = subst (λ line. length line ≤ MOST_BYTES) same short; nested = row_nested order (row.Policy t) utf8_t tt })

    ok_same : {a b : Row} → ok_of a ≡ Ok b → a ≡ b
    ok_same e = cc

    text_of_row : {a b : List ℕ} → row.Policy a ≡ row.Policy b → a ≡ b
    text_of_row e = cc

module _ (p : Assignment) (bytes line head : List ℕ) (line_is : line ≡ content bytes) (head_is : head ≡ codes "ffox-saved 1") where
  -- another first line
  pub no_other : (differ : Bool) → differ ≡ not (bytes_eq line head) → differ ≡ true → ¬ IsOfOther p bytes
  no_other differ is differs other =
      let same : bytes_eq line head ≡ true = (bytes_eq-Decides line head).1 (line_is ∙ other.first ∙ head_line p.order ∙ sym head_is) in
      let alike : differ ≡ false = is ∙ ap not same in cc

  -- this first line, and a policy's row
  pub other_test : (differ t : Bool) (rest second other text : List ℕ) → differ ≡ not (bytes_eq line head) → differ ≡ false → rest ≡ after_line bytes → second ≡ content rest → IsPolicyLine second other → text ≡ printed p → t ≡ not (bytes_eq other text)
      → (IsTrue t → IsOfOther p bytes) × (IsOfOther p bytes → IsTrue t)
  other_test differ t rest second other text is alike rest_is second_is found text_is test = (
    (λ true_is. record {
      text = other;
      utf8 = found.utf8;
      short = found.short;
      other = λ same. let equal : bytes_eq other text ≡ true = (bytes_eq-Decides other text).1 (same ∙ sym text_is) in let none : t ≡ false = test ∙ ap not equal in cc;
      first = sym line_is ∙ (bytes_eq-Decides line head).0 (not_true (bytes_eq line head) (sym is ∙ alike)) ∙ head_is ∙ sym (head_line p.order);
      second = ap content (sym rest_is) ∙ sym second_is ∙ found.line_is;
    }),
    (λ was.
        let same : policy_line other ≡ policy_line was.text = sym found.line_is ∙ second_is ∙ ap content rest_is ∙ was.second in
        let one = policies_once p.order other was.text found.utf8 was.utf8 found.short same in
        test ∙ ap not (ne_bytes other text (λ e. was.other (sym one ∙ e ∙ text_is)))),
  )
    where
      not_true : (b : Bool) → not b ≡ false → b ≡ true
      not_true true e = refl
      not_true false e = cc

      ne_bytes : (a b : List ℕ) → a ≢ b → bytes_eq a b ≡ false
      ne_bytes a b differ = from (bytes_eq a b) refl
        where
          from : (c : Bool) → bytes_eq a b ≡ c → c ≡ false
          from false e = refl
          from true e = absurd (differ ((bytes_eq-Decides a b).0 e))
