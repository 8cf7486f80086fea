-- A line is read as a row in one way.
use Rattle.std.proofs.Common.{◌≡◌, ◌⊎◌, ℕ, Result, Ok, Err, List, inl, inr, refl, sym, ◌∙◌}
use Rattle.ff_lattice.specs.Order.{Order}
use Rattle.ff_text.specs.Machine.{verdict}
use Rattle.ff_text.specs.Notation.{SpellsItems}
use Rattle.ff_text.specs.Faults.{FirstFault}
use Rattle.ff_text.specs.declared.items.Sexp.{Sexp}
use Rattle.ff_text.specs.declared.items.TextFault.{TextFault}
use Rattle.ff_text.proofs.Complete.{verdict_from_spelled}
use Rattle.ff_text.proofs.Verdict.{verdict_from_fault}
use Rattle.ff_trace.specs.declared.fault.LineFault.{LineFault}
use Rattle.ff_trace.specs.declared.fault.LineFault.TheVariants as fault
use Rattle.ff_saved_rows.specs.Reading.{ReadsRow, bad_text, as_items, row_in}
use Rattle.ff_trace.specs.Lines.{Gives}
use Rattle.ff_saved_rows.specs.declared.row.Row.{Row}

-- what a line says, from what its bytes are read as
abbrev line_answer : Order → Result (List Sexp) TextFault → Result Row LineFault
line_answer order (Ok items) = row_in order items
line_answer order (Err which) = Err (fault.Text which)

line_is : (order : Order) (line : List ℕ) (answer : Result Row LineFault) → ReadsRow order line answer → answer ≡ line_answer order (verdict line)
line_is order line answer (bad_text which first) = rw (verdict_from_fault line which first) refl
line_is order line answer (as_items items answer' spelled is) = is ∙ rw (verdict_from_spelled line items spelled) refl

-- two answers of one line are equal
pub reads_row_once : (order : Order) (line : List ℕ) (one other : Result Row LineFault) → ReadsRow order line one → ReadsRow order line other → one ≡ other
reads_row_once order line one other first second = line_is order line one first ∙ sym (line_is order line other second)

-- a call that gives what the line says, or finds no memory
abbrev IsFound : Order → List ℕ → Result Row LineFault → Type 0
IsFound order line answer = ReadsRow order line answer ⊎ (answer ≡ Err fault.NoMemory)

pub exact_from_found : (order : Order) (line : List ℕ) (answer : Result Row LineFault) → IsFound order line answer → (other : Result Row LineFault) → ReadsRow order line other → Gives answer other
exact_from_found order line answer found other reads = elim found [
  | inl first ↦ inl (reads_row_once order line answer other first reads)
  | inr memory ↦ inr memory
]

pub found_items : (order : Order) (line : List ℕ) (items : List Sexp) (answer : Result Row LineFault) → SpellsItems line items → Gives answer (row_in order items) → IsFound order line answer
found_items order line items answer spelled is = elim is [
  | inl same ↦ inl (as_items items answer spelled same)
  | inr memory ↦ inr memory
]

pub found_fault : (order : Order) (line : List ℕ) (which : TextFault) → FirstFault line which → IsFound order line (Err (fault.Text which))
found_fault order line which first = inl (bad_text which first)
