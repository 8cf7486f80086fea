-- A line is read in one way.
use Rattle.std.proofs.Common.{◌≡◌, ◌≢◌, ◌⊎◌, ℕ, Bool, true, false, Result, Ok, Err, List, Option, None, inl, inr, refl, sym, ap, ◌∙◌, IfOk, IfErr}
use Rattle.ff_lattice.specs.Order.{Order}
use Rattle.ff_text.specs.Machine.{verdict}
use Rattle.ff_text.specs.Notation.{SpellsItems}
use Rattle.ff_text.specs.Faults.{FirstFault}
use Rattle.ff_text.specs.declared.items.Sexp.{Sexp}
use Rattle.ff_text.specs.declared.items.TextFault.{TextFault}
use Rattle.ff_text.specs.declared.items.TextFault.TheVariants as text
use Rattle.ff_text.proofs.Complete.{verdict_from_spelled}
use Rattle.ff_text.proofs.Verdict.{verdict_from_fault}
use Rattle.ff_value.specs.declared.input.Input.{Input}
use Rattle.ff_trace.specs.declared.fault.LineFault.{LineFault}
use Rattle.ff_trace.specs.declared.fault.LineFault.TheVariants as fault
use Rattle.ff_trace.specs.Lines.{Gives, ReadsLine, silent, bad_text, as_items, input_in, is_silent}

-- what a line gives, from what its bytes are read as
abbrev line_answer : Order → Bool → Result (List Sexp) TextFault → Result (Option Input) LineFault
line_answer order true items = Ok None
line_answer order false (Ok items) = input_in order items
line_answer order false (Err which) = Err (fault.Text which)

line_is : (order : Order) (line : List ℕ) (answer : Result (Option Input) LineFault) → ReadsLine order line answer → answer ≡ line_answer order (is_silent line) (verdict line)
line_is order line answer (silent quiet) = rw quiet refl
line_is order line answer (bad_text which loud first) = rw (loud, verdict_from_fault line which first) refl
line_is order line answer (as_items items answer' loud spelled is) = is ∙ rw (loud, verdict_from_spelled line items spelled) refl

-- two answers of one line are equal
pub reads_line_once : (order : Order) (line : List ℕ) (one other : Result (Option Input) LineFault) → ReadsLine order line one → ReadsLine order line other → one ≡ other
reads_line_once order line one other first second = line_is order line one first ∙ sym (line_is order line other second)

-- a call that gives what the line does, or finds no memory
abbrev IsFound : Order → List ℕ → Result (Option Input) LineFault → Type 0
IsFound order line answer = ReadsLine order line answer ⊎ (answer ≡ Err fault.NoMemory)

not_refused : (input : Option Input) (which : LineFault) → ◌≡◌ {A = Result (Option Input) LineFault} (Ok input) (Err which) → ⊥
not_refused input which e = cc

fault_or : LineFault → Result (Option Input) LineFault → LineFault
fault_or which (Ok input) = which
fault_or which (Err other) = other

same_fault : (one other : LineFault) → ◌≡◌ {A = Result (Option Input) LineFault} (Err one) (Err other) → one ≡ other
unfolding fault_or
same_fault one other e = ap (fault_or one) e

pub found_ok : (order : Order) (line : List ℕ) (answer : Result (Option Input) LineFault) → IsFound order line answer → IfOk answer (λ input. ReadsLine order line (Ok input))
found_ok order line (Ok input) found = elim found [
  | inl reads ↦ reads
  | inr memory ↦ absurd (not_refused input fault.NoMemory memory)
]
found_ok order line (Err which) found = tt

pub found_err : (order : Order) (line : List ℕ) (answer : Result (Option Input) LineFault) → IsFound order line answer → IfErr answer (λ which. (which ≡ fault.NoMemory) ⊎ ReadsLine order line (Err which))
found_err order line (Ok input) found = tt
found_err order line (Err which) found = elim found [
  | inl reads ↦ inr reads
  | inr memory ↦ inl (same_fault which fault.NoMemory memory)
]

pub exact_from_found : (order : Order) (line : List ℕ) (answer : Result (Option Input) LineFault) → IsFound order line answer → (other : Result (Option Input) LineFault) → ReadsLine order line other → Gives answer other
exact_from_found order line answer found other reads = elim found [
  | inl first ↦ inl (reads_line_once order line answer other first reads)
  | inr memory ↦ inr memory
]

pub found_items : (order : Order) (line : List ℕ) (items : List Sexp) (answer : Result (Option Input) LineFault) → is_silent line ≡ false → SpellsItems line items → Gives answer (input_in order items) → IsFound order line answer
found_items order line items answer loud spelled is = elim is [
  | inl same ↦ inl (as_items items answer loud spelled same)
  | inr memory ↦ inr memory
]

pub found_fault : (order : Order) (line : List ℕ) (which : TextFault) → is_silent line ≡ false → FirstFault line which → IsFound order line (Err (fault.Text which))
found_fault order line which loud first = inl (bad_text which loud first)

pub first_of : (line : List ℕ) (which : TextFault) → which ≢ text.NoMemory → (which ≡ text.NoMemory) ⊎ FirstFault line which → FirstFault line which
first_of line which other cause = elim cause [
  | inl memory ↦ absurd (other memory)
  | inr first ↦ first
]
