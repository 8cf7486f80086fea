-- A line of commands is read in one way, and gives one answer.
use Rattle.std.proofs.Common.{◌≡◌, ℕ, Bool, true, false, Result, Ok, Err, List, [], ◌∷◌, Option, Some, None, refl, sym, ap, subst, ◌∙◌, drop}
use Rattle.std.proofs.lemmas.Bool.{false≢true}
use Rattle.ff_lattice.specs.Order.{Order}
use Rattle.ff_text.specs.Notation.{SpellsItems}
use Rattle.ff_text.specs.Faults.{FirstFault}
use Rattle.ff_text.specs.declared.items.Sexp.{Sexp}
use Rattle.ff_text.specs.declared.items.TextFault.{TextFault}
use Rattle.ff_text.proofs.Complete.{verdict_from_spelled}
use Rattle.ff_text.proofs.Verdict.{verdict_from_fault}
use Rattle.ff_trace.specs.Lines.{is_silent}
use Rattle.ff_trace.specs.declared.fault.LineFault.TheVariants as line_fault
use Rattle.ff_trace.proofs.Once.{reads_line_once}
use Rattle.ff_travel.specs.Commands.{ReadsCommand, Says, SaysItems, silent, bad_text, as_items, arrival, no_verb, arrives, turns, drains, goes_back, shows, to_of, verb_of}
use Rattle.ff_travel.specs.declared.command.Command.{Command}
use Rattle.ff_travel.specs.declared.command.CommandFault.{CommandFault}
use Rattle.ff_travel.specs.declared.command.CommandFault.TheVariants as fault
use Rattle.ff_travel.specs.declared.command.Verb.{Verb}
use Rattle.ff_status.specs.declared.status.TraceFault.{TraceFault}
use Rattle.ff_status.specs.declared.status.TraceFault.TheVariants as trace_fault
use Rattle.ff_travel.specs.Giving as giving
use Rattle.ff_travel.specs.Giving.{nothing, a_command, no_input, no_command}

abbrev Said : Type 0
Said = Result (Option Command) CommandFault

says_once : (order : Order) (after : List ℕ) (parts : List Sexp) (v : Option Verb) (one other : Said) → Says order after parts v one → Says order after parts v other → one ≡ other
says_once order after parts v one other no_verb no_verb = refl
says_once order after parts v one other (arrives x r) (arrives y s) = ap arrival (reads_line_once order after x y r s)
says_once order after parts v one other turns turns = refl
says_once order after parts v one other drains drains = refl
says_once order after parts v one other goes_back goes_back = refl
says_once order after parts v one other shows shows = refl

says_items_once : (order : Order) (line : List ℕ) (items : List Sexp) (one other : Said) → SaysItems order line items one → SaysItems order line items other → one ≡ other
says_items_once order line [] one other first second = first ∙ sym second
says_items_once order line (item ∷ parts) one other first second = says_once order (drop (to_of item) line) parts (verb_of item) one other first second

items_or : List Sexp → Result (List Sexp) TextFault → List Sexp
items_or items (Ok found) = found
items_or items (Err which) = items

text_or : TextFault → Result (List Sexp) TextFault → TextFault
text_or which (Ok items) = which
text_or which (Err found) = found

abbrev IsErr : Result (List Sexp) TextFault → Bool
IsErr (Ok items) = false
IsErr (Err which) = true

same_items : (line : List ℕ) (is js : List Sexp) → SpellsItems line is → SpellsItems line js → is ≡ js
unfolding items_or
same_items line is js first second = ap (items_or is) (sym (verdict_from_spelled line is first) ∙ verdict_from_spelled line js second)

same_text : (line : List ℕ) (one other : TextFault) → FirstFault line one → FirstFault line other → one ≡ other
unfolding text_or
same_text line one other first second = ap (text_or one) (sym (verdict_from_fault line one first) ∙ verdict_from_fault line other second)

no_fault : (line : List ℕ) (is : List Sexp) (which : TextFault) → SpellsItems line is → FirstFault line which → ⊥
no_fault line is which spelled first = false≢true (ap IsErr (sym (verdict_from_spelled line is spelled) ∙ verdict_from_fault line which first))

loud_silent : (line : List ℕ) → is_silent line ≡ true → is_silent line ≡ false → ⊥
loud_silent line quiet loud = false≢true (sym loud ∙ quiet)

-- two answers of one line are equal
pub reads_command_once : (order : Order) (line : List ℕ) (one other : Said) → ReadsCommand order line one → ReadsCommand order line other → one ≡ other
reads_command_once order line one other (silent quiet) (silent still) = refl
reads_command_once order line one other (silent quiet) (bad_text w loud first) = absurd (loud_silent line quiet loud)
reads_command_once order line one other (silent quiet) (as_items is a loud spelled says) = absurd (loud_silent line quiet loud)
reads_command_once order line one other (bad_text w loud first) (silent quiet) = absurd (loud_silent line quiet loud)
reads_command_once order line one other (bad_text w loud first) (bad_text v again second) = ap (λ f. Err (fault.Line (line_fault.Text f))) (same_text line w v first second)
reads_command_once order line one other (bad_text w loud first) (as_items is a again spelled says) = absurd (no_fault line is w spelled first)
reads_command_once order line one other (as_items is a loud spelled says) (silent quiet) = absurd (loud_silent line quiet loud)
reads_command_once order line one other (as_items is a loud spelled says) (bad_text w again first) = absurd (no_fault line is w spelled first)
reads_command_once order line one other (as_items is a loud spelled says) (as_items js b again spelled_too says_too) =
    says_items_once order line js a b (subst (λ items. SaysItems order line items a) (same_items line is js spelled spelled_too) says) says_too

-- the fault of a line, as a trace has it
abbrev given_as : Said → Result (Option Command) TraceFault
given_as (Ok given) = Ok given
given_as (Err (fault.Line which)) = Err (trace_fault.Line which)
given_as (Err fault.Command) = Err trace_fault.Command
given_as (Err fault.NoMemory) = Err trace_fault.Command

-- what a line gives is what it is read as
record Read (order : Order) (line : List ℕ) (answer : Result (Option Command) TraceFault) : Type 0 where
  said : Said
  reads : ReadsCommand order line said
  is : answer ≡ given_as said

read_of : (order : Order) (line : List ℕ) (answer : Result (Option Command) TraceFault) → giving.Gives order line answer → Read order line answer
read_of order line answer (nothing r) = record { said = Ok None; reads = r; is = refl }
read_of order line answer (a_command c r well) = record { said = Ok (Some c); reads = r; is = refl }
read_of order line answer (no_input which r) = record { said = Err (fault.Line which); reads = r; is = refl }
read_of order line answer (no_command r) = record { said = Err fault.Command; reads = r; is = refl }

-- a line gives one answer
pub gives_once : (order : Order) (line : List ℕ) (a b : Result (Option Command) TraceFault) → giving.Gives order line a → giving.Gives order line b → a ≡ b
gives_once order line a b first second =
    let one = read_of order line a first in
    let other = read_of order line b second in
    one.is ∙ ap given_as (reads_command_once order line one.said other.said one.reads other.reads) ∙ sym other.is
