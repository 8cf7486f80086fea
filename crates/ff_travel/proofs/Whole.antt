-- Each line gives something, and a command that a line gives is one of the lattice.
use Rattle.std.proofs.Common.{◌≡◌, ℕ, Bool, true, false, List, [], ◌∷◌, Option, Some, None, Result, Ok, Err, refl, sym, ap, subst, ◌∙◌, drop}
use Rattle.std.proofs.lemmas.Option.{none-some, same_Some}
use Rattle.ff_lattice.specs.Order.{Order, IsTag}
use Rattle.ff_lattice.proofs.Named.{level_within}
use Rattle.ff_name.specs.declared.levels.Level.{Level}
use Rattle.ff_text.specs.declared.items.Sexp.{Sexp, out-Sexp}
use Rattle.ff_text.specs.declared.items.Sexp.TheOpen.{Sexp-F}
use Rattle.ff_text.specs.declared.items.TextFault.{TextFault}
use Rattle.ff_text.specs.Machine.{verdict}
use Rattle.ff_text.proofs.Verdict.{spelled_from_verdict, fault_from_verdict}
use Rattle.ff_value.specs.declared.input.Input.{Input}
use Rattle.ff_trace.specs.Lines.{is_silent, ReadsLine}
use Rattle.ff_trace.proofs.Wells.{reads_some, input_well}
use Rattle.ff_trace.specs.declared.fault.LineFault.{LineFault}
use Rattle.ff_trace.specs.declared.fault.LineFault.TheVariants as line_fault
use Rattle.ff_travel.specs.Commands.{ReadsCommand, Says, SaysItems, IsCommandOf, silent, bad_text, as_items, arrival, alone, with_level, of_level, one_level, level_word, no_verb, arrives, turns, drains, goes_back, shows, to_of, verb_of}
use Rattle.ff_travel.specs.declared.command.Command.{Command}
use Rattle.ff_travel.specs.declared.command.Command.TheVariants.{Arrive, Turn, Drain, Back, Show}
use Rattle.ff_travel.specs.declared.command.CommandFault.{CommandFault}
use Rattle.ff_travel.specs.declared.command.CommandFault.TheVariants as fault
use Rattle.ff_travel.specs.declared.command.Verb.{Verb}
use Rattle.ff_travel.specs.declared.command.Verb.TheVariants as verb
use Rattle.ff_travel.specs.Giving.{Gives, a_command, no_input, no_command}
use Rattle.ff_travel.specs.Giving as giving
use Rattle.ff_travel.specs.Once.{gives_once}
use Rattle.ff_status.specs.declared.status.TraceFault.{TraceFault}
use Rattle.ff_status.specs.declared.status.TraceFault.TheVariants as trace_fault
use Rattle.ff_stream.specs.Traces.{IsTrace}
use Rattle.ff_stream.specs.declared.end.BadLine.{BadLine}
use Rattle.ff_stream.proofs.Laws.{trace_once}
use Rattle.ff_stream.proofs.Total.{trace_some}

abbrev Said : Type 0
Said = Result (Option Command) CommandFault

-- ---- each line gives something

says_some : (order : Order) (after : List ℕ) (parts : List Sexp) (v : Option Verb) → (answer : Said) × Says order after parts v answer
says_some order after parts None = (Err fault.Command, no_verb)
says_some order after parts (Some verb.Arrive) = let read = reads_some order after in (arrival read.0, arrives read.0 read.1)
says_some order after parts (Some verb.Turn) = (with_level order Turn parts, turns)
says_some order after parts (Some verb.Drain) = (alone Drain parts, drains)
says_some order after parts (Some verb.Back) = (alone Back parts, goes_back)
says_some order after parts (Some verb.Show) = (with_level order Show parts, shows)

items_some : (order : Order) (line : List ℕ) (items : List Sexp) → (answer : Said) × SaysItems order line items answer
items_some order line [] = (Err fault.Command, refl)
items_some order line (first ∷ parts) = says_some order (drop (to_of first) line) parts (verb_of first)

pub reads_command_some : (order : Order) (line : List ℕ) → (answer : Said) × ReadsCommand order line answer
reads_command_some order line = from (is_silent line) refl (verdict line) refl
  where
    from : (quiet : Bool) → is_silent line ≡ quiet → (read : Result (List Sexp) TextFault) → verdict line ≡ read → (answer : Said) × ReadsCommand order line answer
    from true quiet read is = (Ok None, silent quiet)
    from false loud (Ok items) is = let said = items_some order line items in (said.0, as_items items said.0 loud (spelled_from_verdict line items is) said.1)
    from false loud (Err which) is = (Err (fault.Line (line_fault.Text which)), bad_text which loud (fault_from_verdict line which is))

-- ---- what a line gives is of the lattice

value_of : Said → Option Command
value_of (Ok (Some command)) = Some command
value_of (Ok None) = None
value_of (Err which) = None

refused : {X : Type 0} (which : CommandFault) (command : Command) → ◌≡◌ {A = Said} (Err which) (Ok (Some command)) → X
unfolding value_of
refused which command e = absurd (none-some command (ap value_of e))

nothing : {X : Type 0} (command : Command) → ◌≡◌ {A = Said} (Ok None) (Ok (Some command)) → X
unfolding value_of
nothing command e = absurd (none-some command (ap value_of e))

same : (one other : Command) → ◌≡◌ {A = Said} (Ok (Some one)) (Ok (Some other)) → one ≡ other
unfolding value_of
same one other e = same_Some one other (ap value_of e)

module _ (order : Order) (command : Command) where
  level_word_within : (item : Sexp-F Sexp) → IsTag order (level_word order item)
  level_word_within (Sexp-F.Word at text) = level_within order text
  level_word_within (Sexp-F.Str at value) = tt
  level_word_within (Sexp-F.List at parts) = tt

  one_level_within : (parts : List Sexp) → IsTag order (one_level order parts)
  one_level_within [] = tt
  one_level_within (item ∷ []) = level_word_within (out-Sexp item)
  one_level_within (item ∷ other ∷ rest) = tt

  turn_well : (level : Option Level) → IsTag order level → of_level Turn level ≡ Ok (Some command) → IsCommandOf order command
  turn_well None within e = refused fault.Command command e
  turn_well (Some level) within e = subst (IsCommandOf order) (same (Turn level) command e) within

  show_well : (level : Option Level) → IsTag order level → of_level Show level ≡ Ok (Some command) → IsCommandOf order command
  show_well None within e = refused fault.Command command e
  show_well (Some level) within e = subst (IsCommandOf order) (same (Show level) command e) within

  drain_well : (parts : List Sexp) → alone Drain parts ≡ Ok (Some command) → IsCommandOf order command
  drain_well [] e = subst (IsCommandOf order) (same Drain command e) tt
  drain_well (item ∷ rest) e = refused fault.Command command e

  back_well : (parts : List Sexp) → alone Back parts ≡ Ok (Some command) → IsCommandOf order command
  back_well [] e = subst (IsCommandOf order) (same Back command e) tt
  back_well (item ∷ rest) e = refused fault.Command command e

  arrival_well : (after : List ℕ) (answer : Result (Option Input) LineFault) → ReadsLine order after answer → arrival answer ≡ Ok (Some command) → IsCommandOf order command
  arrival_well after (Ok None) reads e = refused fault.Command command e
  arrival_well after (Ok (Some input)) reads e = subst (IsCommandOf order) (same (Arrive input) command e) (input_well order after input reads)
  arrival_well after (Err which) reads e = refused (fault.Line which) command e

  says_well : (after : List ℕ) (parts : List Sexp) (v : Option Verb) (answer : Said) → Says order after parts v answer → answer ≡ Ok (Some command) → IsCommandOf order command
  says_well after parts v answer no_verb e = refused fault.Command command e
  says_well after parts v answer (arrives read reads) e = arrival_well after read reads e
  says_well after parts v answer turns e = turn_well (one_level order parts) (one_level_within parts) e
  says_well after parts v answer drains e = drain_well parts e
  says_well after parts v answer goes_back e = back_well parts e
  says_well after parts v answer shows e = show_well (one_level order parts) (one_level_within parts) e

  items_well : (line : List ℕ) (items : List Sexp) (answer : Said) → SaysItems order line items answer → answer ≡ Ok (Some command) → IsCommandOf order command
  items_well line [] answer says e = refused fault.Command command (sym says ∙ e)
  items_well line (first ∷ parts) answer says e = says_well (drop (to_of first) line) parts (verb_of first) answer says e

  reads_well : (line : List ℕ) (answer : Said) → ReadsCommand order line answer → answer ≡ Ok (Some command) → IsCommandOf order command
  reads_well line answer (silent quiet) e = nothing command e
  reads_well line answer (bad_text which loud first) e = refused (fault.Line (line_fault.Text which)) command e
  reads_well line answer (as_items items said loud spelled says) e = items_well line items said says e

pub command_well : (order : Order) (line : List ℕ) (command : Command) → ReadsCommand order line (Ok (Some command)) → IsCommandOf order command
command_well order line command reads = reads_well order command line (Ok (Some command)) reads refl

-- ---- want of memory is nothing that a line gives

module _ (order : Order) where
  level_kept : (make : Level → Command) (level : Option Level) → ◌≡◌ {A = Said} (of_level make level) (Err fault.NoMemory) → ⊥
  level_kept make None e = cc
  level_kept make (Some level) e = cc

  alone_kept : (command : Command) (parts : List Sexp) → ◌≡◌ {A = Said} (alone command parts) (Err fault.NoMemory) → ⊥
  alone_kept command [] e = cc
  alone_kept command (item ∷ rest) e = cc

  arrival_kept : (answer : Result (Option Input) LineFault) → ◌≡◌ {A = Said} (arrival answer) (Err fault.NoMemory) → ⊥
  arrival_kept (Ok None) e = cc
  arrival_kept (Ok (Some input)) e = cc
  arrival_kept (Err which) e = cc

  says_kept : (after : List ℕ) (parts : List Sexp) (v : Option Verb) (answer : Said) → Says order after parts v answer → answer ≡ Err fault.NoMemory → ⊥
  says_kept after parts v answer no_verb e = cc
  says_kept after parts v answer (arrives read reads) e = arrival_kept read e
  says_kept after parts v answer turns e = level_kept Turn (one_level order parts) e
  says_kept after parts v answer drains e = alone_kept Drain parts e
  says_kept after parts v answer goes_back e = alone_kept Back parts e
  says_kept after parts v answer shows e = level_kept Show (one_level order parts) e

  items_kept : (line : List ℕ) (items : List Sexp) (answer : Said) → SaysItems order line items answer → answer ≡ Err fault.NoMemory → ⊥
  items_kept line [] answer says e = let same : ◌≡◌ {A = Said} (Err fault.Command) (Err fault.NoMemory) = sym says ∙ e in cc
  items_kept line (first ∷ parts) answer says e = says_kept (drop (to_of first) line) parts (verb_of first) answer says e

  reads_kept : (line : List ℕ) (answer : Said) → ReadsCommand order line answer → answer ≡ Err fault.NoMemory → ⊥
  reads_kept line answer (silent quiet) e = cc
  reads_kept line answer (bad_text which loud first) e = cc
  reads_kept line answer (as_items items said loud spelled says) e = items_kept line items said says e

-- ---- a line, and all lines

gives_some : (order : Order) (line : List ℕ) → (answer : Result (Option Command) TraceFault) × Gives order line answer
gives_some order line = let read = reads_command_some order line in from read.0 read.1
  where
    from : (answer : Said) → ReadsCommand order line answer → (given : Result (Option Command) TraceFault) × Gives order line given
    from (Ok None) reads = (Ok None, giving.nothing reads)
    from (Ok (Some command)) reads = (Ok (Some command), a_command command reads (command_well order line command reads))
    from (Err (fault.Line which)) reads = (Err (trace_fault.Line which), no_input which reads)
    from (Err fault.Command) reads = (Err trace_fault.Command, no_command reads)
    from (Err fault.NoMemory) reads = absurd (reads_kept order line (Err fault.NoMemory) reads refl)

pub commands_read : (order : Order) (ended : Bool) (bytes : List ℕ) → (commands : List Command) × (bad : Option (BadLine TraceFault)) × IsTrace (Gives order) ended bytes commands bad
commands_read order ended bytes = trace_some (gives_some order) ended bytes

pub commands_read_once : (order : Order) (ended : Bool) (bytes : List ℕ) (one two : List Command) (bad other : Option (BadLine TraceFault)) → IsTrace (Gives order) ended bytes one bad → IsTrace (Gives order) ended bytes two other → (one ≡ two) × (bad ≡ other)
commands_read_once order ended bytes one two bad other first second = trace_once (gives_once order) ended bytes one two bad other first second
