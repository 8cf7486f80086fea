-- What a line of commands says: a command, nothing, or what is wrong with it.
use Rattle.std.specs.Prelude.{◌≡◌, ℕ, ◌<◌, ⊤, true, false, Option, Some, None, Result, Ok, Err, List, [], ◌∷◌, drop}
use Rattle.ff_contract.specs.Answering.{Answers}
use Rattle.ff_lattice.specs.Order.{Order, size, level_named}
use Rattle.ff_name.specs.declared.levels.Level.{Level}
use Rattle.ff_text.specs.Notation.{SpellsItems}
use Rattle.ff_text.specs.Faults.{FirstFault}
use Rattle.ff_text.specs.declared.items.Sexp.{Sexp, out-Sexp}
use Rattle.ff_text.specs.declared.items.Sexp.TheOpen.{Sexp-F}
use Rattle.ff_text.specs.declared.items.TextFault.{TextFault}
use Rattle.ff_value.specs.declared.input.Input.{Input}
use Rattle.ff_trace.specs.Lines.{ReadsLine, IsInputOf, is_silent}
use Rattle.ff_trace.specs.declared.fault.LineFault.{LineFault}
use Rattle.ff_trace.specs.declared.fault.LineFault.TheVariants as line_fault
use Rattle.ff_travel.specs.Verbs.{verb_named}
use Rattle.ff_travel.specs.declared.command.Verb.{Verb}
use Rattle.ff_travel.specs.declared.command.Verb.TheVariants as verb
use Rattle.ff_travel.specs.declared.command.Command.{Command}
use Rattle.ff_travel.specs.declared.command.Command.TheVariants.{Arrive, Turn, Drain, Back, Show}
use Rattle.ff_travel.specs.declared.command.CommandFault.{CommandFault}
use Rattle.ff_travel.specs.declared.command.CommandFault.TheVariants as fault

-- a command that makes no turn, and so copies no cell
abbrev pub MakesNoTurn : Command → Type 0
MakesNoTurn (Turn level) = ⊥
MakesNoTurn Drain = ⊥
MakesNoTurn other = ⊤

-- the verb that an item is
abbrev pub verb_word : Sexp-F Sexp → Option Verb
verb_word (Sexp-F.Word at text) = verb_named text
verb_word (Sexp-F.Str at value) = None
verb_word (Sexp-F.List at parts) = None

abbrev pub verb_of : Sexp → Option Verb
verb_of item = verb_word (out-Sexp item)

-- the place after an item's last byte
abbrev pub to_at : Sexp-F Sexp → ℕ
to_at (Sexp-F.Word at text) = at.to
to_at (Sexp-F.Str at value) = at.to
to_at (Sexp-F.List at parts) = at.to

abbrev pub to_of : Sexp → ℕ
to_of item = to_at (out-Sexp item)

-- the level that an item names
abbrev pub level_word : Order → Sexp-F Sexp → Option Level
level_word order (Sexp-F.Word at text) = level_named order text
level_word order (Sexp-F.Str at value) = None
level_word order (Sexp-F.List at parts) = None

abbrev pub level_of : Order → Sexp → Option Level
level_of order item = level_word order (out-Sexp item)

-- the command of a level, where one is named
abbrev pub of_level : (Level → Command) → Option Level → Result (Option Command) CommandFault
of_level make None = Err fault.Command
of_level make (Some level) = Ok (Some (make level))

-- the level that alone follows a word
abbrev pub one_level : Order → List Sexp → Option Level
one_level order (item ∷ []) = level_of order item
one_level order others = None

-- a command whose word one level follows, and nothing else
abbrev pub with_level : Order → (Level → Command) → List Sexp → Result (Option Command) CommandFault
with_level order make parts = of_level make (one_level order parts)

-- a command whose word nothing follows
abbrev pub alone : Command → List Sexp → Result (Option Command) CommandFault
alone command [] = Ok (Some command)
alone command others = Err fault.Command

-- the arrival of what the bytes after `arrive` give as a line of inputs
abbrev pub arrival : Result (Option Input) LineFault → Result (Option Command) CommandFault
arrival (Ok None) = Err fault.Command
arrival (Ok (Some input)) = Ok (Some (Arrive input))
arrival (Err which) = Err (fault.Line which)

-- what a first item's verb, the bytes after that item and the further items say
pub data Says (order : Order) (after : List ℕ) (parts : List Sexp) : Option Verb → Result (Option Command) CommandFault → Type 0 where
  no_verb : Says order after parts None (Err fault.Command)
  arrives : (answer : Result (Option Input) LineFault) → ReadsLine order after answer → Says order after parts (Some verb.Arrive) (arrival answer)
  turns : Says order after parts (Some verb.Turn) (with_level order Turn parts)
  drains : Says order after parts (Some verb.Drain) (alone Drain parts)
  goes_back : Says order after parts (Some verb.Back) (alone Back parts)
  shows : Says order after parts (Some verb.Show) (with_level order Show parts)

-- what the items of a line say
abbrev pub SaysItems : Order → List ℕ → List Sexp → Result (Option Command) CommandFault → Type 0
SaysItems order line [] answer = answer ≡ Err fault.Command
SaysItems order line (first ∷ parts) answer = Says order (drop (to_of first) line) parts (verb_of first) answer

-- what a line gives: no command, a command, or the fault that comes first
pub data ReadsCommand (order : Order) (line : List ℕ) : Result (Option Command) CommandFault → Type 0 where
  silent : is_silent line ≡ true → ReadsCommand order line (Ok None)
  bad_text : (which : TextFault) → is_silent line ≡ false → FirstFault line which → ReadsCommand order line (Err (fault.Line (line_fault.Text which)))
  as_items : (items : List Sexp) (answer : Result (Option Command) CommandFault) → is_silent line ≡ false → SpellsItems line items → SaysItems order line items answer → ReadsCommand order line answer

-- the answer, or else want of memory
abbrev pub Gives : {A : Type 0} → Result A CommandFault → Result A CommandFault → Type 0
Gives result answer = Answers result answer (Err fault.NoMemory)

-- a command that lines spell, with levels of the lattice
abbrev pub IsCommandOf : Order → Command → Type 0
IsCommandOf order (Arrive input) = IsInputOf order input
IsCommandOf order (Turn level) = level.0 < size order
IsCommandOf order Drain = ⊤
IsCommandOf order Back = ⊤
IsCommandOf order (Show level) = level.0 < size order
