-- What a line of a trace says: an input, nothing, or what is wrong with it.
use Rattle.std.specs.Prelude.{◌≡◌, ℕ, Bool, true, false, ◌==◌, if◌then◌else◌, Option, Some, None, Result, Ok, Err, List, [], ◌∷◌}
use Rattle.ff_contract.specs.Answering.{Answers}
use Rattle.ff_lattice.specs.Order.{Order, level_named, IsTag}
use Rattle.ff_name.specs.declared.levels.Level.{Level}
use Rattle.ff_text.specs.Notation.{SpellsItems}
use Rattle.ff_text.specs.Faults.{FirstFault}
use Rattle.ff_text.specs.declared.items.Sexp.{Sexp, out-Sexp}
use Rattle.ff_text.specs.declared.items.Sexp.TheOpen.{Sexp-F}
use Rattle.ff_text.specs.declared.items.TextFault.{TextFault}
use Rattle.ff_value.specs.Spelled.{IsWellSpelledInput}
use Rattle.ff_value.specs.declared.input.Act.{Act}
use Rattle.ff_value.specs.declared.input.Act.TheVariants as act
use Rattle.ff_value.specs.declared.input.Input.{Input}
use Rattle.ff_trace.specs.declared.fault.LineFault.{LineFault}
use Rattle.ff_trace.specs.declared.fault.LineFault.TheVariants as fault
use Rattle.ff_value.specs.declared.kind.Kind.{Kind}
use Rattle.ff_value.specs.declared.kind.Kind.TheVariants as kind
use Rattle.ff_value.specs.Kinds.{kind_named}
use Rattle.ff_trace.specs.Parts.{number_in, address_in, domain_in, string_in, response_in}

-- a line that gives no input: blanks alone, or blanks, then `#`, and then any bytes
abbrev pub is_silent : List ℕ → Bool
is_silent [] = true
is_silent (b ∷ bytes) = if b == 32 then is_silent bytes else b == 35

-- parts that are read from left to right: the first one at fault decides
abbrev pub of_one : {A : Type 0} → (A → Act) → Result A LineFault → Result Act LineFault
of_one make (Ok a) = Ok (make a)
of_one make (Err which) = Err which

abbrev pub of_two : {A B : Type 0} → (A → B → Act) → Result A LineFault → Result B LineFault → Result Act LineFault
of_two make (Ok a) second = of_one (make a) second
of_two make (Err which) second = Err which

abbrev pub of_three : {A B C : Type 0} → (A → B → C → Act) → Result A LineFault → Result B LineFault → Result C LineFault → Result Act LineFault
of_three make (Ok a) second third = of_two (make a) second third
of_three make (Err which) second third = Err which

-- which parts follow each kind, and what they make of it; another number of parts is a wrong count
abbrev pub act_of : Kind → List Sexp → Result Act LineFault
act_of kind.Open (url ∷ []) = of_one act.Opens (address_in url)
act_of kind.Go (win ∷ url ∷ []) = of_two act.Goes (number_in win) (address_in url)
act_of kind.Link (win ∷ link ∷ []) = of_two act.Links (number_in win) (number_in link)
act_of kind.Close (win ∷ []) = of_one act.Closes (number_in win)
act_of kind.Type (win ∷ field ∷ text ∷ []) = of_three act.Types (number_in win) (number_in field) (string_in text)
act_of kind.Click (win ∷ button ∷ []) = of_two act.Clicks (number_in win) (number_in button)
act_of kind.Reply (domain ∷ request ∷ resp ∷ []) = of_three act.Replies (domain_in domain) (number_in request) (response_in resp)
act_of _ _ = Err fault.Count

-- the kind that a word names
abbrev pub kind_word : Sexp-F Sexp → Option Kind
kind_word (Sexp-F.Word at text) = kind_named text
kind_word (Sexp-F.Str at value) = None
kind_word (Sexp-F.List at parts) = None

abbrev pub kind_of : Sexp → Option Kind
kind_of item = kind_word (out-Sexp item)

abbrev pub act_or_kind : Option Kind → List Sexp → Result Act LineFault
act_or_kind None parts = Err fault.Kind
act_or_kind (Some k) parts = act_of k parts

-- a kind and its parts
abbrev pub act_in : List Sexp → Result Act LineFault
act_in [] = Err fault.Kind
act_in (item ∷ parts) = act_or_kind (kind_of item) parts

-- what follows the `@` of a tag
abbrev pub after_at : List ℕ → Option (List ℕ)
after_at [] = None
after_at (b ∷ name) = if b == 64 then Some name else None

abbrev pub tag_word : Sexp-F Sexp → Option (List ℕ)
tag_word (Sexp-F.Word at text) = after_at text
tag_word (Sexp-F.Str at value) = None
tag_word (Sexp-F.List at parts) = None

abbrev pub tag_of : Sexp → Option (List ℕ)
tag_of item = tag_word (out-Sexp item)

abbrev pub with_tag : Option Level → Result Act LineFault → Result (Option Input) LineFault
with_tag tag (Ok act) = Ok (Some (record { tag = tag; act = act }))
with_tag tag (Err which) = Err which

abbrev pub tagged : Option Level → List Sexp → Result (Option Input) LineFault
tagged None items = Err fault.Level
tagged (Some level) items = with_tag (Some level) (act_in items)

abbrev pub by_tag : Order → Option (List ℕ) → Sexp → List Sexp → Result (Option Input) LineFault
by_tag order None first rest = with_tag None (act_in (first ∷ rest))
by_tag order (Some name) first rest = tagged (level_named order name) rest

-- the items of a line: a tag or none, a kind, and its parts
abbrev pub input_in : Order → List Sexp → Result (Option Input) LineFault
input_in order [] = Err fault.Kind
input_in order (first ∷ rest) = by_tag order (tag_of first) first rest

-- what a line gives: no input, an input, or the fault that comes first
pub data ReadsLine (order : Order) (line : List ℕ) : Result (Option Input) LineFault → Type 0 where
  silent : is_silent line ≡ true → ReadsLine order line (Ok None)
  bad_text : (which : TextFault) → is_silent line ≡ false → FirstFault line which → ReadsLine order line (Err (fault.Text which))
  as_items : (items : List Sexp) (answer : Result (Option Input) LineFault) → is_silent line ≡ false → SpellsItems line items → answer ≡ input_in order items → ReadsLine order line answer

-- the answer, or else want of memory
abbrev pub Gives : {A : Type 0} → Result A LineFault → Result A LineFault → Type 0
Gives result answer = Answers result answer (Err fault.NoMemory)

-- an input that lines spell, with a tag of the lattice
pub record IsInputOf (order : Order) (input : Input) : Type 0 where
  pub spelled : IsWellSpelledInput input
  pub tag : IsTag order input.tag
