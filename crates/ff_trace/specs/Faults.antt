-- The first fault of a line: which comes first where a line has several.
use Rattle.std.specs.Prelude.{◌≡◌, ◌≢◌, ℕ, false, Option, Some, None, Result, Ok, Err, List, [], ◌∷◌, length}
use Rattle.ff_lattice.specs.Order.{Order, level_named}
use Rattle.ff_name.specs.declared.levels.Level.{Level}
use Rattle.ff_text.specs.Notation.{SpellsItems}
use Rattle.ff_text.specs.Faults.{FirstFault}
use Rattle.ff_text.specs.declared.items.Sexp.{Sexp}
use Rattle.ff_text.specs.declared.items.TextFault.{TextFault}
use Rattle.ff_value.specs.declared.kind.Kind.{Kind}
use Rattle.ff_value.specs.declared.kind.Kind.TheVariants as kind
use Rattle.ff_trace.specs.declared.fault.LineFault.{LineFault}
use Rattle.ff_trace.specs.declared.fault.LineFault.TheVariants as fault
use Rattle.ff_trace.specs.Lines.{is_silent, kind_of, tag_of}
use Rattle.ff_trace.specs.Parts.{number_in, address_in, domain_in, string_in, response_in}

-- what a part of an input may be
pub data Sort : Type 0 where
  a_number : Sort
  an_address : Sort
  a_domain : Sort
  a_string : Sort
  a_response : Sort

-- the parts that follow a kind
abbrev pub sorts_of : Kind → List Sort
sorts_of kind.Open = an_address ∷ []
sorts_of kind.Go = a_number ∷ an_address ∷ []
sorts_of kind.Link = a_number ∷ a_number ∷ []
sorts_of kind.Close = a_number ∷ []
sorts_of kind.Type = a_number ∷ a_number ∷ a_string ∷ []
sorts_of kind.Click = a_number ∷ a_number ∷ []
sorts_of kind.Reply = a_domain ∷ a_number ∷ a_response ∷ []

-- the fault of an answer, if it is one
abbrev pub fault_in : {A : Type 0} → Result A LineFault → Option LineFault
fault_in (Ok value) = None
fault_in (Err which) = Some which

-- what is wrong with an item as such a part, if anything
abbrev pub fault_of : Sort → Sexp → Option LineFault
fault_of a_number item = fault_in (number_in item)
fault_of an_address item = fault_in (address_in item)
fault_of a_domain item = fault_in (domain_in item)
fault_of a_string item = fault_in (string_in item)
fault_of a_response item = fault_in (response_in item)

-- the first part from the left that isn't what it should be
pub data IsFirstBad : List Sort → List Sexp → LineFault → Type 0 where
  here : (sort : Sort) (sorts : List Sort) (item : Sexp) (parts : List Sexp) (which : LineFault) → fault_of sort item ≡ Some which → IsFirstBad (sort ∷ sorts) (item ∷ parts) which
  later : (sort : Sort) (sorts : List Sort) (item : Sexp) (parts : List Sexp) (which : LineFault) → fault_of sort item ≡ None → IsFirstBad sorts parts which → IsFirstBad (sort ∷ sorts) (item ∷ parts) which

-- what is wrong with the parts of a kind: their number, and else the first that is wrong
pub data ArePartsAtFault (k : Kind) (parts : List Sexp) : LineFault → Type 0 where
  wrong_count : length parts ≢ length (sorts_of k) → ArePartsAtFault k parts fault.Count
  wrong_part : (which : LineFault) → length parts ≡ length (sorts_of k) → IsFirstBad (sorts_of k) parts which → ArePartsAtFault k parts which

-- what is wrong with an act: there is no kind, or none of the seven, and else its parts
pub data IsActFault : List Sexp → LineFault → Type 0 where
  nothing : IsActFault [] fault.Kind
  no_kind : (first : Sexp) (parts : List Sexp) → kind_of first ≡ None → IsActFault (first ∷ parts) fault.Kind
  bad_parts : (first : Sexp) (parts : List Sexp) (k : Kind) (which : LineFault) → kind_of first ≡ Some k → ArePartsAtFault k parts which → IsActFault (first ∷ parts) which

-- what is wrong with the items of a line: a tag that names no level, and else the act after the tag
pub data IsItemsFault (order : Order) : List Sexp → LineFault → Type 0 where
  empty : IsItemsFault order [] fault.Kind
  no_level : (first : Sexp) (rest : List Sexp) (name : List ℕ) → tag_of first ≡ Some name → level_named order name ≡ None → IsItemsFault order (first ∷ rest) fault.Level
  untagged : (first : Sexp) (rest : List Sexp) (which : LineFault) → tag_of first ≡ None → IsActFault (first ∷ rest) which → IsItemsFault order (first ∷ rest) which
  tagged : (first : Sexp) (rest : List Sexp) (name : List ℕ) (level : Level) (which : LineFault) → tag_of first ≡ Some name → level_named order name ≡ Some level → IsActFault rest which → IsItemsFault order (first ∷ rest) which

-- what is wrong with a line that isn't silent: it is no text of items, and else its items
pub data IsLineFault (order : Order) (line : List ℕ) : LineFault → Type 0 where
  no_items : (which : TextFault) → is_silent line ≡ false → FirstFault line which → IsLineFault order line (fault.Text which)
  bad_items : (items : List Sexp) (which : LineFault) → is_silent line ≡ false → SpellsItems line items → IsItemsFault order items which → IsLineFault order line which
