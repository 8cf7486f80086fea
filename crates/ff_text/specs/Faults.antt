-- What is wrong with bytes, and where. Every fault but `Unclosed` is a condition on a prefix: its
-- last byte makes it.
use Rattle.std.specs.Prelude.{◌≡◌, ◌≢◌, ◌<◌, ◌≤◌, ◌+◌, ℕ, suc, Bool, true, false, List, [], ◌∷◌, ◌++◌, length, take}
use Rattle.std.specs.Str.{IsUtf8}
use Rattle.std.specs.Char.{is_ascii_control, is_ascii_graphic}
use Rattle.ff_text.specs.Notation.{Spells, SpellsItems, Value, Escape}
use Rattle.ff_text.specs.declared.items.Sexp.{Sexp, out-Sexp}
use Rattle.ff_text.specs.declared.items.Sexp.TheOpen.{Sexp-F}
use Rattle.ff_text.specs.declared.items.TextFault.{TextFault}
use Rattle.ff_text.specs.declared.items.TextFault.TheVariants as fault
use Rattle.ff_name.specs.declared.limits.TheConstants.{MOST_DEPTH}

-- Bytes that end outside strings, before this place: whole items, and lists that are open. The open
-- lists go by the places of their parentheses, the innermost first.
pub data Unfinished : List ℕ → (to : ℕ) → List ℕ → Type 0 where
  at_top : (to : ℕ) (bytes : List ℕ) (items : List Sexp) (ended : Bool) → Spells 0 0 to bytes items ended → Unfinished [] to bytes
  within : (opens : List ℕ) (place to : ℕ) (bytes inner : List ℕ) (items : List Sexp) (ended : Bool) → Unfinished opens place bytes → length opens < MOST_DEPTH → Spells (suc (length opens)) (place + 1) to inner items ended → Unfinished (place ∷ opens) to (bytes ++ 40 ∷ inner)

-- bytes that end in a string whose mark is at the first place, before the second place, with this
-- value so far
pub data InString : (place to : ℕ) → List ℕ → List ℕ → Type 0 where
  in_string : (opens : List ℕ) (place : ℕ) (bytes body value : List ℕ) → Unfinished opens place bytes → Value body value → InString place (place + 1 + length body) value (bytes ++ 34 ∷ body)

-- what has begun an escape is a front of one, and not the whole of it
pub record BeginsEscape (begun : List ℕ) : Type 0 where
  pub next : ℕ
  pub rest : List ℕ
  pub value : ℕ
  pub whole : Escape (begun ++ next ∷ rest) value

-- bytes that end in an escape whose backslash is at the second place
pub data InEscape : (place slash : ℕ) → List ℕ → List ℕ → Type 0 where
  in_escape : (place slash : ℕ) (value bytes begun : List ℕ) → InString place slash value bytes → BeginsEscape begun → InEscape place slash begun (bytes ++ 92 ∷ begun)

-- no blank, parenthesis, mark or byte of a word
pub record IsStray (b : ℕ) : Type 0 where
  pub no_blank : b ≢ 32
  pub no_graphic : is_ascii_graphic b ≡ false

-- the last byte of the prefix makes the fault
pub data Meets : List ℕ → TextFault → Type 0 where
  extra : (to : ℕ) (bytes : List ℕ) → Unfinished [] to bytes → Meets (bytes ++ 41 ∷ []) (fault.Extra to)
  too_deep : (opens : List ℕ) (to : ℕ) (bytes : List ℕ) → Unfinished opens to bytes → length opens ≡ MOST_DEPTH → Meets (bytes ++ 40 ∷ []) (fault.TooDeep to)
  bad_byte : (opens : List ℕ) (to : ℕ) (bytes : List ℕ) (b : ℕ) → Unfinished opens to bytes → IsStray b → Meets (bytes ++ b ∷ []) (fault.BadByte to)
  bad_byte_in_string : (place to : ℕ) (value bytes : List ℕ) (b : ℕ) → InString place to value bytes → is_ascii_control b ≡ true → Meets (bytes ++ b ∷ []) (fault.BadByte to)
  bad_utf8 : (place to : ℕ) (value bytes : List ℕ) → InString place to value bytes → ¬ IsUtf8 value → Meets (bytes ++ 34 ∷ []) (fault.BadUtf8 place)
  bad_escape : (place slash : ℕ) (begun bytes : List ℕ) (b : ℕ) → InEscape place slash begun bytes → ((rest : List ℕ) (value : ℕ) → ¬ Escape (begun ++ b ∷ rest) value) → Meets (bytes ++ b ∷ []) (fault.BadEscape slash)

-- the whole of the bytes ends inside the string at this place, or else inside a list, the innermost
-- of which is there
pub data IsUnclosed : List ℕ → ℕ → Type 0 where
  in_a_list : (place to : ℕ) (opens bytes : List ℕ) → Unfinished (place ∷ opens) to bytes → IsUnclosed bytes place
  in_a_string : (place to : ℕ) (value bytes : List ℕ) → InString place to value bytes → IsUnclosed bytes place
  in_an_escape : (place slash : ℕ) (begun bytes : List ℕ) → InEscape place slash begun bytes → IsUnclosed bytes place

-- no prefix of fewer than n bytes meets a fault
abbrev pub NoneBelow : ℕ → List ℕ → Type 0
NoneBelow n bytes = (k : ℕ) (which : TextFault) → k < n → ¬ Meets (take k bytes) which

-- the fault of a text: that of the shortest prefix that meets one, and where none does, that it is
-- unclosed
pub data FirstFault (bytes : List ℕ) : TextFault → Type 0 where
  at_prefix : (n : ℕ) (which : TextFault) → n ≤ length bytes → Meets (take n bytes) which → NoneBelow n bytes → FirstFault bytes which
  at_end : (place : ℕ) → NoneBelow (length bytes + 1) bytes → IsUnclosed bytes place → FirstFault bytes (fault.Unclosed place)

abbrev from_at : Sexp-F Sexp → ℕ
from_at (Sexp-F.Word at text) = at.from
from_at (Sexp-F.Str at value) = at.from
from_at (Sexp-F.List at parts) = at.from

-- the place of an item's first byte
abbrev pub from_of : Sexp → ℕ
from_of item = from_at (out-Sexp item)

-- the fault where one item is wanted: that of the text, or that there is no item, or where the
-- second one begins
pub data SingleFault (bytes : List ℕ) : TextFault → Type 0 where
  of_text : (which : TextFault) → FirstFault bytes which → SingleFault bytes which
  no_item : SpellsItems bytes [] → SingleFault bytes fault.Empty
  second_item : (first second : Sexp) (others : List Sexp) → SpellsItems bytes (first ∷ second ∷ others) → SingleFault bytes (fault.Extra (from_of second))
