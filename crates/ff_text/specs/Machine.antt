-- The reader as a fold over the bytes. Only private contracts cite it.
use Rattle.std.specs.Prelude.{◌≡◌, ◌<◌, ◌≤◌, ◌+◌, ◌*◌, ◌⊎◌, ℕ, if◌then◌else◌, nat_lt, Option, Some, None, Result, Ok, Err, List, [], ◌∷◌, ◌++◌, length, drop}
use Rattle.std.specs.Str.{is_utf8}
use Rattle.ff_text.specs.Notation.{span}
use Rattle.ff_text.specs.declared.items.Span.{Span}
use Rattle.ff_text.specs.declared.items.Sexp.{Sexp}
use Rattle.ff_text.specs.declared.items.Sexp.TheVariants as sexp
use Rattle.ff_text.specs.declared.items.TextFault.{TextFault}
use Rattle.ff_text.specs.declared.items.TextFault.TheVariants as fault
use Rattle.ff_text.specs.declared.bytes.Class.{Class}
use Rattle.ff_text.specs.declared.bytes.Class.TheVariants as class
use Rattle.ff_text.specs.declared.bytes.InStr.{InStr}
use Rattle.ff_text.specs.declared.bytes.InStr.TheVariants as str
use Rattle.ff_text.specs.declared.bytes.Slashed.{Slashed}
use Rattle.ff_text.specs.declared.bytes.Slashed.TheVariants as slashed
use Rattle.ff_text.specs.declared.reader.Reader.{Reader}
use Rattle.ff_text.specs.declared.reader.Opened.{Opened}
use Rattle.ff_text.specs.declared.reader.Mode.{Mode}
use Rattle.ff_text.specs.declared.reader.Mode.TheVariants as mode
use Rattle.ff_text.specs.Faults.{from_of}
use Rattle.ff_text.specs.Classes.{class_of, in_str_of, slashed_of, high_digit, low_digit}
use Rattle.ff_name.specs.declared.limits.TheConstants.{MOST_DEPTH}

-- what a call answered and left is what the step gives, unless memory ran out
abbrev pub Makes : {A : Type 0} → Result A TextFault → Reader → Result Reader TextFault → Type 0
Makes (Ok done) new made = made ≡ Ok new
Makes (Err which) new made = (which ≡ fault.NoMemory) ⊎ (made ≡ Err which)

-- a first digit after `\x` that was read is below 8
abbrev pub HasDigit : Mode → Type 0
HasDigit mode.Between = Unit {0}
HasDigit (mode.Word from) = Unit {0}
HasDigit (mode.Str from) = Unit {0}
HasDigit (mode.Slash from slash) = Unit {0}
HasDigit (mode.Hex from slash) = Unit {0}
HasDigit (mode.Digit from slash high) = high < 8

abbrev pub start : Reader
start = record { opened = []; items = []; at = 0; mode = mode.Between; word = []; value = [] }

abbrev pub with_item : Reader → Sexp → Reader
with_item r item = record r { items = r.items ++ item ∷ [] }

abbrev pub word_begun : Reader → ℕ → Reader
word_begun r b = record r { word = r.word ++ b ∷ []; mode = mode.Word r.at; at = r.at + 1 }

abbrev pub word_longer : Reader → ℕ → Reader
word_longer r b = record r { word = r.word ++ b ∷ []; at = r.at + 1 }

abbrev pub word_run : Reader → List ℕ → Reader
word_run r run = record r { word = r.word ++ run; mode = mode.Word r.at; at = r.at + length run }

abbrev pub word_put : Reader → List ℕ → Reader
word_put r word = record r { items = r.items ++ sexp.Word (span r.at (r.at + length word)) word ∷ []; at = r.at + length word }

abbrev pub word_ended : Reader → ℕ → Reader
word_ended r from = record r { items = r.items ++ sexp.Word (span from r.at) r.word ∷ []; mode = mode.Between; word = [] }

abbrev pub open_list : Reader → Result Reader TextFault
open_list r =
    if nat_lt (length r.opened) MOST_DEPTH
    then Ok (record r { opened = record { from = r.at; before = r.items } ∷ r.opened; items = []; at = r.at + 1 })
    else Err (fault.TooDeep r.at)

abbrev pub list_closed : List Opened → Reader → Result Reader TextFault
list_closed [] r = Err (fault.Extra r.at)
list_closed (opened ∷ others) r =
    Ok (record r { opened = others; items = opened.before ++ sexp.List (span opened.from (r.at + 1)) r.items ∷ []; at = r.at + 1 })

abbrev pub close_list : Reader → Result Reader TextFault
close_list r = list_closed r.opened r

abbrev pub outside_class : Class → Reader → ℕ → Result Reader TextFault
outside_class class.Blank r b = Ok (record r { at = r.at + 1 })
outside_class class.Open r b = open_list r
outside_class class.Close r b = close_list r
outside_class class.Quote r b = Ok (record r { mode = mode.Str r.at; at = r.at + 1 })
outside_class class.InWord r b = Ok (word_begun r b)
outside_class class.Stray r b = Err (fault.BadByte r.at)

abbrev pub outside : Reader → ℕ → Result Reader TextFault
outside r b = outside_class (class_of b) r b

abbrev pub in_word_class : Class → Reader → ℕ → ℕ → Result Reader TextFault
in_word_class class.InWord r from b = Ok (word_longer r b)
in_word_class class.Blank r from b = outside (word_ended r from) b
in_word_class class.Open r from b = outside (word_ended r from) b
in_word_class class.Close r from b = outside (word_ended r from) b
in_word_class class.Quote r from b = outside (word_ended r from) b
in_word_class class.Stray r from b = outside (word_ended r from) b

abbrev pub in_word : Reader → ℕ → ℕ → Result Reader TextFault
in_word r from b = in_word_class (class_of b) r from b

abbrev pub with_byte : Reader → ℕ → ℕ → Reader
with_byte r from b = record r { value = r.value ++ b ∷ []; mode = mode.Str from; at = r.at + 1 }

abbrev pub value_run : Reader → List ℕ → Reader
value_run r run = record r { value = r.value ++ run; at = r.at + length run }

abbrev pub str_ended : Reader → ℕ → Reader
str_ended r from = record r { items = r.items ++ sexp.Str (span from (r.at + 1)) r.value ∷ []; mode = mode.Between; value = []; at = r.at + 1 }

abbrev pub end_str : Reader → ℕ → Result Reader TextFault
end_str r from = if is_utf8 r.value then Ok (str_ended r from) else Err (fault.BadUtf8 from)

abbrev pub string_put : Reader → List ℕ → Result Reader TextFault
string_put r value =
    if is_utf8 value
    then Ok (record r { items = r.items ++ sexp.Str (span r.at (r.at + (length value + 2))) value ∷ []; at = r.at + (length value + 2) })
    else Err (fault.BadUtf8 r.at)

abbrev pub in_str_class : InStr → Reader → ℕ → ℕ → Result Reader TextFault
in_str_class str.Mark r from b = end_str r from
in_str_class str.Backslash r from b = Ok (record r { mode = mode.Slash from r.at; at = r.at + 1 })
in_str_class str.Control r from b = Err (fault.BadByte r.at)
in_str_class str.Plain r from b = Ok (with_byte r from b)

abbrev pub in_str : Reader → ℕ → ℕ → Result Reader TextFault
in_str r from b = in_str_class (in_str_of b) r from b

abbrev pub slashed_class : Slashed → Reader → ℕ → ℕ → Result Reader TextFault
slashed_class (slashed.Short value) r from slash = Ok (with_byte r from value)
slashed_class slashed.Hex r from slash = Ok (record r { mode = mode.Hex from slash; at = r.at + 1 })
slashed_class slashed.Wrong r from slash = Err (fault.BadEscape slash)

abbrev pub after_slash : Reader → ℕ → ℕ → ℕ → Result Reader TextFault
after_slash r from slash b = slashed_class (slashed_of b) r from slash

abbrev pub high_taken : Option ℕ → Reader → ℕ → ℕ → Result Reader TextFault
high_taken (Some high) r from slash = Ok (record r { mode = mode.Digit from slash high; at = r.at + 1 })
high_taken None r from slash = Err (fault.BadEscape slash)

abbrev pub after_hex : Reader → ℕ → ℕ → ℕ → Result Reader TextFault
after_hex r from slash b = high_taken (high_digit b) r from slash

abbrev pub low_taken : Option ℕ → Reader → ℕ → ℕ → ℕ → Result Reader TextFault
low_taken (Some low) r from slash high = Ok (with_byte r from (16 * high + low))
low_taken None r from slash high = Err (fault.BadEscape slash)

abbrev pub after_digit : Reader → ℕ → ℕ → ℕ → ℕ → Result Reader TextFault
after_digit r from slash high b = low_taken (low_digit b) r from slash high

abbrev pub step_in : Mode → Reader → ℕ → Result Reader TextFault
step_in mode.Between r b = outside r b
step_in (mode.Word from) r b = in_word r from b
step_in (mode.Str from) r b = in_str r from b
step_in (mode.Slash from slash) r b = after_slash r from slash b
step_in (mode.Hex from slash) r b = after_hex r from slash b
step_in (mode.Digit from slash high) r b = after_digit r from slash high b

-- one byte
unfoldable pub step : Reader → ℕ → Result Reader TextFault
step r b = step_in r.mode r b

-- the bytes in order, up to the first fault
unfoldable pub advance : List ℕ → Result Reader TextFault → Result Reader TextFault
advance [] r = r
advance (b ∷ bytes) (Ok r) = advance bytes (step r b)
advance (b ∷ bytes) (Err which) = Err which

abbrev pub items_ended : List Opened → Reader → Result (List Sexp) TextFault
items_ended [] r = Ok r.items
items_ended (opened ∷ others) r = Err (fault.Unclosed opened.from)

abbrev pub end_items : Reader → Result (List Sexp) TextFault
end_items r = items_ended r.opened r

abbrev pub finish_in : Mode → Reader → Result (List Sexp) TextFault
finish_in mode.Between r = end_items r
finish_in (mode.Word from) r = end_items (word_ended r from)
finish_in (mode.Str from) r = Err (fault.Unclosed from)
finish_in (mode.Slash from slash) r = Err (fault.Unclosed from)
finish_in (mode.Hex from slash) r = Err (fault.Unclosed from)
finish_in (mode.Digit from slash high) r = Err (fault.Unclosed from)

-- the end of the bytes
unfoldable pub finish : Reader → Result (List Sexp) TextFault
finish r = finish_in r.mode r

abbrev pub verdict_of : Result Reader TextFault → Result (List Sexp) TextFault
verdict_of (Ok r) = finish r
verdict_of (Err which) = Err which

-- once some bytes at the front were read, the others give what all of them gave
pub record GoesOn (old new : Reader) (n : ℕ) (left : List ℕ) : Type 0 where
  pub same : verdict_of (advance left (Ok old)) ≡ verdict_of (advance (drop n left) (Ok new))
  pub place : new.at ≡ old.at + n
  pub digit : HasDigit new.mode

-- some bytes at the front were read, or the fault of the bytes was met, unless memory ran out
abbrev pub MakesSome : Result ℕ TextFault → (old new : Reader) → List ℕ → Type 0
MakesSome (Ok n) old new left = (0 < n) × (n ≤ length left) × GoesOn old new n left
MakesSome (Err which) old new left = (which ≡ fault.NoMemory) ⊎ (advance left (Ok old) ≡ Err which)

-- what reading all of the bytes answers
abbrev pub verdict : List ℕ → Result (List Sexp) TextFault
verdict bytes = verdict_of (advance bytes (Ok start))

-- the one item of a list
abbrev pub one_of : List Sexp → Result Sexp TextFault
one_of [] = Err fault.Empty
one_of (item ∷ []) = Ok item
one_of (first ∷ second ∷ others) = Err (fault.Extra (from_of second))

abbrev pub one_in : Result (List Sexp) TextFault → Result Sexp TextFault
one_in (Ok items) = one_of items
one_in (Err which) = Err which
