-- A byte takes the reader one place on.
use Rattle.std.proofs.Common.{◌≡◌, ◌+◌, ℕ, Bool, true, false, nat_lt, Result, Ok, Err, Option, Some, None, List, [], ◌∷◌, length, refl}
use Rattle.std.specs.Str.{is_utf8}
use Rattle.ff_text.specs.declared.items.TextFault.{TextFault}
use Rattle.ff_text.specs.declared.bytes.Class.{Class}
use Rattle.ff_text.specs.declared.bytes.Class.TheVariants as class
use Rattle.ff_text.specs.declared.bytes.InStr.{InStr}
use Rattle.ff_text.specs.declared.bytes.InStr.TheVariants as str
use Rattle.ff_text.specs.declared.bytes.Slashed.{Slashed}
use Rattle.ff_text.specs.declared.bytes.Slashed.TheVariants as slashed
use Rattle.ff_text.specs.declared.reader.Reader.{Reader}
use Rattle.ff_text.specs.declared.reader.Opened.{Opened}
use Rattle.ff_text.specs.declared.reader.Mode.{Mode}
use Rattle.ff_text.specs.declared.reader.Mode.TheVariants as mode
use Rattle.ff_text.specs.Classes.{class_of, in_str_of, slashed_of, high_digit, low_digit}
use Rattle.ff_text.specs.Machine.{HasDigit, step, step_in, outside_class, open_list, list_closed, in_word_class, word_ended, in_str_class, end_str, slashed_class, high_taken, low_taken}
use Rattle.ff_text.proofs.ClassLemmas.{high_small}
use Rattle.ff_name.specs.declared.limits.TheConstants.{MOST_DEPTH}

-- one place on, with a first digit below 8 where there is one
abbrev pub Grows : ℕ → Result Reader TextFault → Type 0
Grows at (Ok r) = (r.at ≡ at + 1) × HasDigit r.mode
Grows at (Err which) = Unit {0}

open_grows : (r : Reader) → HasDigit r.mode → (test : Bool) → nat_lt (length r.opened) MOST_DEPTH ≡ test → Grows r.at (open_list r)
open_grows r digit true e = rw e (refl, digit)
open_grows r digit false e = rw e tt

close_grows : (opened : List Opened) (r : Reader) → HasDigit r.mode → Grows r.at (list_closed opened r)
close_grows [] r digit = tt
close_grows (o ∷ opened) r digit = (refl, digit)

outside_grows : (k : Class) (r : Reader) (b : ℕ) → HasDigit r.mode → Grows r.at (outside_class k r b)
outside_grows class.Blank r b digit = (refl, digit)
outside_grows class.Open r b digit = open_grows r digit (nat_lt (length r.opened) MOST_DEPTH) refl
outside_grows class.Close r b digit = close_grows r.opened r digit
outside_grows class.Quote r b digit = (refl, tt)
outside_grows class.InWord r b digit = (refl, tt)
outside_grows class.Stray r b digit = tt

word_grows : (k : Class) (r : Reader) (from b : ℕ) → HasDigit r.mode → Grows r.at (in_word_class k r from b)
word_grows class.InWord r from b digit = (refl, digit)
word_grows class.Blank r from b digit = outside_grows (class_of b) (word_ended r from) b tt
word_grows class.Open r from b digit = outside_grows (class_of b) (word_ended r from) b tt
word_grows class.Close r from b digit = outside_grows (class_of b) (word_ended r from) b tt
word_grows class.Quote r from b digit = outside_grows (class_of b) (word_ended r from) b tt
word_grows class.Stray r from b digit = outside_grows (class_of b) (word_ended r from) b tt

end_grows : (r : Reader) (from : ℕ) (test : Bool) → is_utf8 r.value ≡ test → Grows r.at (end_str r from)
end_grows r from true e = rw e (refl, tt)
end_grows r from false e = rw e tt

string_grows : (k : InStr) (r : Reader) (from b : ℕ) → Grows r.at (in_str_class k r from b)
string_grows str.Mark r from b = end_grows r from (is_utf8 r.value) refl
string_grows str.Backslash r from b = (refl, tt)
string_grows str.Control r from b = tt
string_grows str.Plain r from b = (refl, tt)

slash_grows : (k : Slashed) (r : Reader) (from slash : ℕ) → Grows r.at (slashed_class k r from slash)
slash_grows (slashed.Short value) r from slash = (refl, tt)
slash_grows slashed.Hex r from slash = (refl, tt)
slash_grows slashed.Wrong r from slash = tt

high_grows : (b : ℕ) (d : Option ℕ) → high_digit b ≡ d → (r : Reader) (from slash : ℕ) → Grows r.at (high_taken d r from slash)
high_grows b (Some high) e r from slash = (refl, high_small b high e)
high_grows b None e r from slash = tt

low_grows : (d : Option ℕ) (r : Reader) (from slash high : ℕ) → Grows r.at (low_taken d r from slash high)
low_grows (Some low) r from slash high = (refl, tt)
low_grows None r from slash high = tt

step_in_grows : (m : Mode) (r : Reader) (b : ℕ) → HasDigit r.mode → Grows r.at (step_in m r b)
step_in_grows mode.Between r b digit = outside_grows (class_of b) r b digit
step_in_grows (mode.Word from) r b digit = word_grows (class_of b) r from b digit
step_in_grows (mode.Str from) r b digit = string_grows (in_str_of b) r from b
step_in_grows (mode.Slash from slash) r b digit = slash_grows (slashed_of b) r from slash
step_in_grows (mode.Hex from slash) r b digit = high_grows b (high_digit b) refl r from slash
step_in_grows (mode.Digit from slash high) r b digit = low_grows (low_digit b) r from slash high

pub step_grows : (r : Reader) (b : ℕ) → HasDigit r.mode → Grows r.at (step r b)
unfolding step
step_grows r b digit = step_in_grows r.mode r b digit
