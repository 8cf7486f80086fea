-- The items of inputs are well spelled, and the lines of inputs and outputs hold no newline.
use Rattle.std.specs.Prelude.{IfSome, take_while}
use Rattle.std.proofs.Common.{◌≡◌, ◌≢◌, ◌<◌, ◌+◌, ◌^◌, ◌==◌, ℕ, suc, Bool, true, false, not, List, [], ◌∷◌, ◌++◌, length, map, get_or, Option, Some, None, refl, ap, subst, arith, codes}
use Rattle.std.specs.List.{All, AllByRecursion, list_all, prefix_len}
use Rattle.std.specs.Str.{IsUtf8}
use Rattle.std.proofs.lemmas.Bool.{and_parts}
use Rattle.std.proofs.lemmas.List.{get_or_default}
use Rattle.std.proofs.lemmas.List.Elements.{All-cons, All-append}
use Rattle.std.proofs.lemmas.Bool.Decides.{nat_tests}
use Rattle.ff_lattice.specs.Order.{Order, size, name, IsOrder, IsTag}
use Rattle.ff_lattice.proofs.Callers.{name_graphic}
use Rattle.ff_name.specs.Address.{printed}
use Rattle.ff_name.proofs.Ascii.{IsUtf8-from_request}
use Rattle.ff_number.specs.Decimal.{nat_text}
use Rattle.ff_name.specs.declared.levels.Level.{Level}
use Rattle.ff_text.specs.Printed.{spelled, fits_at, is_word, IsWellSpelled, AreWellSpelled}
use Rattle.ff_text.specs.declared.items.Sexp.{Sexp}
use Rattle.ff_value.specs.Faults as faults
use Rattle.ff_value.specs.Spelled.{IsWellSpelledAct, IsWellSpelledInput, IsWellSpelledOut}
use Rattle.ff_value.specs.declared.fault.Fault.{Fault}
use Rattle.ff_value.specs.declared.fault.Fault.TheVariants as fault
use Rattle.ff_value.specs.declared.input.Act.{Act}
use Rattle.ff_value.specs.declared.input.Act.TheVariants as act
use Rattle.ff_value.specs.declared.input.Input.{Input}
use Rattle.ff_value.specs.declared.output.Out.{Out}
use Rattle.ff_value.specs.declared.output.Out.TheVariants as out
use Rattle.ff_forms.specs.Canonical.{word, string}
use Rattle.ff_printing.proofs.OneLine.{spelled_one_line, shown_one_line, pairs_one_line}
use Rattle.ff_printing.proofs.WordTexts.{url_word}
use Rattle.ff_value.specs.Kinds.{word_of}
use Rattle.ff_trace.specs.Printed.{number, act_items, tag_items, input_items, input_text, out_items, out_text, joined, in_key_order, headed, out_line}
use Rattle.ff_value.specs.declared.kind.Kind.{Kind}
use Rattle.ff_value.specs.declared.kind.Kind.TheVariants as kind
use Rattle.ff_printing.proofs.Fitting.{resp_item_well_spelled}
use Rattle.ff_trace.proofs.Worded.{number_word, domain_word, tag_is_word, fits_word, fits_string, fits_more, fits_none}

kind_is_word : (k : Kind) → is_word (word_of k) ≡ true
kind_is_word kind.Open = refl
kind_is_word kind.Go = refl
kind_is_word kind.Link = refl
kind_is_word kind.Close = refl
kind_is_word kind.Type = refl
kind_is_word kind.Click = refl
kind_is_word kind.Reply = refl

-- each item is well spelled
abbrev Fit : List Sexp → Type 0
Fit items = AllByRecursion IsWellSpelled items

all_fit : (items : List Sexp) → Fit items → AreWellSpelled items
all_fit [] fit = fits_none
all_fit (item ∷ items) fit = fits_more item items fit.0 (all_fit items fit.1)

kind_fits : (k : Kind) → IsWellSpelled (word (word_of k))
kind_fits k = fits_word (word_of k) (kind_is_word k)

number_fits : (n : ℕ) → n < 2 ^ 32 → IsWellSpelled (number n)
number_fits n small = fits_word (nat_text n) (number_word n small)

act_fit : (one : Act) → IsWellSpelledAct one → Fit (act_items one)
act_fit (act.Opens url) well = (kind_fits kind.Open, (fits_word (printed url) (url_word url well), tt))
act_fit (act.Goes win url) well = (kind_fits kind.Go, (number_fits win well.0, (fits_word (printed url) (url_word url well.1), tt)))
act_fit (act.Links win link) well = (kind_fits kind.Link, (number_fits win well.0, (number_fits link well.1, tt)))
act_fit (act.Closes win) well = (kind_fits kind.Close, (number_fits win well, tt))
act_fit (act.Types win field text) well = (kind_fits kind.Type, (number_fits win well.0, (number_fits field well.1, (fits_string text well.2, tt))))
act_fit (act.Clicks win button) well = (kind_fits kind.Click, (number_fits win well.0, (number_fits button well.1, tt)))
act_fit (act.Replies domain request resp) well =
    (kind_fits kind.Reply, (fits_word domain (domain_word domain well.0), (number_fits request well.1, (resp_item_well_spelled resp well.2, tt))))

act_fits : (one : Act) → IsWellSpelledAct one → AreWellSpelled (act_items one)
act_fits one well = all_fit (act_items one) (act_fit one well)

tagged_fits : (order : Order) (tag : Option Level) → IfSome tag (λ _. IsOrder order) → IsTag order tag → (items : List Sexp) → AreWellSpelled items → AreWellSpelled (tag_items order tag ++ items)
tagged_fits order None valid is_tag items well = well
tagged_fits order (Some level) valid is_tag items well =
    fits_more (word (64 ∷ name order level.0)) items (fits_word (64 ∷ name order level.0) (tag_is_word order valid level.0 is_tag)) well

-- the items of an input are well spelled
pub input_fits : (order : Order) (input : Input) → IfSome input.tag (λ _. IsOrder order) → IsTag order input.tag → IsWellSpelledInput input → AreWellSpelled (input_items order input)
input_fits order input valid is_tag well = tagged_fits order input.tag valid is_tag (act_items input.act) (act_fits input.act well)

-- ---- one line

abbrev pub IsOneLine : List ℕ → Type 0
IsOneLine bytes = All (λ b. b ≢ 10) bytes

-- each item is spelled in one line
abbrev OneLines : List Sexp → Type 0
OneLines items = AllByRecursion (λ item. IsOneLine (spelled item)) items

no_bytes : IsOneLine []
no_bytes = λ k d inside. absurd (omega (arith, inside))

joined_line : (items : List Sexp) → OneLines items → IsOneLine (joined items)
joined_line [] lines = no_bytes
joined_line (item ∷ []) lines = lines.0
joined_line (item ∷ next ∷ others) lines =
    All-append (λ b. b ≢ 10) (spelled item) (32 ∷ joined (next ∷ others)) lines.0
    (All-cons (λ b. b ≢ 10) 32 (joined (next ∷ others)) (λ e. cc) (joined_line (next ∷ others) lines.1))

lines_of : (items : List Sexp) → AreWellSpelled items → OneLines items
lines_of [] well = tt
lines_of (item ∷ items) well =
    let tests = and_parts (fits_at item 0) (list_all (λ (part : ℕ → Bool). part 0) (map fits_at items)) well in
    (spelled_one_line item tests.0, lines_of items tests.1)

-- the line of an input holds no newline
pub input_one_line : (order : Order) (input : Input) → IfSome input.tag (λ _. IsOrder order) → IsTag order input.tag → IsWellSpelledInput input → IsOneLine (input_text order input)
input_one_line order input valid is_tag well = joined_line (input_items order input) (lines_of (input_items order input) (input_fits order input valid is_tag well))

word_line : (text : List ℕ) → is_word text ≡ true → IsOneLine (spelled (word text))
word_line text is = spelled_one_line (word text) (fits_word text is)

string_line : (value : List ℕ) → IsUtf8 value → IsOneLine (spelled (string value))
string_line value utf8 = spelled_one_line (string value) (fits_string value utf8)

fault_word : (which : Fault) → is_word (faults.word_of which) ≡ true
fault_word fault.Kind = refl
fault_word fault.Name = refl
fault_word fault.Range = refl
fault_word fault.Overflow = refl
fault_word fault.Limit = refl
fault_word fault.Depth = refl
fault_word fault.Dead = refl

number_line : (n : ℕ) → n < 2 ^ 32 → IsOneLine (spelled (number n))
number_line n small = word_line (nat_text n) (number_word n small)

out_lines : (one : Out) → IsWellSpelledOut one → OneLines (out_items one)
out_lines out.Opened well = (word_line (codes "opened") refl, tt)
out_lines (out.Closed win) well = (word_line (codes "closed") refl, (number_line win well, tt))
out_lines (out.Loaded win url shown) well =
    (word_line (codes "loaded") refl, (number_line win well.0, (word_line (printed url) (url_word url well.1), (shown_one_line shown well.2, tt))))
out_lines (out.Updated win shown) well = (word_line (codes "updated") refl, (number_line win well.0, (shown_one_line shown well.1, tt)))
out_lines (out.Error win which) well = (word_line (codes "error") refl, (number_line win well, (word_line (faults.word_of which) (fault_word which), tt)))
out_lines out.Stopped well = (word_line (codes "stopped") refl, tt)
out_lines (out.Send domain request cookies body) well = (
  word_line (codes "send") refl,
  (
    word_line domain (domain_word domain well.0),
    (
      string_line request (IsUtf8-from_request request well.1.made_of),
      (pairs_one_line (in_key_order cookies), (string_line body well.3, tt)),
    ),
  ),
)

-- the line of an output, after the name of its level, holds no newline
pub out_one_line : (one : Out) → IsWellSpelledOut one → IsOneLine (out_text one)
out_one_line one well = joined_line (out_items one) (out_lines one well)

no_blank_byte : (b : ℕ) → 32 < b → (b ≢ 32) × (b ≢ 10)
no_blank_byte b above = (λ e. absurd (omega (arith, e, above)), λ e. absurd (omega (arith, e, above)))

-- the name of a level holds neither a blank nor a newline
name_bytes : (order : Order) → IsOrder order → (l : ℕ) → l < size order → All (λ b. (b ≢ 32) × (b ≢ 10)) (name order l)
name_bytes order valid l inside k d at =
    let high = (name_graphic (name order l) (valid.named l inside) k at).0 in
    subst (λ b. (b ≢ 32) × (b ≢ 10)) (get_or_default (name order l) k 0 d at) (no_blank_byte (get_or (name order l) k 0) high)

-- an output with its level's name holds no newline
pub headed_one_line : (order : Order) (l : ℕ) (one : Out) → IsOrder order → l < size order → IsWellSpelledOut one → IsOneLine (headed order l one)
headed_one_line order l one valid inside well =
    All-append (λ b. b ≢ 10) (name order l) (32 ∷ out_text one) (λ k d at. (name_bytes order valid l inside k d at).1)
    (All-cons (λ b. b ≢ 10) 32 (out_text one) (λ e. cc) (out_one_line one well))

no_blank : (b : ℕ) → b ≢ 32 → (b == 32) ≡ false
no_blank b other = grind (arith, nat_tests)

before_blank : (text rest last : List ℕ) → ((k : ℕ) → k < length text → get_or text k 0 ≢ 32) → take_while (λ b. not (b == 32)) ((text ++ 32 ∷ rest) ++ last) ≡ text
before_blank [] rest last other = refl
before_blank (b ∷ text) rest last other =
    let test : (b == 32) ≡ false = no_blank b (other 0 (omega arith)) in
    let n = prefix_len (λ b. not (b == 32)) ((text ++ 32 ∷ rest) ++ last) in
    let next : 1 + n ≡ suc n = omega arith in
    rw (test, next) (ap (λ (bs : List ℕ). b ∷ bs) (before_blank text rest last (λ k inside. other (suc k) (omega arith))))

-- what stands before the first blank of an output's line is the name of its level
pub name_first : (order : Order) (l : ℕ) (one : Out) → IsOrder order → l < size order → take_while (λ b. not (b == 32)) (out_line order l one) ≡ name order l
name_first order l one valid inside = before_blank (name order l) (out_text one) (10 ∷ []) (λ k at. (name_bytes order valid l inside k 0 at).0)
