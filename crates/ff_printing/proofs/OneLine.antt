-- What is spelled stands in one line: no byte of it is a newline.
use Rattle.std.proofs.Common.{◌≡◌, ◌≢◌, ◌==◌, ℕ, suc, not, Bool, true, nat_lt, List, [], ◌∷◌, ◌++◌, map, codes, refl, ap, sym, ◌∙◌, subst, arith}
use Rattle.std.specs.List.{All, AllByRecursion, list_all, flat_map, join_with_byte}
use Rattle.std.proofs.lemmas.Bool.{and_parts, and_from}
use Rattle.std.proofs.lemmas.Bool.Decides.{nat_tests}
use Rattle.std.proofs.lemmas.List.Folds.{list_all-append}
use Rattle.std.proofs.lemmas.List.Sums.{AllPass-from_list_all}
use denote.Hole.Carrier
use denote.Hole.Holds.{Such}
use Rattle.ff_name.specs.Address.{IsWellSpelled as IsWellSpelledUrl, printed}
use Rattle.ff_name.specs.declared.urls.Url.{Url}
use Rattle.ff_text.specs.Bytes.{is_word_byte}
use Rattle.ff_text.specs.Notation.{span, hex_digit, Escape, mark, backslash, newline, tab, hex, IsPlain, Value, empty, plain, escaped}
use Rattle.ff_text.specs.Printed.{spelled, spelled_byte, quoted, fits_at, is_word, IsWellSpelled}
use Rattle.ff_text.specs.declared.items.Span.{Span}
use Rattle.ff_text.specs.declared.items.Sexp.{Sexp}
use Rattle.ff_text.specs.declared.items.Sexp.TheVariants.{Word, Str, List as Parens}
use Rattle.ff_text.specs.declared.items.Sexp.TheOpen.{Sexp-F}
use Rattle.ff_text.specs.declared.items.Sexp.TheViews.{roll-Sexp}
use Rattle.ff_text.specs.declared.items.Sexp.TheFolds.{fold-Sexp, fold-roll-Sexp}
use Rattle.ff_text.proofs.Back.{value_spelled}
use Rattle.ff_text.proofs.Layers.{Each as EachItem, items_ind, spelled-Word, spelled-Str, spelled-List, fits_at-Word, fits_at-List}
use Rattle.ff_value.specs.Spelled.{IsSpelledShownPart, shown_part_spelled}
use Rattle.ff_value.specs.declared.output.Pair.{Pair}
use Rattle.ff_value.specs.declared.output.ShownPart.{ShownPart}
use Rattle.ff_value.specs.declared.output.ShownPart.TheVariants as shown_part
use Rattle.ff_value.specs.declared.output.ShownPart.TheBlock.{the_family, member-ShownPart}
use Rattle.ff_value.specs.declared.output.ShownPart.TheOpen.{ShownPart-F}
use Rattle.ff_value.specs.declared.output.ShownPart.TheViews.{out-ShownPart, roll-ShownPart, roll-out-ShownPart}
use Rattle.ff_value.specs.declared.output.ShownPart.TheFolds.{ind-ShownPart, claims, map-ShownPart, rec-roll-ShownPart}
use Rattle.ff_forms.specs.Canonical.{word, string, parens, address, shown_part_item, shown_item, pair_item, pairs_item}
use Rattle.ff_printing.proofs.Items.{shown_part_item-Text, shown_part_item-Link, shown_part_item-TextBox, shown_part_item-Button, shown_part_item-Div}
use Rattle.ff_printing.proofs.Trees.{Each}
use Rattle.ff_printing.proofs.WordTexts.{url_word}

abbrev is_other : ℕ → Bool
is_other b = not (b == 10)

-- no byte is a newline
abbrev InLine : List ℕ → Type 0
InLine bytes = list_all is_other bytes ≡ true

both : (xs ys : List ℕ) → InLine xs → InLine ys → InLine (xs ++ ys)
both xs ys x y = list_all-append is_other xs ys ∙ and_from _ _ x y

word_byte : (b : ℕ) → is_word_byte b ≡ true → is_other b ≡ true
word_byte b h = grind (arith, nat_tests)

word_bytes : (bytes : List ℕ) → list_all is_word_byte bytes ≡ true → InLine bytes
word_bytes [] h = refl
word_bytes (b ∷ bytes) h = let tests = and_parts (is_word_byte b) (list_all is_word_byte bytes) h in and_from _ _ (word_byte b tests.0) (word_bytes bytes tests.1)

word_in_line : (text : List ℕ) → is_word text ≡ true → InLine text
word_in_line [] h = refl
word_in_line (b ∷ text) h = word_bytes (b ∷ text) h

digit_in_line : (n : ℕ) → is_other (hex_digit n) ≡ true
digit_in_line n = grind (arith, nat_tests)

escape_in_line : (escape : List ℕ) (b : ℕ) → Escape escape b → InLine escape
escape_in_line _ _ mark = refl
escape_in_line _ _ backslash = refl
escape_in_line _ _ newline = refl
escape_in_line _ _ tab = refl
escape_in_line _ _ (hex high low small short) = and_from _ _ (digit_in_line high) (and_from _ _ (digit_in_line low) refl)

plain_in_line : (b : ℕ) → IsPlain b → is_other b ≡ true
plain_in_line b is = let no_control = is.no_control in grind (arith, nat_tests)

value_in_line : (body value : List ℕ) → Value body value → InLine body
value_in_line _ _ empty = refl
value_in_line _ _ (plain body value b before is) = both body (b ∷ []) (value_in_line body value before) (and_from _ _ (plain_in_line b is) refl)
value_in_line _ _ (escaped body value escape b before is) = both body (92 ∷ escape) (value_in_line body value before) (escape_in_line escape b is)

quoted-is : (value : List ℕ) → quoted value ≡ 34 ∷ (flat_map spelled_byte value ++ 34 ∷ [])
unfolding quoted
quoted-is value = refl

quoted_in_line : (value : List ℕ) → InLine (quoted value)
quoted_in_line value = ap (list_all is_other) (quoted-is value) ∙ both (flat_map spelled_byte value) (34 ∷ []) (value_in_line (flat_map spelled_byte value) value (value_spelled value)) refl

abbrev words_step : Sexp-F Bool → Bool
words_step (Sexp-F.Word at text) = is_word text
words_step (Sexp-F.Str at value) = true
words_step (Sexp-F.List at parts) = list_all (λ (part : Bool). part) parts

-- whether the words in an item are words, however deep its lists nest
abbrev pub has_words : Sexp → Bool
has_words = fold-Sexp Bool words_step

has_words-Word : (at : Span) (text : List ℕ) → has_words (Word at text) ≡ is_word text
unfolding roll-Sexp denote.Hole.Carrier.roll
has_words-Word at text = fold-roll-Sexp Bool words_step (Sexp-F.Word at text)

has_words-Str : (at : Span) (value : List ℕ) → has_words (Str at value) ≡ true
unfolding roll-Sexp denote.Hole.Carrier.roll
has_words-Str at value = fold-roll-Sexp Bool words_step (Sexp-F.Str at value)

has_words-List : (at : Span) (parts : List Sexp) → has_words (Parens at parts) ≡ list_all (λ (part : Bool). part) (map has_words parts)
unfolding roll-Sexp denote.Hole.Carrier.roll
has_words-List at parts = fold-roll-Sexp Bool words_step (Sexp-F.List at parts)

abbrev HaveWords : List Sexp → Type 0
HaveWords items = list_all (λ (part : Bool). part) (map has_words items) ≡ true

-- What has words is spelled in one line.

abbrev SpelledInLine : Sexp → Type 0
SpelledInLine item = has_words item ≡ true → InLine (spelled item)

parts_in_line : (parts : List Sexp) → EachItem SpelledInLine parts → HaveWords parts → InLine (join_with_byte 32 (map spelled parts))
parts_in_line [] each have = refl
parts_in_line (part ∷ []) each have = each.0 (and_parts (has_words part) true have).0
parts_in_line (part ∷ next ∷ parts) each have =
    let tests = and_parts (has_words part) (list_all (λ (p : Bool). p) (map has_words (next ∷ parts))) have in
    both (spelled part) (32 ∷ join_with_byte 32 (map spelled (next ∷ parts))) (each.0 tests.0) (parts_in_line (next ∷ parts) each.1 tests.1)

spelled_in_line : (item : Sexp) → SpelledInLine item
spelled_in_line = items_ind SpelledInLine
    (λ at text has. ap (list_all is_other) (spelled-Word at text) ∙ word_in_line text (sym (has_words-Word at text) ∙ has))
    (λ at value has. ap (list_all is_other) (spelled-Str at value) ∙ quoted_in_line value)
    (λ at parts each has.
    ap (list_all is_other) (spelled-List at parts)
    ∙ both (join_with_byte 32 (map spelled parts)) (41 ∷ []) (parts_in_line parts each (sym (has_words-List at parts) ∙ has)) refl)

abbrev WordsFit : Sexp → Type 0
WordsFit item = (nesting : ℕ) → fits_at item nesting ≡ true → has_words item ≡ true

parts_fit : (parts : List Sexp) → EachItem WordsFit parts → (nesting : ℕ) → list_all (λ (part : ℕ → Bool). part nesting) (map fits_at parts) ≡ true → HaveWords parts
parts_fit [] each nesting fit = refl
parts_fit (part ∷ parts) each nesting fit =
    let tests = and_parts (fits_at part nesting) (list_all (λ (p : ℕ → Bool). p nesting) (map fits_at parts)) fit in
    and_from _ _ (each.0 nesting tests.0) (parts_fit parts each.1 nesting tests.1)

words_fit : (item : Sexp) → WordsFit item
words_fit = items_ind WordsFit
    (λ at text nesting fits. has_words-Word at text ∙ sym (ap (λ f. f nesting) (fits_at-Word at text)) ∙ fits)
    (λ at value nesting fits. has_words-Str at value)
    (λ at parts each nesting fits.
    has_words-List at parts
    ∙ parts_fit parts each (suc nesting)
    (and_parts (nat_lt nesting 64) (list_all (λ (p : ℕ → Bool). p (suc nesting)) (map fits_at parts)) (sym (ap (λ f. f nesting) (fits_at-List at parts)) ∙ fits)).1)

other : (b : ℕ) → is_other b ≡ true → b ≢ 10
other b h e = let wrong : is_other 10 ≡ true = subst (λ c. is_other c ≡ true) e h in cc

each_other : (bytes : List ℕ) → InLine bytes → All (λ b. b ≢ 10) bytes
each_other bytes h = λ k d inside. other _ (AllPass-from_list_all is_other bytes h k d inside)

-- an item whose words are words is spelled in one line, however deep its lists nest
pub words_one_line : (item : Sexp) → has_words item ≡ true → All (λ b. b ≢ 10) (spelled item)
words_one_line item has = each_other (spelled item) (spelled_in_line item has)

-- a well spelled item is spelled in one line
pub spelled_one_line : (item : Sexp) → IsWellSpelled item → All (λ b. b ≢ 10) (spelled item)
spelled_one_line item well = words_one_line item (words_fit item 0 well)

-- What the user is shown.

list_has : (parts : List Sexp) → HaveWords parts → has_words (parens parts) ≡ true
list_has parts have = has_words-List (span 0 0) parts ∙ have

word_has : (text : List ℕ) → is_word text ≡ true → has_words (word text) ≡ true
word_has text h = has_words-Word (span 0 0) text ∙ h

string_has : (value : List ℕ) → has_words (string value) ≡ true
string_has value = has_words-Str (span 0 0) value

and_more : (item : Sexp) (items : List Sexp) → has_words item ≡ true → HaveWords items → HaveWords (item ∷ items)
and_more item items one others = and_from (has_words item) (list_all (λ (p : Bool). p) (map has_words items)) one others

rule : {A B : Type 0} → A ≡ B → A → B
rule e a = subst (λ (T : Type 0). T) e a

all_mapped : {A B : Type 0} (f : A → B) (P : B → Type 0) (xs : List A) → AllByRecursion (λ x. P (f x)) xs ≡ AllByRecursion P (map f xs)
all_mapped f P [] = refl
all_mapped f P (x ∷ xs) = ap (λ (T : Type 0). P (f x) × T) (all_mapped f P xs)

shown_of_parts : (S : Type 0) (s : S → ShownPart) (claim : ShownPart → Type 0) (x : ShownPart-F S) → shown_part_spelled S (λ p. claim (s p)) x ≡ shown_part_spelled ShownPart claim (map-ShownPart S ShownPart s x)
shown_of_parts S s claim (ShownPart-F.Text text) = refl
shown_of_parts S s claim (ShownPart-F.Link url label) = refl
shown_of_parts S s claim (ShownPart-F.TextBox text) = refl
shown_of_parts S s claim (ShownPart-F.Button label) = refl
shown_of_parts S s claim (ShownPart-F.Div parts) = all_mapped s claim parts

IsSpelledShownPart-out : (x : ShownPart) → IsSpelledShownPart x ≡ shown_part_spelled ShownPart IsSpelledShownPart (out-ShownPart x)
unfolding IsSpelledShownPart
IsSpelledShownPart-out x = ap IsSpelledShownPart (sym (roll-out-ShownPart x)) ∙ rec-roll-ShownPart (Type 0) (λ S _. shown_part_spelled S) shown_of_parts (out-ShownPart x)

layer_of : (x : ShownPart) (layer : ShownPart-F ShownPart) → out-ShownPart x ≡ layer → IsSpelledShownPart x → shown_part_spelled ShownPart IsSpelledShownPart layer
layer_of x layer e spelled = rule (IsSpelledShownPart-out x ∙ ap (shown_part_spelled ShownPart IsSpelledShownPart) e) spelled

abbrev ShownPartHas : ShownPart → Type 0
ShownPartHas s = IsSpelledShownPart s → has_words (shown_part_item s) ≡ true

all_have : (shown : List ShownPart) → Each ShownPartHas shown → AllByRecursion IsSpelledShownPart shown → HaveWords (map shown_part_item shown)
all_have [] each spelled = refl
all_have (s ∷ shown) each spelled = and_more (shown_part_item s) (map shown_part_item shown) (each.0 spelled.0) (all_have shown each.1 spelled.1)

label_has : (head text : List ℕ) → is_word head ≡ true → has_words (parens (word head ∷ string text ∷ [])) ≡ true
label_has head text h = list_has (word head ∷ string text ∷ []) (and_more (word head) (string text ∷ []) (word_has head h) (and_more (string text) [] (string_has text) refl))

link_has : (url : Url) (label : List ℕ) → IsWellSpelledUrl url → has_words (parens (word (codes "link") ∷ address url ∷ string label ∷ [])) ≡ true
link_has url label well =
    list_has (word (codes "link") ∷ address url ∷ string label ∷ []) (and_more (word (codes "link")) (address url ∷ string label ∷ []) (word_has (codes "link") refl)
    (and_more (address url) (string label ∷ []) (word_has (printed url) (url_word url well)) (and_more (string label) [] (string_has label) refl)))

shown_part_layer : (y : ShownPart-F (Such the_family (claims ShownPartHas) member-ShownPart)) → ShownPartHas (roll-ShownPart (map-ShownPart (Such the_family (claims ShownPartHas) member-ShownPart) ShownPart (λ e. e.0) y))
unfolding roll-ShownPart denote.Hole.Carrier.roll
shown_part_layer (ShownPart-F.Text text) spelled = ap has_words (shown_part_item-Text text) ∙ label_has (codes "text") text refl
shown_part_layer (ShownPart-F.Link url label) spelled = ap has_words (shown_part_item-Link url label) ∙ link_has url label (layer_of (shown_part.Link url label) (ShownPart-F.Link url label) (shown_part.outs-Link url label) spelled).0
shown_part_layer (ShownPart-F.TextBox text) spelled = ap has_words (shown_part_item-TextBox text) ∙ label_has (codes "box") text refl
shown_part_layer (ShownPart-F.Button label) spelled = ap has_words (shown_part_item-Button label) ∙ label_has (codes "button") label refl
shown_part_layer (ShownPart-F.Div parts) spelled =
    let shown = map (λ e. e.0) parts in
    ap has_words (shown_part_item-Div shown)
    ∙ list_has (word (codes "div") ∷ map shown_part_item shown) (and_more (word (codes "div")) (map shown_part_item shown) (word_has (codes "div") refl)
    (all_have shown (each parts) (layer_of (shown_part.Div shown) (ShownPart-F.Div shown) (shown_part.outs-Div shown) spelled)))
  where
    each : (entries : List (Such the_family (claims ShownPartHas) member-ShownPart)) → Each ShownPartHas (map (λ e. e.0) entries)
    each [] = tt
    each (e ∷ entries) = (e.1, each entries)

shown_part_has : (s : ShownPart) → ShownPartHas s
shown_part_has = ind-ShownPart ShownPartHas (λ x y e. subst (λ l. ShownPartHas (roll-ShownPart l)) e (shown_part_layer y))

each_shown_part : (shown : List ShownPart) → Each ShownPartHas shown
each_shown_part [] = tt
each_shown_part (s ∷ shown) = (shown_part_has s, each_shown_part shown)

-- the words in the item of a page as the user is shown it are words
pub shown_item_has_words : (shown : List ShownPart) → AllByRecursion IsSpelledShownPart shown → has_words (shown_item shown) ≡ true
shown_item_has_words shown spelled =
    list_has (word (codes "page") ∷ map shown_part_item shown) (and_more (word (codes "page")) (map shown_part_item shown) (word_has (codes "page") refl) (all_have shown (each_shown_part shown) spelled))

pub shown_one_line : (shown : List ShownPart) → AllByRecursion IsSpelledShownPart shown → All (λ b. b ≢ 10) (spelled (shown_item shown))
shown_one_line shown spelled = words_one_line (shown_item shown) (shown_item_has_words shown spelled)

pair_has : (pair : Pair) → has_words (pair_item pair) ≡ true
pair_has pair = list_has (string pair.key ∷ string pair.value ∷ []) (and_more (string pair.key) (string pair.value ∷ []) (string_has pair.key) (and_more (string pair.value) [] (string_has pair.value) refl))

pairs_have : (pairs : List Pair) → HaveWords (map pair_item pairs)
pairs_have [] = refl
pairs_have (pair ∷ pairs) = and_more (pair_item pair) (map pair_item pairs) (pair_has pair) (pairs_have pairs)

pub pairs_item_has_words : (pairs : List Pair) → has_words (pairs_item pairs) ≡ true
pairs_item_has_words pairs = list_has (map pair_item pairs) (pairs_have pairs)

pub pairs_one_line : (pairs : List Pair) → All (λ b. b ≢ 10) (spelled (pairs_item pairs))
pairs_one_line pairs = words_one_line (pairs_item pairs) (pairs_item_has_words pairs)
