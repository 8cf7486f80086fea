-- How deep lists nest can be told from the bytes of a text alone: what is spelled as something that
-- nests no deeper than a line may doesn't nest deeper either.
use Rattle.std.proofs.Common.{◌≡◌, ◌<◌, ◌+◌, ◌-◌, ◌==◌, ◌&&◌, ℕ, suc, Bool, true, false, nat_lt, List, [], ◌∷◌, ◌++◌, map, refl, sym, ap, ◌∙◌, arith, append_assoc}
use Rattle.std.specs.List.{list_all, flat_map, join_with_byte}
use Rattle.std.specs.Str.{is_utf8}
use Rattle.std.proofs.lemmas.Bool.{and_parts, and_from, ne_eqb}
use Rattle.std.proofs.lemmas.Bool.Decides.{nat_tests}
use denote.Hole.Carrier
use Rattle.ff_text.specs.Bytes.{is_word_byte}
use Rattle.ff_text.specs.Notation.{hex_digit, Escape, mark, backslash, newline, tab, hex, Value, empty, plain, escaped}
use Rattle.ff_text.specs.Printed.{spelled, spelled_byte, quoted, fits_at, is_word, AreWellSpelled}
use Rattle.ff_text.specs.declared.items.Span.{Span}
use Rattle.ff_text.specs.declared.items.Sexp.{Sexp}
use Rattle.ff_text.specs.declared.items.Sexp.TheVariants.{Word, Str, List as Parens}
use Rattle.ff_text.specs.declared.items.Sexp.TheOpen.{Sexp-F}
use Rattle.ff_text.specs.declared.items.Sexp.TheViews.{roll-Sexp}
use Rattle.ff_text.specs.declared.items.Sexp.TheFolds.{fold-Sexp, fold-roll-Sexp}
use Rattle.ff_text.proofs.Back.{value_spelled}
use Rattle.ff_text.proofs.Layers.{Each, items_ind, spelled-Word, spelled-Str, spelled-List, fits_at-Word, fits_at-Str, fits_at-List}

-- Bytes, read for their parentheses.

-- where a byte stands: outside strings, in a string, or behind a backslash there
data Place : Type 0 where
  outside : Place
  inside : Place
  behind : Place

-- what a byte outside strings opens and closes, by whether it is a parenthesis or a mark
abbrev from_outside : (opens closes marks : Bool) → ℕ → (Place → ℕ → Bool) → Bool
from_outside true closes marks deep rest = nat_lt deep 64 && rest outside (suc deep)
from_outside false true marks deep rest = rest outside (deep - 1)
from_outside false false true deep rest = rest inside deep
from_outside false false false deep rest = rest outside deep

abbrev from_inside : (marks slashes : Bool) → ℕ → (Place → ℕ → Bool) → Bool
from_inside true slashes deep rest = rest outside deep
from_inside false true deep rest = rest behind deep
from_inside false false deep rest = rest inside deep

-- whether no list of the bytes is opened in 64 others, where so many lists are open before them
nests : Place → ℕ → List ℕ → Bool
nests place deep [] = true
nests outside deep (b ∷ bytes) = from_outside (b == 40) (b == 41) (b == 34) deep (λ place n. nests place n bytes)
nests inside deep (b ∷ bytes) = from_inside (b == 34) (b == 92) deep (λ place n. nests place n bytes)
nests behind deep (b ∷ bytes) = nests inside deep bytes

-- a byte that is no parenthesis and no mark
passes_outside : (b deep : ℕ) (bytes : List ℕ) → (b == 40) ≡ false → (b == 41) ≡ false → (b == 34) ≡ false → nests outside deep (b ∷ bytes) ≡ nests outside deep bytes
unfolding nests
passes_outside b deep bytes no_open no_close no_mark =
    ap (λ t. from_outside t (b == 41) (b == 34) deep (λ place n. nests place n bytes)) no_open
    ∙ ap (λ t. from_outside false t (b == 34) deep (λ place n. nests place n bytes)) no_close
    ∙ ap (λ t. from_outside false false t deep (λ place n. nests place n bytes)) no_mark

passes_inside : (b deep : ℕ) (bytes : List ℕ) → (b == 34) ≡ false → (b == 92) ≡ false → nests inside deep (b ∷ bytes) ≡ nests inside deep bytes
unfolding nests
passes_inside b deep bytes no_mark no_slash =
    ap (λ t. from_inside t (b == 92) deep (λ place n. nests place n bytes)) no_mark
    ∙ ap (λ t. from_inside false t deep (λ place n. nests place n bytes)) no_slash

-- words

passes_word : (text rest : List ℕ) (deep : ℕ) → list_all is_word_byte text ≡ true → nests outside deep (text ++ rest) ≡ nests outside deep rest
passes_word [] rest deep all = refl
passes_word (b ∷ text) rest deep all =
    let tests = and_parts (is_word_byte b) (list_all is_word_byte text) all in
    passes_outside b deep (text ++ rest) (no_open b tests.0) (no_close b tests.0) (no_mark b tests.0) ∙ passes_word text rest deep tests.1
  where
    no_open : (b : ℕ) → is_word_byte b ≡ true → (b == 40) ≡ false
    no_open b h = grind (arith, nat_tests)

    no_close : (b : ℕ) → is_word_byte b ≡ true → (b == 41) ≡ false
    no_close b h = grind (arith, nat_tests)

    no_mark : (b : ℕ) → is_word_byte b ≡ true → (b == 34) ≡ false
    no_mark b h = grind (arith, nat_tests)

word_made_of : (text : List ℕ) → is_word text ≡ true → list_all is_word_byte text ≡ true
word_made_of [] h = cc
word_made_of (b ∷ text) h = h

-- strings

digit_no_mark : (n : ℕ) → (hex_digit n == 34) ≡ false
digit_no_mark n = grind (arith, nat_tests)

digit_no_slash : (n : ℕ) → n < 16 → (hex_digit n == 92) ≡ false
digit_no_slash n small = grind (arith, nat_tests)

passes_escape : (escape : List ℕ) (b : ℕ) (more : List ℕ) (deep : ℕ) → Escape escape b → nests behind deep (escape ++ more) ≡ nests inside deep more
unfolding nests
passes_escape _ _ more deep mark = refl
passes_escape _ _ more deep backslash = refl
passes_escape _ _ more deep newline = refl
passes_escape _ _ more deep tab = refl
passes_escape _ _ more deep (hex high low high_small low_small) =
    passes_inside (hex_digit high) deep (hex_digit low ∷ more) (digit_no_mark high) (digit_no_slash high (omega (arith, high_small)))
    ∙ passes_inside (hex_digit low) deep more (digit_no_mark low) (digit_no_slash low low_small)

begins_escape : (deep : ℕ) (bytes : List ℕ) → nests inside deep (92 ∷ bytes) ≡ nests behind deep bytes
unfolding nests
begins_escape deep bytes = refl

ends_string : (deep : ℕ) (bytes : List ℕ) → nests inside deep (34 ∷ bytes) ≡ nests outside deep bytes
unfolding nests
ends_string deep bytes = refl

begins_string : (deep : ℕ) (bytes : List ℕ) → nests outside deep (34 ∷ bytes) ≡ nests inside deep bytes
unfolding nests
begins_string deep bytes = refl

passes_value : (body value more : List ℕ) (deep : ℕ) → Value body value → nests inside deep (body ++ more) ≡ nests inside deep more
passes_value _ _ more deep empty = refl
passes_value _ _ more deep (plain body value b before is) =
    ap (nests inside deep) (append_assoc body (b ∷ []) more)
    ∙ passes_value body value (b ∷ more) deep before
    ∙ passes_inside b deep more (ne_eqb b 34 is.no_mark) (ne_eqb b 92 is.no_backslash)
passes_value _ _ more deep (escaped body value escape b before is) =
    ap (nests inside deep) (append_assoc body (92 ∷ escape) more)
    ∙ passes_value body value (92 ∷ (escape ++ more)) deep before
    ∙ begins_escape deep (escape ++ more)
    ∙ passes_escape escape b more deep is

quoted-is : (value : List ℕ) → quoted value ≡ 34 ∷ (flat_map spelled_byte value ++ 34 ∷ [])
unfolding quoted
quoted-is value = refl

passes_string : (value rest : List ℕ) (deep : ℕ) → nests outside deep (quoted value ++ rest) ≡ nests outside deep rest
passes_string value rest deep =
    ap (λ bs. nests outside deep (bs ++ rest)) (quoted-is value)
    ∙ begins_string deep ((flat_map spelled_byte value ++ 34 ∷ []) ++ rest)
    ∙ ap (nests inside deep) (append_assoc (flat_map spelled_byte value) (34 ∷ []) rest)
    ∙ passes_value (flat_map spelled_byte value) value (34 ∷ rest) deep (value_spelled value)
    ∙ ends_string deep rest

-- Items, however deep their lists nest.

abbrev formed_step : Sexp-F Bool → Bool
formed_step (Sexp-F.Word at text) = is_word text
formed_step (Sexp-F.Str at value) = is_utf8 value
formed_step (Sexp-F.List at parts) = list_all (λ (part : Bool). part) parts

-- whether the words of an item are words and its strings are UTF-8
abbrev pub formed : Sexp → Bool
formed = fold-Sexp Bool formed_step

pub formed-Word : (at : Span) (text : List ℕ) → formed (Word at text) ≡ is_word text
unfolding roll-Sexp denote.Hole.Carrier.roll
formed-Word at text = fold-roll-Sexp Bool formed_step (Sexp-F.Word at text)

formed-Str : (at : Span) (value : List ℕ) → formed (Str at value) ≡ is_utf8 value
unfolding roll-Sexp denote.Hole.Carrier.roll
formed-Str at value = fold-roll-Sexp Bool formed_step (Sexp-F.Str at value)

pub formed-List : (at : Span) (parts : List Sexp) → formed (Parens at parts) ≡ list_all (λ (part : Bool). part) (map formed parts)
unfolding roll-Sexp denote.Hole.Carrier.roll
formed-List at parts = fold-roll-Sexp Bool formed_step (Sexp-F.List at parts)

abbrev pub AreFormed : List Sexp → Type 0
AreFormed items = list_all (λ (part : Bool). part) (map formed items) ≡ true

-- whether items fit, where so many lists are open
abbrev fit_at : ℕ → List Sexp → Bool
fit_at deep items = list_all (λ (part : ℕ → Bool). part deep) (map fits_at items)

-- what fits somewhere is well formed
abbrev FitsFormed : Sexp → Type 0
FitsFormed item = (deep : ℕ) → fits_at item deep ≡ true → formed item ≡ true

parts_formed : (parts : List Sexp) → Each FitsFormed parts → (deep : ℕ) → fit_at deep parts ≡ true → AreFormed parts
parts_formed [] each deep fit = refl
parts_formed (part ∷ parts) each deep fit =
    let tests = and_parts (fits_at part deep) (fit_at deep parts) fit in
    and_from (formed part) (list_all (λ (p : Bool). p) (map formed parts)) (each.0 deep tests.0) (parts_formed parts each.1 deep tests.1)

pub fits_formed : (item : Sexp) (deep : ℕ) → fits_at item deep ≡ true → formed item ≡ true
fits_formed = items_ind FitsFormed
    (λ at text deep fits. formed-Word at text ∙ sym (ap (λ f. f deep) (fits_at-Word at text)) ∙ fits)
    (λ at value deep fits. formed-Str at value ∙ sym (ap (λ f. f deep) (fits_at-Str at value)) ∙ fits)
    (λ at parts each deep fits.
    formed-List at parts
    ∙ parts_formed parts each (suc deep) (and_parts (nat_lt deep 64) (fit_at (suc deep) parts) (sym (ap (λ f. f deep) (fits_at-List at parts)) ∙ fits)).1)

-- so well spelled items are
pub all_formed : (items : List Sexp) → AreWellSpelled items → AreFormed items
all_formed [] fit = refl
all_formed (item ∷ items) fit =
    let tests = and_parts (fits_at item 0) (fit_at 0 items) fit in
    and_from (formed item) (list_all (λ (p : Bool). p) (map formed items)) (fits_formed item 0 tests.0) (all_formed items tests.1)

-- The bytes of a well formed item tell whether it fits.

abbrev Tells : Sexp → Type 0
Tells item = formed item ≡ true → (deep : ℕ) (rest : List ℕ) → nests outside deep (spelled item ++ rest) ≡ (fits_at item deep && nests outside deep rest)

and_assoc : (a b c : Bool) → ((a && b) && c) ≡ (a && (b && c))
and_assoc true b c = refl
and_assoc false b c = refl

blank_passes : (deep : ℕ) (bytes : List ℕ) → nests outside deep (32 ∷ bytes) ≡ nests outside deep bytes
blank_passes deep bytes = passes_outside 32 deep bytes refl refl refl

items_tell : (items : List Sexp) → Each Tells items → AreFormed items → (deep : ℕ) (rest : List ℕ)
    → nests outside deep (join_with_byte 32 (map spelled items) ++ rest) ≡ (fit_at deep items && nests outside deep rest)
items_tell [] each formed deep rest = refl
items_tell (item ∷ []) each are deep rest =
    each.0 (and_parts (formed item) true are).0 deep rest ∙ ap (λ b. b && nests outside deep rest) (sym (and_true (fits_at item deep)))
  where
    and_true : (b : Bool) → (b && true) ≡ b
    and_true true = refl
    and_true false = refl
items_tell (item ∷ next ∷ items) each are deep rest =
    let tests = and_parts (formed item) (list_all (λ (p : Bool). p) (map formed (next ∷ items))) are in
    let others = join_with_byte 32 (map spelled (next ∷ items)) in
    ap (nests outside deep) (append_assoc (spelled item) (32 ∷ others) rest)
    ∙ each.0 tests.0 deep (32 ∷ (others ++ rest))
    ∙ ap (λ b. fits_at item deep && b) (blank_passes deep (others ++ rest) ∙ items_tell (next ∷ items) each.1 tests.1 deep rest)
    ∙ sym (and_assoc (fits_at item deep) (fit_at deep (next ∷ items)) (nests outside deep rest))

opens_list : (deep : ℕ) (bytes : List ℕ) → nests outside deep (40 ∷ bytes) ≡ (nat_lt deep 64 && nests outside (suc deep) bytes)
unfolding nests
opens_list deep bytes = refl

closes_list : (deep : ℕ) (bytes : List ℕ) → nests outside (suc deep) (41 ∷ bytes) ≡ nests outside deep bytes
unfolding nests
closes_list deep bytes = let one_less : suc deep - 1 ≡ deep = omega arith in ap (λ n. nests outside n bytes) one_less

item_tells : (item : Sexp) → Tells item
item_tells = items_ind Tells
    (λ at text is deep rest.
    let word = sym (formed-Word at text) ∙ is in
    ap (λ bs. nests outside deep (bs ++ rest)) (spelled-Word at text)
    ∙ passes_word text rest deep (word_made_of text word)
    ∙ ap (λ b. b && nests outside deep rest) (sym (ap (λ f. f deep) (fits_at-Word at text) ∙ word)))
    (λ at value is deep rest.
    ap (λ bs. nests outside deep (bs ++ rest)) (spelled-Str at value)
    ∙ passes_string value rest deep
    ∙ ap (λ b. b && nests outside deep rest) (sym (ap (λ f. f deep) (fits_at-Str at value) ∙ sym (formed-Str at value) ∙ is)))
    (λ at parts each is deep rest.
    let inner = join_with_byte 32 (map spelled parts) in
    ap (λ bs. nests outside deep (bs ++ rest)) (spelled-List at parts)
    ∙ opens_list deep ((inner ++ 41 ∷ []) ++ rest)
    ∙ ap (λ b. nat_lt deep 64 && b)
    (ap (nests outside (suc deep)) (append_assoc inner (41 ∷ []) rest)
    ∙ items_tell parts each (sym (formed-List at parts) ∙ is) (suc deep) (41 ∷ rest)
    ∙ ap (λ b. fit_at (suc deep) parts && b) (closes_list deep rest))
    ∙ sym (and_assoc (nat_lt deep 64) (fit_at (suc deep) parts) (nests outside deep rest))
    ∙ ap (λ b. b && nests outside deep rest) (sym (ap (λ f. f deep) (fits_at-List at parts))))

every_tells : (items : List Sexp) → Each Tells items
every_tells [] = tt
every_tells (item ∷ items) = (item_tells item, every_tells items)

-- Lines of items.

-- no list of the bytes is opened in 64 others
pub AreShallow : List ℕ → Type 0
AreShallow bytes = nests outside 0 bytes ≡ true

line_tells : (items : List Sexp) → AreFormed items → (rest : List ℕ)
    → nests outside 0 ((join_with_byte 32 (map spelled items) ++ 10 ∷ []) ++ rest) ≡ (fit_at 0 items && nests outside 0 rest)
line_tells items are rest =
    ap (nests outside 0) (append_assoc (join_with_byte 32 (map spelled items)) (10 ∷ []) rest)
    ∙ items_tell items (every_tells items) are 0 (10 ∷ rest)
    ∙ ap (λ b. fit_at 0 items && b) (passes_outside 10 0 rest refl refl refl)

pub no_lines_shallow : AreShallow []
unfolding AreShallow nests
no_lines_shallow = refl

pub line_shallow : (items : List Sexp) → AreWellSpelled items → (rest : List ℕ) → AreShallow rest → AreShallow ((join_with_byte 32 (map spelled items) ++ 10 ∷ []) ++ rest)
unfolding AreShallow
line_shallow items fit rest shallow = line_tells items (all_formed items fit) rest ∙ and_from (fit_at 0 items) (nests outside 0 rest) fit shallow

pub line_fits : (items : List Sexp) → AreFormed items → (rest : List ℕ) → AreShallow ((join_with_byte 32 (map spelled items) ++ 10 ∷ []) ++ rest) → AreWellSpelled items × AreShallow rest
unfolding AreShallow
line_fits items are rest shallow = and_parts (fit_at 0 items) (nests outside 0 rest) (sym (line_tells items are rest) ∙ shallow)
