-- What is printed spells the item, in all but the places.
use Rattle.std.proofs.Common.{◌≡◌, ◌≢◌, ◌<◌, ◌+◌, ◌*◌, ◌/◌, ◌%◌, ℕ, suc, Bool, true, false, nat_lt, List, ◌∷◌, ◌++◌, [], length, map, refl, sym, ◌∙◌, ap, subst, inl, inr, arith, append_assoc, append-nil, length-append}
use Rattle.std.specs.List.{join_with_byte, list_all, flat_map}
use Rattle.std.specs.Str.{IsUtf8}
use Rattle.std.specs.Char.{is_ascii_control}
use Rattle.std.proofs.lemmas.Bool.{and_parts}
use Rattle.std.proofs.lemmas.Bool.Decides.{nat_tests, eqb_tells}
use Rattle.std.proofs.lemmas.Str.{IsUtf8-from_is_utf8}
use Rattle.ff_text.specs.declared.items.Span.{Span}
use Rattle.ff_text.specs.declared.items.Sexp.{Sexp}
use Rattle.ff_text.specs.declared.items.Sexp.TheVariants as sexp
use Rattle.ff_text.specs.Notation.{span, hex_digit, IsWord, Escape, mark, backslash, newline, tab, hex, Value, empty, plain, escaped, Spells, nothing, blank, a_word, a_string, a_list, SpellsItems}
use Rattle.ff_text.specs.Printed.{spelled, spelled_byte, quoted, bare, fits_at, is_word, IsWellSpelled, ReadsBack}
use Rattle.ff_text.proofs.Layers.{spelled-Word, spelled-Str, spelled-List, bare-Word, bare-Str, bare-List, fits_at-Word, fits_at-Str, fits_at-List, Each, items_ind}
use Rattle.ff_name.specs.declared.limits.TheConstants.{MOST_DEPTH}

high_small : (b : ℕ) → is_ascii_control b ≡ true → b / 16 < 8
high_small b h = let small : b < 128 = grind (arith, nat_tests) in omega arith

low_small : (b : ℕ) → b % 16 < 16
low_small b = omega arith

joined : (b : ℕ) → 16 * (b / 16) + b % 16 ≡ b
joined b = omega arith

-- how a byte is spelled, case by case
data ByteSpelling (b : ℕ) : List ℕ → Type 0 where
  by_escape : (escape : List ℕ) → Escape escape b → ByteSpelling b (92 ∷ escape)
  by_itself : b ≢ 34 → b ≢ 92 → is_ascii_control b ≡ false → ByteSpelling b (b ∷ [])

escape_at : (b c : ℕ) (escape : List ℕ) → b ≡ c → Escape escape c → ByteSpelling b (92 ∷ escape)
escape_at b c escape same e = by_escape escape (subst (Escape escape) (sym same) e)

rest_spelling : (b : ℕ) → b ≢ 34 → b ≢ 92 → b ≢ 10 → b ≢ 9 → (control : Bool) → is_ascii_control b ≡ control → ByteSpelling b (spelled_byte b)
rest_spelling b m s n t true e =
    let is : spelled_byte b ≡ 92 ∷ 120 ∷ hex_digit (b / 16) ∷ hex_digit (b % 16) ∷ [] = grind (arith, nat_tests) in
    subst (ByteSpelling b) (sym is) (by_escape (120 ∷ hex_digit (b / 16) ∷ hex_digit (b % 16) ∷ [])
    (subst (Escape (120 ∷ hex_digit (b / 16) ∷ hex_digit (b % 16) ∷ [])) (joined b) (hex (b / 16) (b % 16) (high_small b e) (low_small b))))
rest_spelling b m s n t false e =
    let is : spelled_byte b ≡ b ∷ [] = grind (arith, nat_tests) in
    subst (ByteSpelling b) (sym is) (by_itself m s e)

byte_spelling : (b : ℕ) → ByteSpelling b (spelled_byte b)
byte_spelling b =
    elim (eqb_tells b 34) [
      | inl is ↦ subst (λ c. ByteSpelling c (spelled_byte c)) (sym is.1) (by_escape (34 ∷ []) mark)
      | inr m ↦ elim (eqb_tells b 92) [
        | inl is ↦ subst (λ c. ByteSpelling c (spelled_byte c)) (sym is.1) (by_escape (92 ∷ []) backslash)
        | inr s ↦ elim (eqb_tells b 10) [
          | inl is ↦ subst (λ c. ByteSpelling c (spelled_byte c)) (sym is.1) (by_escape (110 ∷ []) newline)
          | inr n ↦ elim (eqb_tells b 9) [
            | inl is ↦ subst (λ c. ByteSpelling c (spelled_byte c)) (sym is.1) (by_escape (116 ∷ []) tab)
            | inr t ↦ rest_spelling b m.1 s.1 n.1 t.1 (is_ascii_control b) refl
          ]
        ]
      ]
    ]

value_byte : (body value : List ℕ) (b : ℕ) (bytes : List ℕ) → ByteSpelling b bytes → Value body value → Value (body ++ bytes) (value ++ b ∷ [])
value_byte body value b bytes (by_escape escape e) v = escaped body value escape b v e
value_byte body value b bytes (by_itself m s c) v = plain body value b v (record { no_mark = m; no_backslash = s; no_control = c })

value_more : (more body value : List ℕ) → Value body value → Value (body ++ flat_map spelled_byte more) (value ++ more)
value_more [] body value v = subst (λ bs. Value bs (value ++ [])) (sym (append-nil body)) (subst (Value body) (sym (append-nil value)) v)
value_more (b ∷ more) body value v =
    let rest = value_more more (body ++ spelled_byte b) (value ++ b ∷ []) (value_byte body value b (spelled_byte b) (byte_spelling b) v) in
    subst (λ bs. Value bs (value ++ b ∷ more)) (append_assoc body (spelled_byte b) (flat_map spelled_byte more))
    (subst (Value ((body ++ spelled_byte b) ++ flat_map spelled_byte more)) (append_assoc value (b ∷ []) more) rest)

-- the canonical spelling of a string's value is one of its spellings
pub value_spelled : (value : List ℕ) → Value (flat_map spelled_byte value) value
value_spelled value = value_more value [] [] empty

quoted-is : (value : List ℕ) → quoted value ≡ 34 ∷ (flat_map spelled_byte value ++ 34 ∷ [])
unfolding quoted
quoted-is value = refl

record PrintsAt (deep from : ℕ) (bytes : List ℕ) (items : List Sexp) (item : Sexp) : Type 0 where
  again : Sexp
  end : ℕ
  ended : Bool
  spells : Spells deep from end (bytes ++ spelled item) (items ++ again ∷ []) ended
  same : bare again ≡ bare item

-- after items that end in no word, the printed item spells one more
abbrev IsPrinted : Sexp → Type 0
IsPrinted item = (deep from at : ℕ) (bytes : List ℕ) (items : List Sexp) → Spells deep from at bytes items false → fits_at item deep ≡ true → PrintsAt deep from bytes items item

word_from : (bytes : List ℕ) → is_word bytes ≡ true → IsWord bytes
word_from [] h = cc
word_from (b ∷ bytes) h = record { some = λ e. cc; made_of = h }

word_printed : (at : Span) (text : List ℕ) → IsPrinted (sexp.Word at text)
word_printed at text deep from to bytes items before fits =
    let w = word_from text (sym (ap (λ f. f deep) (fits_at-Word at text)) ∙ fits) in
    record {
      again = sexp.Word (span to (to + length text)) text;
      end = to + length text;
      ended = true;
      spells = subst (λ bs. Spells deep from (to + length text) (bytes ++ bs) (items ++ sexp.Word (span to (to + length text)) text ∷ []) true) (sym (spelled-Word at text)) (a_word deep from to bytes items text before w);
      same = bare-Word (span to (to + length text)) text ∙ sym (bare-Word at text);
    }

string_printed : (at : Span) (value : List ℕ) → IsPrinted (sexp.Str at value)
string_printed at value deep from to bytes items before fits =
    let utf8 = IsUtf8-from_is_utf8 value (sym (ap (λ f. f deep) (fits_at-Str at value)) ∙ fits) in
    let body = flat_map spelled_byte value in
    let end = to + 1 + length body + 1 in
    record {
      again = sexp.Str (span to end) value;
      end = end;
      ended = false;
      spells = subst (λ bs. Spells deep from end (bytes ++ bs) (items ++ sexp.Str (span to end) value ∷ []) false) (sym (spelled-Str at value ∙ quoted-is value)) (a_string deep from to bytes items false body value before (value_spelled value) utf8);
      same = bare-Str (span to end) value ∙ sym (bare-Str at value);
    }

record PartsAt (deep from : ℕ) (bytes : List ℕ) (items parts : List Sexp) : Type 0 where
  again : List Sexp
  end : ℕ
  ended : Bool
  spells : Spells deep from end (bytes ++ join_with_byte 32 (map spelled parts)) (items ++ again) ended
  same : map bare again ≡ map bare parts

abbrev AllFit : ℕ → List Sexp → Type 0
AllFit deep parts = list_all (λ (part : ℕ → Bool). part deep) (map fits_at parts) ≡ true

parts_printed : (parts : List Sexp) → Each IsPrinted parts → (deep from at : ℕ) (bytes : List ℕ) (items : List Sexp) → Spells deep from at bytes items false → AllFit deep parts → PartsAt deep from bytes items parts
parts_printed [] each deep from at bytes items before fit = record {
  again = [];
  end = at;
  ended = false;
  spells = subst (λ bs. Spells deep from at bs (items ++ []) false) (sym (append-nil bytes)) (subst (λ all. Spells deep from at bytes all false) (sym (append-nil items)) before);
  same = refl;
}
parts_printed (part ∷ []) each deep from at bytes items before fit =
    let one = each.0 deep from at bytes items before (and_parts (fits_at part deep) true fit).0 in
    record { again = one.again ∷ []; end = one.end; ended = one.ended; spells = one.spells; same = ap (λ (p : Sexp). p ∷ []) one.same }
parts_printed (part ∷ next ∷ others) each deep from at bytes items before fit =
    let tests = and_parts (fits_at part deep) (list_all (λ (p : ℕ → Bool). p deep) (map fits_at (next ∷ others))) fit in
    let one = each.0 deep from at bytes items before tests.0 in
    let after = blank deep from one.end (bytes ++ spelled part) (items ++ one.again ∷ []) one.ended one.spells in
    let more = parts_printed (next ∷ others) each.1 deep from (one.end + 1) ((bytes ++ spelled part) ++ 32 ∷ []) (items ++ one.again ∷ []) after tests.1 in
    let rest = join_with_byte 32 (map spelled (next ∷ others)) in
    let text : ((bytes ++ spelled part) ++ 32 ∷ []) ++ rest ≡ bytes ++ (spelled part ++ 32 ∷ rest) = append_assoc (bytes ++ spelled part) (32 ∷ []) rest ∙ append_assoc bytes (spelled part) (32 ∷ rest) in
    record {
      again = one.again ∷ more.again;
      end = more.end;
      ended = more.ended;
      spells = subst (λ bs. Spells deep from more.end bs (items ++ one.again ∷ more.again) more.ended) text
          (subst (λ all. Spells deep from more.end (((bytes ++ spelled part) ++ 32 ∷ []) ++ rest) all more.ended) (append_assoc items (one.again ∷ []) more.again) more.spells);
      same = ap (λ (p : Sexp). p ∷ map bare more.again) one.same ∙ ap (λ (ps : List Sexp). bare part ∷ ps) more.same;
    }

list_printed : (at : Span) (parts : List Sexp) → Each IsPrinted parts → IsPrinted (sexp.List at parts)
list_printed at parts each deep from to bytes items before fits =
    let tests = and_parts (nat_lt deep MOST_DEPTH) (list_all (λ (p : ℕ → Bool). p (suc deep)) (map fits_at parts)) (sym (ap (λ f. f deep) (fits_at-List at parts)) ∙ fits) in
    let room_test : nat_lt deep MOST_DEPTH ≡ true = tests.0 in
    let room : deep < MOST_DEPTH = grind (arith, nat_tests) in
    let inside = parts_printed parts each (suc deep) (to + 1) (to + 1) [] [] (nothing (suc deep) (to + 1)) tests.1 in
    record {
      again = sexp.List (span to (inside.end + 1)) inside.again;
      end = inside.end + 1;
      ended = false;
      spells = subst (λ bs. Spells deep from (inside.end + 1) (bytes ++ bs) (items ++ sexp.List (span to (inside.end + 1)) inside.again ∷ []) false) (sym (spelled-List at parts))
          (a_list deep from to inside.end bytes (join_with_byte 32 (map spelled parts)) items inside.again false inside.ended before room inside.spells);
      same = bare-List (span to (inside.end + 1)) inside.again ∙ ap (sexp.List (span 0 0)) inside.same ∙ sym (bare-List at parts);
    }

item_printed : (item : Sexp) → IsPrinted item
item_printed item = items_ind IsPrinted word_printed string_printed list_printed item

-- an item that is well spelled is printed so that it is read back
pub reads_back : (item : Sexp) → IsWellSpelled item → ReadsBack (spelled item) item
reads_back item well =
    let one = item_printed item 0 0 0 [] [] (nothing 0 0) well in
    record { again = one.again; spells = record { to = one.end; ended = one.ended; spells = one.spells }; same = one.same }

-- a string is printed so that it is read back, with its places
pub string_back : (value : List ℕ) → IsUtf8 value → SpellsItems (quoted value) (sexp.Str (span 0 (length (quoted value))) value ∷ [])
string_back value utf8 =
    let body = flat_map spelled_byte value in
    let end : 0 + 1 + length body + 1 ≡ length (quoted value) = rw (quoted-is value) (simp length-append (omega arith)) in
    record {
      to = length (quoted value);
      ended = false;
      spells = subst (λ n. Spells 0 0 n (quoted value) (sexp.Str (span 0 n) value ∷ []) false) end
          (subst (λ bs. Spells 0 0 (0 + 1 + length body + 1) bs (sexp.Str (span 0 (0 + 1 + length body + 1)) value ∷ []) false) (sym (quoted-is value))
          (a_string 0 0 0 [] [] false body value (nothing 0 0) (value_spelled value) utf8));
    }
