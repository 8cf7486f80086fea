-- The canonical spelling of items.
use Rattle.std.specs.Prelude.{◌≡◌, ◌/◌, ◌%◌, ℕ, suc, Bool, false, ◌&&◌, ◌==◌, nat_lt, if◌then◌else◌, List, [], ◌∷◌, ◌++◌, map, IsTrue}
use Rattle.std.specs.List.{list_all, flat_map, join_with_byte}
use Rattle.std.specs.Str.{is_utf8}
use Rattle.std.specs.Char.{is_ascii_control}
use Rattle.ff_text.specs.Bytes.{is_word_byte}
use Rattle.ff_text.specs.Notation.{span, hex_digit, SpellsItems}
use Rattle.ff_text.specs.declared.items.Sexp.{Sexp}
use Rattle.ff_text.specs.declared.items.Sexp.TheVariants as sexp
use Rattle.ff_text.specs.declared.items.Sexp.TheOpen.{Sexp-F}
use Rattle.ff_text.specs.declared.items.Sexp.TheFolds.{fold-Sexp}
use Rattle.ff_name.specs.declared.limits.TheConstants.{MOST_DEPTH}

-- a byte of a string's value: four have short escapes, the other control bytes have `\x` and two
-- digits
abbrev pub spelled_byte : ℕ → List ℕ
spelled_byte b =
    if b == 34 then 92 ∷ 34 ∷ []
    else if b == 92 then 92 ∷ 92 ∷ []
    else if b == 10 then 92 ∷ 110 ∷ []
    else if b == 9 then 92 ∷ 116 ∷ []
    else if is_ascii_control b then 92 ∷ 120 ∷ hex_digit (b / 16) ∷ hex_digit (b % 16) ∷ []
    else b ∷ []

-- a string, between its marks
unfoldable pub quoted : List ℕ → List ℕ
quoted value = 34 ∷ (flat_map spelled_byte value ++ 34 ∷ [])

-- an item: one blank stands between the items of a list, and none beside its parentheses
abbrev pub spelled_step : Sexp-F (List ℕ) → List ℕ
spelled_step (Sexp-F.Word at text) = text
spelled_step (Sexp-F.Str at value) = quoted value
spelled_step (Sexp-F.List at parts) = 40 ∷ (join_with_byte 32 parts ++ 41 ∷ [])

abbrev pub spelled : Sexp → List ℕ
spelled = fold-Sexp (List ℕ) spelled_step

-- an item with no places
abbrev pub bare_step : Sexp-F Sexp → Sexp
bare_step (Sexp-F.Word at text) = sexp.Word (span 0 0) text
bare_step (Sexp-F.Str at value) = sexp.Str (span 0 0) value
bare_step (Sexp-F.List at parts) = sexp.List (span 0 0) parts

abbrev pub bare : Sexp → Sexp
bare = fold-Sexp Sexp bare_step

-- whether an item that stands in so many lists is well spelled: its words are words, its strings
-- are UTF-8, and its lists nest no more than so deep
abbrev pub is_word : List ℕ → Bool
is_word [] = false
is_word (b ∷ bytes) = list_all is_word_byte (b ∷ bytes)

abbrev pub fits_step : Sexp-F (ℕ → Bool) → ℕ → Bool
fits_step (Sexp-F.Word at text) deep = is_word text
fits_step (Sexp-F.Str at value) deep = is_utf8 value
fits_step (Sexp-F.List at parts) deep = nat_lt deep MOST_DEPTH && list_all (λ part. part (suc deep)) parts

abbrev pub fits_at : Sexp → ℕ → Bool
fits_at = fold-Sexp (ℕ → Bool) fits_step

abbrev pub IsWellSpelled : Sexp → Type 0
IsWellSpelled item = IsTrue (fits_at item 0)

abbrev pub AreWellSpelled : List Sexp → Type 0
AreWellSpelled items = IsTrue (list_all (λ (part : ℕ → Bool). part 0) (map fits_at items))

-- the bytes are read as the item in all but the places
pub record ReadsBack (bytes : List ℕ) (item : Sexp) : Type 0 where
  pub again : Sexp
  pub spells : SpellsItems bytes (again ∷ [])
  pub same : bare again ≡ bare item

-- what stands before the item at a place
abbrev pub blank_before : ℕ → List ℕ
blank_before at = if at == 0 then [] else 32 ∷ []
