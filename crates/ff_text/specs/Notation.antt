-- What bytes spell, as relations that grow to the right: what was read, and then one thing more.
use Rattle.std.specs.Prelude.{◌≡◌, ◌≢◌, ◌<◌, ◌+◌, ◌*◌, ℕ, Bool, true, false, List, [], ◌∷◌, ◌++◌, length, IsTrue, nat_lt, if◌then◌else◌, suc}
use Rattle.std.specs.List.{list_all}
use Rattle.std.specs.Str.{IsUtf8}
use Rattle.std.specs.Char.{is_ascii_control}
use Rattle.ff_text.specs.Bytes.{is_word_byte}
use Rattle.ff_text.specs.declared.items.Span.{Span}
use Rattle.ff_text.specs.declared.items.Sexp.{Sexp}
use Rattle.ff_text.specs.declared.items.Sexp.TheVariants.{Word, Str, List as Parens}
use Rattle.ff_name.specs.declared.limits.TheConstants.{MOST_DEPTH}

abbrev pub span : ℕ → ℕ → Span
span from to = record { from = from; to = to }

-- a word has one byte or more
pub record IsWord (bytes : List ℕ) : Type 0 where
  pub some : bytes ≢ []
  pub made_of : IsTrue (list_all is_word_byte bytes)

-- the lower-case hexadecimal digit of a number below 16
abbrev pub hex_digit : ℕ → ℕ
hex_digit n = if nat_lt n 10 then 48 + n else 87 + n

-- what may follow a backslash, and the byte that the two stand for
pub data Escape : List ℕ → ℕ → Type 0 where
  mark : Escape (34 ∷ []) 34
  backslash : Escape (92 ∷ []) 92
  newline : Escape (110 ∷ []) 10
  tab : Escape (116 ∷ []) 9
  hex : (high low : ℕ) → high < 8 → low < 16 → Escape (120 ∷ hex_digit high ∷ hex_digit low ∷ []) (16 * high + low)

-- a byte that stands for itself in a string
pub record IsPlain (b : ℕ) : Type 0 where
  pub no_mark : b ≢ 34
  pub no_backslash : b ≢ 92
  pub no_control : is_ascii_control b ≡ false

-- the bytes between the marks of a string, and its value
pub data Value : List ℕ → List ℕ → Type 0 where
  empty : Value [] []
  plain : (body value : List ℕ) (b : ℕ) → Value body value → IsPlain b → Value (body ++ b ∷ []) (value ++ b ∷ [])
  escaped : (body value escape : List ℕ) (b : ℕ) → Value body value → Escape escape b → Value (body ++ 92 ∷ escape) (value ++ b ∷ [])

-- Bytes that begin at one place, inside so many open lists, end before another place, and spell
-- items with their places. The last index says whether they end in a word: between two words stands
-- a blank.
pub data Spells : (deep from to : ℕ) → List ℕ → List Sexp → Bool → Type 0 where
  nothing : (deep from : ℕ) → Spells deep from from [] [] false
  blank : (deep from to : ℕ) (bytes : List ℕ) (items : List Sexp) (ended : Bool) → Spells deep from to bytes items ended → Spells deep from (to + 1) (bytes ++ 32 ∷ []) items false
  a_word : (deep from to : ℕ) (bytes : List ℕ) (items : List Sexp) (word : List ℕ) → Spells deep from to bytes items false → IsWord word → Spells deep from (to + length word) (bytes ++ word) (items ++ Word (span to (to + length word)) word ∷ []) true
  a_string : (deep from to : ℕ) (bytes : List ℕ) (items : List Sexp) (ended : Bool) (body value : List ℕ) → Spells deep from to bytes items ended → Value body value → IsUtf8 value → Spells deep from (to + 1 + length body + 1) (bytes ++ (34 ∷ (body ++ 34 ∷ []))) (items ++ Str (span to (to + 1 + length body + 1)) value ∷ []) false
  a_list : (deep from to close : ℕ) (bytes inner : List ℕ) (items parts : List Sexp) (ended inner_ended : Bool) → Spells deep from to bytes items ended → deep < MOST_DEPTH → Spells (suc deep) (to + 1) close inner parts inner_ended → Spells deep from (close + 1) (bytes ++ (40 ∷ (inner ++ 41 ∷ []))) (items ++ Parens (span to (close + 1)) parts ∷ []) false

-- the whole of a text spells the items
pub record SpellsItems (bytes : List ℕ) (items : List Sexp) : Type 0 where
  pub to : ℕ
  pub ended : Bool
  pub spells : Spells 0 0 to bytes items ended
