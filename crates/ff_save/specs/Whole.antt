-- Which bytes are a saved text under a policy, and what else bytes are.
use Rattle.std.specs.Prelude.{◌≡◌, ◌≢◌, ◌≤◌, ℕ, Option, Some, None, All, List, [], ◌∷◌, length, codes}
use Rattle.std.specs.Str.{IsUtf8}
use Rattle.ff_io.specs.Cutting.{content, after_line}
use Rattle.ff_lattice.specs.Order.{size}
use Rattle.ff_policy.specs.Assignment.{Assignment}
use Rattle.ff_policy.specs.Printing.{printed}
use Rattle.ff_pool.specs.Pooled.{Pooled}
use Rattle.ff_pool.specs.Restored.{IsResting}
use Rattle.ff_forms.specs.Canonical.{word, string}
use Rattle.ff_text.specs.declared.reading.TheConstants.{MOST_BYTES}
use Rattle.ff_saved_rows.specs.Rows.{row_text, FitsLine}
use Rattle.ff_saved_rows.specs.declared.fault.SavedFault.{SavedFault}
use Rattle.ff_saved_rows.specs.declared.fault.SavedFault.TheVariants.{OtherPolicy, NotSaved}
use Rattle.ff_saved_rows.specs.declared.row.Row.{Row}
use Rattle.ff_saved_rows.specs.declared.row.Row.TheVariants.{Head, Policy}
use Rattle.ff_trace.specs.Printed.{joined}
use Rattle.ff_save.specs.Saved.{saved_recs, saved_rows, saved_text}
use Rattle.ff_save.specs.declared.read.TheConstants.{MOST_SAVED_BYTES}

-- A pool at rest whose saved text can be read: no line is too long or nests too deep, nor is the
-- text too long.
pub record IsWhole (p : Assignment) (pool : Pooled) : Type 0 where
  pub rests : IsResting (size p.order) p.fuel pool
  pub lines : All (FitsLine p.order) (saved_rows p (saved_recs pool))
  pub fits : length (saved_text p (saved_recs pool)) ≤ MOST_SAVED_BYTES

-- The bytes are the saved text of the pool, which is whole.
pub record IsSaved (p : Assignment) (bytes : List ℕ) (pool : Pooled) : Type 0 where
  pub whole : IsWhole p pool
  pub text : bytes ≡ saved_text p (saved_recs pool)

-- The first two lines are those of a saved text under a policy that is printed otherwise.
pub record IsOfOther (p : Assignment) (bytes : List ℕ) : Type 0 where
  pub text : List ℕ
  pub utf8 : IsUtf8 text
  pub short : length (row_text p.order (Policy text)) ≤ MOST_BYTES
  pub other : text ≢ printed p
  pub first : content bytes ≡ row_text p.order Head
  pub second : content (after_line bytes) ≡ row_text p.order (Policy text)

-- What is wrong with bytes.
abbrev pub HasFault : Assignment → List ℕ → SavedFault → Type 0
HasFault p bytes OtherPolicy = IsOfOther p bytes
HasFault p bytes NotSaved = ¬ IsOfOther p bytes × ((pool : Pooled) → ¬ IsSaved p bytes pool)

-- the one pool whose text the bytes are, or none where they are that of none
pub record IsOnly (p : Assignment) (bytes : List ℕ) (pool : Pooled) : Type 0 where
  pub saved : IsSaved p bytes pool
  pub only : (other : Pooled) → IsSaved p bytes other → pool ≡ other

abbrev pub IsPoolOf : Assignment → List ℕ → Option Pooled → Type 0
IsPoolOf p bytes None = (pool : Pooled) → ¬ IsSaved p bytes pool
IsPoolOf p bytes (Some pool) = IsOnly p bytes pool

-- the row of a policy, as it is printed
abbrev pub policy_line : List ℕ → List ℕ
policy_line text = joined (word (codes "policy") ∷ string text ∷ [])

-- the text of a policy whose row the line is, or none where it is that of none
pub record IsPolicyLine (line text : List ℕ) : Type 0 where
  pub utf8 : IsUtf8 text
  pub short : length (policy_line text) ≤ MOST_BYTES
  pub line_is : line ≡ policy_line text

abbrev pub TellsPolicy : List ℕ → Option (List ℕ) → Type 0
TellsPolicy line None = (text : List ℕ) → ¬ IsPolicyLine line text
TellsPolicy line (Some text) = IsPolicyLine line text

-- the same where the line was read as a row
abbrev pub IsPrintedPolicy : Row → List ℕ → Option (List ℕ) → Type 0
IsPrintedPolicy row line None = (text : List ℕ) → row ≡ Policy text → line ≢ policy_line text
IsPrintedPolicy row line (Some text) = (row ≡ Policy text) × IsUtf8 text × (line ≡ policy_line text)
