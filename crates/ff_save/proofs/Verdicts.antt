-- What bytes are by the pool that was made of them, or by what they are the text of no pool.
use Rattle.std.proofs.Common.{◌≡◌, ◌≤◌, ℕ, true, ◌&&◌, Option, Some, None, List, [], ◌∷◌, ◌++◌, length, codes, refl, sym, ap, subst, ◌∙◌}
use Rattle.std.specs.Str.{IsUtf8}
use Rattle.std.proofs.lemmas.Bool.{and_parts}
use Rattle.std.proofs.lemmas.List.Elements.{All-head, All-tail}
use Rattle.std.proofs.lemmas.Str.{IsUtf8-from_is_utf8}
use Rattle.ff_forms.specs.Canonical.{word, string}
use Rattle.ff_io.specs.Cutting.{content, after_line}
use Rattle.ff_lattice.specs.Order.{size}
use Rattle.ff_policy.specs.Assignment.{Assignment, IsAssignment}
use Rattle.ff_policy.specs.Printing.{printed}
use Rattle.ff_pool.specs.Pooled.{Pooled}
use Rattle.ff_pool.specs.Restored.{IsResting}
use Rattle.ff_records.specs.Restored.{Restores}
use Rattle.ff_text.specs.Printed.{fits_at}
use Rattle.ff_text.specs.Notation.{span}
use Rattle.ff_text.proofs.Layers.{fits_at-Str}
use Rattle.ff_saved_rows.specs.Rows.{row_text, FitsLine}
use Rattle.ff_saved_rows.specs.declared.fault.SavedFault.{SavedFault}
use Rattle.ff_saved_rows.specs.declared.fault.SavedFault.TheVariants.{OtherPolicy, NotSaved}
use Rattle.ff_saved_rows.specs.declared.row.Row.{Row}
use Rattle.ff_saved_rows.specs.declared.row.Row.TheVariants as row
use Rattle.ff_save.specs.Gathered.{Gathered, saved_of}
use Rattle.ff_save.specs.Holding.{Held, Holds, HasText, Gathers}
use Rattle.ff_save.specs.Saved.{classes_rows, saved_recs, saved_rows, saved_text}
use Rattle.ff_save.specs.Whole.{HasFault, IsSaved, IsOnly, IsOfOther}
use Rattle.ff_save.specs.declared.read.TheConstants.{MOST_SAVED_BYTES}
use Rattle.ff_save.proofs.OtherPolicy.{policies_once}
use Rattle.ff_save.proofs.Saving.{good, no_pool, one_pool, none_restored, another, the_pool}
use Rattle.ff_save.proofs.SameText.{all_fit}
use Rattle.ff_save.proofs.Texts.{first_line, later_lines}

module _ (p : Assignment) (valid : IsAssignment p) (utf8 : IsUtf8 (printed p)) (bytes : List ℕ) where
  -- no lines of a saved text
  pub no_lines : (found : Option Held) → Gathers p.order p.fuel bytes found → found ≡ None → (pool : Pooled) → ¬ IsSaved p bytes pool
  no_lines found gathers none = no_pool p valid.draft.order_is utf8 bytes (subst (Gathers p.order p.fuel bytes) none gathers)

  module _ (found : Option Held) (held : Held) (gathers : Gathers p.order p.fuel bytes found) (is : found ≡ Some held) where
    text : HasText p.order p.fuel bytes held
    text = subst (Gathers p.order p.fuel bytes) is gathers

    module _ (n : ℕ) (n_is : n ≡ size p.order) (made : Option Pooled) (restores : (g : Gathered) → Holds held.fuel g held → Restores (IsResting n held.fuel) saved_recs (saved_of g) made) where
      restored : Restores (IsResting (size p.order) p.fuel) saved_recs (saved_of text.all) made
      restored =
          subst (λ m. Restores (IsResting m p.fuel) saved_recs (saved_of text.all) made) n_is
          (subst (λ f. Restores (IsResting n f) saved_recs (saved_of text.all) made) text.holds.fuel_is
          (restores text.all (subst (λ f. Holds f text.all held) (sym text.holds.fuel_is) text.holds)))

      -- no pool
      pub not_made : made ≡ None → (pool : Pooled) → ¬ IsSaved p bytes pool
      not_made none = none_restored p valid.draft.order_is utf8 bytes held text (subst (Restores (IsResting (size p.order) p.fuel) saved_recs (saved_of text.all)) none restored)

      -- a pool
      module _ (pool : Pooled) (some : made ≡ Some pool) where
        rests_with : IsResting (size p.order) p.fuel pool × (saved_recs pool ≡ saved_of text.all)
        rests_with = subst (Restores (IsResting (size p.order) p.fuel) saved_recs (saved_of text.all)) some restored

        pub made_rests : IsResting (size p.order) p.fuel pool
        made_rests = rests_with.0

        pub is_the_pool : length bytes ≤ MOST_SAVED_BYTES → bytes ≡ saved_text p (saved_recs pool) → IsOnly p bytes pool
        is_the_pool few same = the_pool p valid.draft.order_is utf8 bytes held text pool rests_with.0 rests_with.1 few same

        pub is_another : (bytes ≡ saved_text p (saved_recs pool) → ⊥) → (other : Pooled) → ¬ IsSaved p bytes other
        is_another differs = another p valid.draft.order_is utf8 bytes held text pool rests_with.0 rests_with.1 differs

-- what the policy is printed as in a saved text is UTF-8
printed_utf8 : (p : Assignment) (bytes : List ℕ) (pool : Pooled) → IsSaved p bytes pool → IsUtf8 (printed p)
printed_utf8 p bytes pool saved =
    let recs = saved_recs pool in
    let rest : List Row = classes_rows recs.classes recs.browsers ++ row.End ∷ [] in
    let fits = All-head (FitsLine p.order) (row.Policy (printed p)) rest (All-tail (FitsLine p.order) row.Head (row.Policy (printed p) ∷ rest) saved.whole.lines) in
    let parts = and_parts (fits_at (word (codes "policy")) 0) (fits_at (string (printed p)) 0 && true) fits.nested in
    let last = and_parts (fits_at (string (printed p)) 0) true parts.1 in
    IsUtf8-from_is_utf8 (printed p) (sym (ap (λ f. f 0) (fits_at-Str (span 0 0) (printed p))) ∙ last.0)

-- a pool at rest whose text is a saved text can be read as that text can
whole_too : (p : Assignment) (bytes : List ℕ) (pool other : Pooled) → IsAssignment p → IsSaved p bytes pool → IsResting (size p.order) p.fuel other → bytes ≡ saved_text p (saved_recs other) → IsSaved p bytes other
whole_too p bytes pool other valid saved rests same = record {
  whole = record {
    rests = rests;
    lines = all_fit p.order (saved_rows p (saved_recs other)) (saved_rows p (saved_recs pool)) (sym same ∙ saved.text) (good p valid.draft.order_is (printed_utf8 p bytes pool saved) other rests) saved.whole.lines;
    fits = subst (λ bs. length bs ≤ MOST_SAVED_BYTES) (sym saved.text ∙ same) saved.whole.fits;
  };
  text = same;
}

-- and is the pool of that text: bytes are the saved text of at most one pool
pub one_saved : (p : Assignment) (bytes : List ℕ) (a b : Pooled) → IsAssignment p → IsSaved p bytes a → IsResting (size p.order) p.fuel b → bytes ≡ saved_text p (saved_recs b) → a ≡ b
one_saved p bytes a b valid saved rests same = one_pool p valid.draft.order_is (printed_utf8 p bytes a saved) bytes a b saved (whole_too p bytes a b valid saved rests same)

-- a saved text isn't that of another policy
pub saved_own : (p : Assignment) (bytes : List ℕ) (pool : Pooled) → IsUtf8 (printed p) → IsSaved p bytes pool → ¬ IsOfOther p bytes
saved_own p bytes pool utf8 saved other =
    let recs = saved_recs pool in
    let rest : List Row = classes_rows recs.classes recs.browsers ++ row.End ∷ [] in
    let head_fits = All-head (FitsLine p.order) row.Head (row.Policy (printed p) ∷ rest) saved.whole.lines in
    let policy_fits = All-head (FitsLine p.order) (row.Policy (printed p)) rest (All-tail (FitsLine p.order) row.Head (row.Policy (printed p) ∷ rest) saved.whole.lines) in
    let second : content (after_line bytes) ≡ row_text p.order (row.Policy (printed p)) =
    ap (λ bs. content (after_line bs)) saved.text
    ∙ ap content (later_lines p.order row.Head (row.Policy (printed p) ∷ rest) head_fits.nested)
    ∙ first_line p.order (row.Policy (printed p)) rest policy_fits.nested in
    other.other (policies_once p.order other.text (printed p) other.utf8 utf8 other.short (sym other.second ∙ second))

-- ---- one verdict

-- bytes that are no state and no state of another policy are at fault for that
pub some_verdict : (p : Assignment) (bytes : List ℕ) → ¬ (((pool : Pooled) → ¬ IsSaved p bytes pool) × ((fault : SavedFault) → ¬ HasFault p bytes fault))
some_verdict p bytes neither = neither.1 NotSaved (neither.1 OtherPolicy, neither.0)

-- a state has no fault
pub saved_faultless : (p : Assignment) (bytes : List ℕ) (pool : Pooled) (fault : SavedFault) → IsSaved p bytes pool → ¬ HasFault p bytes fault
saved_faultless p bytes pool OtherPolicy saved other = saved_own p bytes pool (printed_utf8 p bytes pool saved) saved other
saved_faultless p bytes pool NotSaved saved none = none.1 pool saved

-- and no bytes have two
pub one_fault : (p : Assignment) (bytes : List ℕ) (a b : SavedFault) → HasFault p bytes a → HasFault p bytes b → a ≡ b
one_fault p bytes OtherPolicy OtherPolicy first second = refl
one_fault p bytes OtherPolicy NotSaved first second = absurd (second.0 first)
one_fault p bytes NotSaved OtherPolicy first second = absurd (first.0 second)
one_fault p bytes NotSaved NotSaved first second = refl
