-- A domain is the parts of its bytes between the dots.
use Rattle.std.proofs.Common.{◌≡◌, ◌≢◌, ℕ, ◌≤◌, true, false, List, [], ◌∷◌, length, ◌==◌, arith, refl, sym, ap, ◌∙◌, subst}
use Rattle.std.specs.List.{list_all, All, join_with_byte, slice_split}
use Rattle.std.proofs.lemmas.List.Splits.{slice_split_none, slice_split_at, length-slice_split, join_with_byte-slice_split}
use Rattle.std.proofs.lemmas.Bool.{and_parts}
use Rattle.std.proofs.lemmas.Bool.Decides.{nat_tests}
use Rattle.ff_name.specs.Spelling.{IsDomain, is_label, stands_in_label}
use Rattle.ff_name.specs.declared.domains.TheConstants.{MOST_DOMAIN_BYTES}
use Rattle.ff_name.proofs.Ascii.{All-from_test, label_bytes}

dotless_byte : (b : ℕ) → stands_in_label b ≡ true → (b == 46) ≡ false
dotless_byte b h = grind (arith, nat_tests)

dotless : (label : List ℕ) → is_label label ≡ true → All (λ b. (b == 46) ≡ false) label
dotless label h = All-from_test stands_in_label (λ b. (b == 46) ≡ false) dotless_byte label (label_bytes label h)

-- the parts of labels that are joined by dots are the labels
slice_split-joined : (labels : List (List ℕ)) → labels ≢ [] → list_all is_label labels ≡ true → slice_split (λ b. b == 46) (join_with_byte 46 labels) ≡ labels
slice_split-joined [] some h = absurd (some refl)
slice_split-joined (label ∷ []) some h = slice_split_none (λ b. b == 46) label (dotless label (and_parts _ _ h).0)
slice_split-joined (label ∷ next ∷ rest) some h =
    let parts = and_parts (is_label label) (list_all is_label (next ∷ rest)) h in
    slice_split_at (λ b. b == 46) label 46 (join_with_byte 46 (next ∷ rest)) (dotless label parts.0) refl
    ∙ ap (λ more. label ∷ more) (slice_split-joined (next ∷ rest) (λ e. cc) parts.1)

some_part : (bytes : List ℕ) → slice_split (λ b. b == 46) bytes ≢ []
some_part bytes e = let n : length (slice_split (λ b. b == 46) bytes) ≡ 0 = ap length e in omega (arith, length-slice_split (λ b. b == 46) bytes)

-- bytes are a domain exactly where they are short and each part between the dots is a label
pub IsDomain-from_parts : (bytes : List ℕ) → length bytes ≤ MOST_DOMAIN_BYTES → list_all is_label (slice_split (λ b. b == 46) bytes) ≡ true → IsDomain bytes
IsDomain-from_parts bytes short h = record {
  labels = slice_split (λ b. b == 46) bytes;
  some = some_part bytes;
  each = h;
  joined = sym (join_with_byte-slice_split 46 bytes);
  short = short;
}

pub parts_from_IsDomain : (bytes : List ℕ) → IsDomain bytes → list_all is_label (slice_split (λ b. b == 46) bytes) ≡ true
parts_from_IsDomain bytes h =
    subst (λ bs. list_all is_label (slice_split (λ b. b == 46) bs) ≡ true) (sym h.joined)
    (subst (λ ls. list_all is_label ls ≡ true) (sym (slice_split-joined h.labels h.some h.each)) h.each)
