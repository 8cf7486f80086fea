-- How names and domains are spelled, in bytes of ASCII.
use Rattle.std.specs.Prelude.{◌≡◌, ◌≢◌, ◌≤◌, ◌-◌, ℕ, Bool, false, ◌||◌, ◌&&◌, not, ◌==◌, nat_le, List, [], ◌∷◌, length, slice_index, IsTrue}
use Rattle.std.specs.List.{list_all, join_with_byte}
use Rattle.std.specs.Char.{is_ascii_alphabetic, is_ascii_alphanumeric, is_ascii_lowercase, is_ascii_digit}
use Rattle.ff_name.specs.declared.domains.TheConstants.{MOST_DOMAIN_BYTES, MOST_LABEL_BYTES}
use Rattle.ff_name.specs.declared.names.TheConstants.{MOST_NAME_BYTES}

-- a letter or `_`
abbrev pub begins_name : ℕ → Bool
begins_name b = is_ascii_alphabetic b || b == 95

-- a letter, a digit, `_` or `-`
abbrev pub stands_in_name : ℕ → Bool
stands_in_name b = is_ascii_alphanumeric b || b == 95 || b == 45

-- a letter or `_`, and then letters, digits, `_` and `-`
abbrev pub is_named : List ℕ → Bool
is_named [] = false
is_named (first ∷ rest) = begins_name first && list_all stands_in_name rest

-- a name, which has no more than so many bytes
abbrev pub IsName : List ℕ → Type 0
IsName bytes = IsTrue (is_named bytes) × (length bytes ≤ MOST_NAME_BYTES)

-- a lower-case letter, a digit or `-`
abbrev pub stands_in_label : ℕ → Bool
stands_in_label b = is_ascii_lowercase b || is_ascii_digit b || b == 45

-- a label of a domain: 1 or more such bytes, of which neither the first nor the last is `-`
abbrev pub is_label : List ℕ → Bool
is_label label =
    list_all stands_in_label label && nat_le 1 (length label) && nat_le (length label) MOST_LABEL_BYTES
    && not (slice_index label 0 == 45) && not (slice_index label (length label - 1) == 45)

-- a domain: labels joined by dots, no more than so many bytes in all
pub record IsDomain (bytes : List ℕ) : Type 0 where
  pub labels : List (List ℕ)
  pub some : labels ≢ []
  pub each : IsTrue (list_all is_label labels)
  pub joined : bytes ≡ join_with_byte 46 labels
  pub short : length bytes ≤ MOST_DOMAIN_BYTES
