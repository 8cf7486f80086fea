-- Places where a text may be cut.
use Rattle.std.proofs.Common.{◌≡◌, ◌==◌, ◌&&◌, ◌||◌, ℕ, ℤ, Bool, true, nat_abs, nat_le, nat_lt, List, length, slice_index, arith}
use Rattle.std.specs.Str.{IsCharBoundary}
use Rattle.std.proofs.lemmas.Bool.Decides.{nat_tests}
use Rattle.ff_operators.specs.Pure.{is_place}

within_place : (t : Bool) (text : List ℕ) (i : ℕ) → (t && nat_le i (length text) && (i == length text || nat_lt (slice_index text i) 128 || nat_le 192 (slice_index text i))) ≡ true
    → IsCharBoundary text i
within_place t text i h = (grind (arith, nat_tests), λ inside high. grind (arith, nat_tests))

-- no character goes over a place
pub boundary : (text : List ℕ) (n : ℤ) (i : ℕ) → is_place text n ≡ true → i ≡ nat_abs n → IsCharBoundary text i
boundary text n i h e = rw e (within_place _ text (nat_abs n) h)
