-- Bytes are cut after their first newline (10).
use Rattle.std.specs.Prelude.{◌≡◌, ℕ, ◌+◌, ◌<◌, ◌≤◌, ◌==◌, Bool, true, false, cond, ◌⊎◌, List, [], ◌∷◌, length}
use Rattle.ff_io.specs.declared.lines.TheConstants.{MOST_LINE_BYTES, MOST_TRACE_BYTES}

-- whether one of the bytes is a newline
abbrev pub has_newline : List ℕ → Bool
has_newline [] = false
has_newline (b ∷ bs) = cond (b == 10) true (has_newline bs)

-- the bytes before the first newline; all of them where there is none
abbrev pub content : List ℕ → List ℕ
content [] = []
content (b ∷ bs) = cond (b == 10) [] (b ∷ content bs)

-- the bytes after the first newline; none where there is none
abbrev pub after_line : List ℕ → List ℕ
after_line [] = []
after_line (b ∷ bs) = cond (b == 10) bs (after_line bs)

-- how many bytes the first line has, with its newline where it has one
abbrev pub line_size : List ℕ → ℕ
line_size bytes = length (content bytes) + cond (has_newline bytes) 1 0

-- the bytes begin with a line, which a newline ends, or the end of the trace after some bytes
abbrev pub HasLine : Bool → List ℕ → Type 0
HasLine ended bytes = (has_newline bytes ≡ true) ⊎ ((ended ≡ true) × (0 < length bytes))

-- A line of `size` bytes that begins after `start` bytes of the trace has more bytes than a line
-- may have, and its first byte too many is one that the trace may have.
pub record IsTooLong (start size : ℕ) : Type 0 where
  pub over : MOST_LINE_BYTES < size
  pub first : start + MOST_LINE_BYTES < MOST_TRACE_BYTES

-- The trace has more bytes than it may have, counted to the end of this line, its newline among
-- them; and it isn't so that the line is too long by an earlier byte.
pub record IsTooMuch (start size end : ℕ) : Type 0 where
  pub over : MOST_TRACE_BYTES < end
  pub first : ¬ IsTooLong start size

-- A line has no more bytes than it may have, nor has the trace to its end.
pub record Fits (size end : ℕ) : Type 0 where
  pub short : size ≤ MOST_LINE_BYTES
  pub within : end ≤ MOST_TRACE_BYTES

-- The bytes hold no whole line, more may come, and what they hold fits.
pub record IsUnfinished (start : ℕ) (bytes : List ℕ) (ended : Bool) : Type 0 where
  pub no_line : has_newline bytes ≡ false
  pub open_yet : ended ≡ false
  pub fits : Fits (length bytes) (start + length bytes)
