-- The bytes of a trace are read, where each line gives something: some items up to a first bad
-- line, or to their end.
use Rattle.std.proofs.Common.{◌≡◌, ℕ, zero, suc, ◌+◌, ◌==◌, ◌<◌, ◌≤◌, ◌⊎◌, inl, inr, Bool, true, false, cond, Option, Some, None, Result, Ok, Err, List, [], ◌∷◌, length, refl, ap, arith}
use Rattle.std.proofs.lemmas.Bool.{cases_lt, false≢true}
use Rattle.ff_io.specs.declared.lines.TheConstants.{MOST_LINE_BYTES, MOST_TRACE_BYTES}
use Rattle.ff_io.specs.Cutting.{has_newline, content, after_line, line_size, HasLine, Fits}
use Rattle.ff_io.proofs.CuttingLemmas.{content-none}
use Rattle.ff_stream.specs.Traces.{Reads, at_end, unfinished, good_line, bad_line, too_long, too_much, IsTrace, onto}
use Rattle.ff_stream.specs.declared.end.BadLine.{BadLine}
use Rattle.ff_stream.specs.declared.end.Fault.TheVariants as fault

no_bytes : (bytes : List ℕ) → length bytes ≤ 0 → bytes ≡ []
no_bytes [] none = refl
no_bytes (b ∷ bytes) none = absurd (omega arith)

newline_some : (bytes : List ℕ) → has_newline bytes ≡ true → 0 < length bytes
newline_some [] has = absurd (false≢true has)
newline_some (b ∷ bytes) has = omega arith

cut_length : (b : Bool) (bytes rest : List ℕ) → length rest ≤ length bytes → length (cond b bytes rest) ≤ length bytes
cut_length true bytes rest less = omega arith
cut_length false bytes rest less = less

after_least : (bytes : List ℕ) → length (after_line bytes) ≤ length bytes
after_least [] = omega arith
after_least (b ∷ bytes) = let least = cut_length (b == 10) bytes (after_line bytes) (after_least bytes) in omega (arith, least)

after_shorter : (bytes : List ℕ) → 0 < length bytes → length (after_line bytes) < length bytes
after_shorter [] some = absurd (omega arith)
after_shorter (b ∷ bytes) some = let least = cut_length (b == 10) bytes (after_line bytes) (after_least bytes) in omega (arith, least)

module _ {X F : Type 0} {Gives : List ℕ → Result (Option X) F → Type 0} (some : (line : List ℕ) → (answer : Result (Option X) F) × Gives line answer) (ended : Bool) where
  abbrev AreRead : ℕ → ℕ → List ℕ → Type 0
  AreRead number start bytes = (items : List X) × (bad : Option (BadLine F)) × Reads Gives ended number start bytes items bad

  module _ (number start : ℕ) (bytes : List ℕ) (rest : 0 < length bytes → (number start : ℕ) → AreRead number start (after_line bytes)) where
    by_answer : HasLine ended bytes → 0 < length bytes → Fits (length (content bytes)) (start + line_size bytes) → (answer : Result (Option X) F) → Gives (content bytes) answer → AreRead number start bytes
    by_answer line long fits (Ok item) gives =
        let more = rest long (number + 1) (start + line_size bytes) in
        (onto item more.0, more.1, good_line number start bytes item more.0 more.1 line fits gives more.2)
    by_answer line long fits (Err which) gives = ([], Some (record { number = number; fault = fault.Line which }), bad_line number start bytes which line fits gives)

    by_line : HasLine ended bytes → 0 < length bytes → Fits (length (content bytes)) (start + line_size bytes) → AreRead number start bytes
    by_line line long fits = let given = some (content bytes) in by_answer line long fits given.0 given.1

    by_end : Fits (length (content bytes)) (start + line_size bytes) → has_newline bytes ≡ false → (last : Bool) → ended ≡ last → (0 < length bytes) ⊎ (length bytes ≤ 0) → AreRead number start bytes
    by_end fits bare true over (inl long) = by_line (inr (over, long)) long fits
    by_end fits bare true over (inr none) = ([], None, at_end number start bytes over (no_bytes bytes none))
    by_end fits bare false over size =
        let same : length (content bytes) ≡ length bytes = ap length (content-none bytes bare) in
        let all : line_size bytes ≡ length (content bytes) + 0 = ap (λ t. length (content bytes) + cond t 1 0) bare in
        let short = fits.short in
        let within = fits.within in
        ([], None, unfinished number start bytes (record { no_line = bare; open_yet = over; fits = record { short = omega arith; within = omega arith } }))

    by_newline : Fits (length (content bytes)) (start + line_size bytes) → (has : Bool) → has_newline bytes ≡ has → AreRead number start bytes
    by_newline fits true is = by_line (inl is) (newline_some bytes is) fits
    by_newline fits false is = by_end fits is ended refl (cases_lt 0 (length bytes))

    by_size : (MOST_LINE_BYTES < length (content bytes)) ⊎ (length (content bytes) ≤ MOST_LINE_BYTES) → (start + MOST_LINE_BYTES < MOST_TRACE_BYTES) ⊎ (MOST_TRACE_BYTES ≤ start + MOST_LINE_BYTES)
        → (MOST_TRACE_BYTES < start + line_size bytes) ⊎ (start + line_size bytes ≤ MOST_TRACE_BYTES) → AreRead number start bytes
    by_size (inl long) (inl before) end = ([], Some (record { number = number; fault = fault.TooLong }), too_long number start bytes (record { over = long; first = before }))
    by_size (inl long) (inr behind) (inl much) = ([], Some (record { number = number; fault = fault.TooMuch }), too_much number start bytes (record { over = much; first = λ other. let first = other.first in omega arith }))
    by_size (inl long) (inr behind) (inr within) = absurd (omega arith)
    by_size (inr short) place (inl much) = ([], Some (record { number = number; fault = fault.TooMuch }), too_much number start bytes (record { over = much; first = λ other. let over = other.over in omega arith }))
    by_size (inr short) place (inr within) = by_newline (record { short = short; within = within }) (has_newline bytes) refl

    read_first : AreRead number start bytes
    read_first = by_size (cases_lt MOST_LINE_BYTES (length (content bytes))) (cases_lt (start + MOST_LINE_BYTES) MOST_TRACE_BYTES) (cases_lt MOST_TRACE_BYTES (start + line_size bytes))

  reads_within : (n number start : ℕ) (bytes : List ℕ) → length bytes ≤ n → AreRead number start bytes
  reads_within zero number start bytes within = read_first number start bytes (λ long. absurd (omega arith))
  reads_within (suc n) number start bytes within =
      read_first number start bytes (λ long number start. let shorter = after_shorter bytes long in reads_within n number start (after_line bytes) (omega arith))

  pub trace_some : (bytes : List ℕ) → (items : List X) × (bad : Option (BadLine F)) × IsTrace Gives ended bytes items bad
  trace_some bytes = reads_within (length bytes) 1 0 bytes (omega arith)
