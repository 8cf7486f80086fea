-- A trace that is cut after a newline: the lines of both parts are those of the whole.
use Rattle.std.proofs.Common.{◌≡◌, ℕ, suc, ◌+◌, ◌≤◌, ◌==◌, ◌⊎◌, inl, inr, Bool, true, false, cond, Option, Some, None, Result, Ok, List, [], ◌∷◌, ◌++◌, filter, length, refl, sym, ap, subst, ◌∙◌, arith, length-append}
use Rattle.std.proofs.lemmas.Bool.{false≢true}
use Rattle.ff_io.specs.declared.lines.TheConstants.{MOST_LINE_BYTES, MOST_TRACE_BYTES}
use Rattle.ff_io.specs.Cutting.{has_newline, content, after_line, line_size, HasLine}
use Rattle.ff_io.proofs.CuttingLemmas.{has_newline-more, content-more, after_line-more, line_size-more}
use Rattle.ff_stream.specs.Traces.{Reads, onto}
use Rattle.ff_stream.specs.declared.end.BadLine.{BadLine}
use Rattle.ff_status.specs.declared.status.TraceFault.{TraceFault}
use Rattle.ff_value.specs.declared.input.Input.{Input}
use Rattle.ff_policy.specs.Assignment.{Assignment}
use Rattle.ff_session.specs.Giving.{Gives}
use Rattle.ff_session.specs.Parts.{later_by, newlines}
use Rattle.ff_session.specs.Claims.{IsTraceFor}

-- ---- the first line and what follows it are all of the bytes

line_rest : (bytes : List ℕ) → line_size bytes + length (after_line bytes) ≡ length bytes
line_rest [] = refl
line_rest (b ∷ bs) = from (b == 10) (line_rest bs)
  where
    from : (t : Bool) → line_size bs + length (after_line bs) ≡ length bs
        → (length (cond t [] (b ∷ content bs)) + cond (cond t true (has_newline bs)) 1 0) + length (cond t bs (after_line bs)) ≡ suc (length bs)
    from true rest = omega arith
    from false rest = omega (arith, rest)

content_short : (bytes : List ℕ) → length (content bytes) ≤ length bytes
content_short bytes = let all = line_rest bytes in omega (arith, all)

-- the newlines of bytes with a first line are one more than those behind it
newlines_line : (bytes : List ℕ) → has_newline bytes ≡ true → newlines bytes ≡ suc (newlines (after_line bytes))
newlines_line [] some = absurd (false≢true some)
newlines_line (b ∷ bs) some = from (b == 10) some (newlines_line bs)
  where
    from : (t : Bool) → cond t true (has_newline bs) ≡ true → (has_newline bs ≡ true → newlines bs ≡ suc (newlines (after_line bs)))
        → length (cond t (b ∷ filter (λ c. c == 10) bs) (filter (λ c. c == 10) bs)) ≡ suc (newlines (cond t bs (after_line bs)))
    from true is rest = refl
    from false is rest = rest is

-- ---- bytes that end with a newline, or are none

abbrev Whole : List ℕ → Type 0
Whole bytes = (bytes ≡ []) ⊎ ((front : List ℕ) × (bytes ≡ front ++ 10 ∷ []))

newline_last : (front : List ℕ) → has_newline (front ++ 10 ∷ []) ≡ true
newline_last [] = refl
newline_last (b ∷ bs) = from (b == 10) (newline_last bs)
  where
    from : (t : Bool) → has_newline (bs ++ 10 ∷ []) ≡ true → cond t true (has_newline (bs ++ 10 ∷ [])) ≡ true
    from true rest = refl
    from false rest = rest

whole_after : (front : List ℕ) → Whole (after_line (front ++ 10 ∷ []))
whole_after [] = inl refl
whole_after (b ∷ bs) = from (b == 10) (whole_after bs)
  where
    from : (t : Bool) → Whole (after_line (bs ++ 10 ∷ [])) → Whole (cond t (bs ++ 10 ∷ []) (after_line (bs ++ 10 ∷ [])))
    from true rest = inr (bs, refl)
    from false rest = rest

whole_line : (ended : Bool) (bytes : List ℕ) → Whole bytes → HasLine ended bytes → has_newline bytes ≡ true
whole_line ended bytes whole (inl some) = some
whole_line ended bytes (inl none) (inr last) = let long = last.1 in absurd (omega (arith, ap length none))
whole_line ended bytes (inr whole) (inr last) = ap has_newline whole.1 ∙ newline_last whole.0

whole_rest : (bytes : List ℕ) → Whole bytes → has_newline bytes ≡ true → Whole (after_line bytes)
whole_rest bytes (inl none) some = absurd (false≢true (sym (ap has_newline none) ∙ some))
whole_rest bytes (inr whole) some = subst (λ bs. Whole (after_line bs)) (sym whole.1) (whole_after whole.0)

module _ {X : Type 0} (Given : List ℕ → Result (Option X) TraceFault → Type 0) (ended : Bool) where
  -- lines that stand later in a trace that has room for them give the same
  shifted : (n start : ℕ) (bytes : List ℕ) (items : List X) (bad : Option (BadLine TraceFault)) (k begin : ℕ) → Reads Given ended n start bytes items bad
      → start + length bytes ≤ MOST_TRACE_BYTES → begin + length bytes ≤ MOST_TRACE_BYTES → Reads Given ended (k + n) begin bytes items (later_by k bad)
  shifted n start bytes items bad k begin (Reads.at_end n2 s bs over none) room more = Reads.at_end (k + n2) begin bs over none
  shifted n start bytes items bad k begin (Reads.unfinished n2 s bs left) room more =
      Reads.unfinished (k + n2) begin bs (record { no_line = left.no_line; open_yet = left.open_yet; fits = record { short = left.fits.short; within = more } })
  shifted n start bytes items bad k begin (Reads.good_line n2 s bs item js b there fits gives rest) room more =
      let all = line_rest bs in
      Reads.good_line (k + n2) begin bs item js (later_by k b) there (record { short = fits.short; within = omega (arith, all) }) gives
      (subst (λ m. Reads Given ended m (begin + line_size bs) (after_line bs) js (later_by k b)) (step n2)
      (shifted (n2 + 1) (s + line_size bs) (after_line bs) js b k (begin + line_size bs) rest (omega (arith, all)) (omega (arith, all))))
    where
      step : (m : ℕ) → k + (m + 1) ≡ (k + m) + 1
      step m = omega arith
  shifted n start bytes items bad k begin (Reads.bad_line n2 s bs f there fits gives) room more =
      let all = line_rest bs in
      Reads.bad_line (k + n2) begin bs f there (record { short = fits.short; within = omega (arith, all) }) gives
  shifted n start bytes items bad k begin (Reads.too_long n2 s bs long) room more =
      let short = content_short bs in let over = long.over in
      Reads.too_long (k + n2) begin bs (record { over = long.over; first = omega (arith, short, over) })
  shifted n start bytes items bad k begin (Reads.too_much n2 s bs much) room more =
      let all = line_rest bs in let over = much.over in absurd (omega (arith, all, over))

  -- lines before a part that begins behind them
  joined_parts : (n start : ℕ) (bytes : List ℕ) (items : List X) (no_bad : Option (BadLine TraceFault)) (more : List ℕ) (others : List X) (bad : Option (BadLine TraceFault))
      → Reads Given true n start bytes items no_bad → no_bad ≡ None → Whole bytes → start + length (bytes ++ more) ≤ MOST_TRACE_BYTES
      → Reads Given ended (newlines bytes + n) (start + length bytes) more others bad → Reads Given ended n start (bytes ++ more) (items ++ others) bad
  joined_parts n start bytes items no_bad more others bad (Reads.at_end n2 s bs over is_none) good whole room rest =
      subst (λ xs. Reads Given ended n2 s (xs ++ more) others bad) (sym is_none)
      (subst (λ m. Reads Given ended m s more others bad) (first n2 bs is_none) (subst (λ b. Reads Given ended (newlines bs + n2) b more others bad) (here s bs is_none) rest))
    where
      first : (m : ℕ) (xs : List ℕ) → xs ≡ [] → newlines xs + m ≡ m
      first m xs e = omega (arith, ap newlines e)

      here : (m : ℕ) (xs : List ℕ) → xs ≡ [] → m + length xs ≡ m
      here m xs e = omega (arith, ap length e)
  joined_parts n start bytes items no_bad more others bad (Reads.unfinished n2 s bs left) good whole room rest = absurd (false≢true (sym left.open_yet))
  joined_parts n start bytes items no_bad more others bad (Reads.good_line n2 s bs item js b there fits gives next) good whole room rest =
      let some = whole_line true bs whole there in
      let size = line_size-more bs more some in
      let long = length-append bs more in
      let all = line_rest bs in
      let after = after_line-more bs more some in
      subst (λ xs. Reads Given ended n2 s (bs ++ more) xs bad) (onto_more item js others)
      (Reads.good_line n2 s (bs ++ more) item (js ++ others) bad (inl (has_newline-more bs more some))
      (record { short = subst (λ xs. length xs ≤ MOST_LINE_BYTES) (sym (content-more bs more some)) fits.short; within = subst (λ z. s + z ≤ MOST_TRACE_BYTES) (sym size) fits.within })
      (subst (λ xs. Given xs (Ok item)) (sym (content-more bs more some)) gives)
      (subst (λ z. Reads Given ended (n2 + 1) (s + z) (after_line (bs ++ more)) (js ++ others) bad) (sym size)
      (subst (λ xs. Reads Given ended (n2 + 1) (s + line_size bs) xs (js ++ others) bad) (sym after)
      (joined_parts (n2 + 1) (s + line_size bs) (after_line bs) js b more others bad next good (whole_rest bs whole some)
      (let tail = length-append (after_line bs) more in omega (arith, all, long, tail, room))
      (subst (λ m. Reads Given ended m ((s + line_size bs) + length (after_line bs)) more others bad) (counted n2 bs some)
      (subst (λ m. Reads Given ended (newlines bs + n2) m more others bad) (begun s bs) rest))))))
    where
      onto_more : (o : Option X) (xs ys : List X) → onto o (xs ++ ys) ≡ onto o xs ++ ys
      onto_more None xs ys = refl
      onto_more (Some x) xs ys = refl

      counted : (m : ℕ) (xs : List ℕ) → has_newline xs ≡ true → newlines xs + m ≡ newlines (after_line xs) + (m + 1)
      counted m xs some = omega (arith, newlines_line xs some)

      begun : (m : ℕ) (xs : List ℕ) → m + length xs ≡ (m + line_size xs) + length (after_line xs)
      begun m xs = omega (arith, line_rest xs)
  joined_parts n start bytes items no_bad more others bad (Reads.bad_line n2 s bs f there fits gives) good whole room rest = cc
  joined_parts n start bytes items no_bad more others bad (Reads.too_long n2 s bs long) good whole room rest = cc
  joined_parts n start bytes items no_bad more others bad (Reads.too_much n2 s bs much) good whole room rest = cc

-- where the first part ends with a newline and has no bad line, the inputs of both parts are those
-- of the whole
pub parts_of_a_trace : (p : Assignment) (ended : Bool) (front second : List ℕ) (is js : List Input) (bad : Option (BadLine TraceFault)) → length ((front ++ 10 ∷ []) ++ second) ≤ MOST_TRACE_BYTES
    → IsTraceFor p true (front ++ 10 ∷ []) is None → IsTraceFor p ended second js bad → IsTraceFor p ended ((front ++ 10 ∷ []) ++ second) (is ++ js) (later_by (newlines (front ++ 10 ∷ [])) bad)
parts_of_a_trace p ended front second is js bad room first rest =
    let long = length-append (front ++ 10 ∷ []) second in
    joined_parts (Gives p.order) ended 1 0 (front ++ 10 ∷ []) is None second js (later_by (newlines (front ++ 10 ∷ [])) bad) first refl (inr (front, refl)) (omega (arith, room))
    (shifted (Gives p.order) ended 1 0 second js bad (newlines (front ++ 10 ∷ [])) (0 + length (front ++ 10 ∷ [])) rest (omega (arith, long, room)) (omega (arith, long, room)))
