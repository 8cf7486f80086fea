-- A trace is read in one way; what follows for how going through it ends.
use Rattle.std.proofs.Common.{◌≡◌, ℕ, ◌+◌, ◌<◌, ◌≤◌, ◌⊎◌, inl, inr, Bool, true, false, cond, Option, Some, None, Result, Ok, Err, List, [], ◌++◌, length, All, refl, sym, ap, subst, ◌∙◌, arith, length-append}
use Rattle.std.specs.Option.{IfSome}
use Rattle.std.proofs.lemmas.List.Elements.{All-nil, All-cons}
use Rattle.std.specs.Io.KnownBytes.{IsAtEnd}
use Rattle.std.proofs.lemmas.Bool.{false≢true, cases_lt}
use Rattle.std.proofs.lemmas.Option.{none-some, same_Some}
use Rattle.ff_io.specs.declared.lines.TheConstants.{MOST_LINE_BYTES, MOST_TRACE_BYTES}
use Rattle.ff_io.specs.Pieces.{Piece, got_of, put_of, has_end}
use Rattle.ff_io.specs.Port.{Leaves}
use Rattle.ff_io.specs.Cutting.{has_newline, content, after_line, line_size, HasLine, IsTooLong, IsTooMuch, Fits, IsUnfinished}
use Rattle.ff_io.proofs.CuttingLemmas.{content-none, content-after, content-more, line_size-more}
use Rattle.ff_io.proofs.Joins.{rest_was_got}
use Rattle.ff_stream.specs.Traces.{Reads, IsTrace, onto}
use Rattle.ff_stream.specs.Owed.{text_from, text_of, turns_of, OwesMore, Streams, IsStreamed}
use Rattle.ff_stream.specs.declared.end.BadLine.{BadLine}
use Rattle.ff_stream.specs.declared.end.End as declared
use Rattle.ff_stream.specs.declared.end.End.TheVariants.{Done, Bad, ReadFault, WriteFault, NoMemory}
use Rattle.ff_stream.specs.declared.end.Fault.TheVariants as fault
use Rattle.ff_stream.proofs.Owing.{text_from-append, turns_from-append}
use Rattle.ff_stream.proofs.Standing.{fault_of, reads_after, same_line}

-- ---- cases apart

line_some : (ended : Bool) (bytes : List ℕ) → bytes ≡ [] → HasLine ended bytes → ⊥
line_some ended bytes none (inl some) = false≢true (sym (ap has_newline none) ∙ some)
line_some ended bytes none (inr last) = let long = last.1 in omega (arith, ap length none)

line_finished : (ended : Bool) (start : ℕ) (bytes : List ℕ) → IsUnfinished start bytes ended → HasLine ended bytes → ⊥
line_finished ended start bytes unfinished (inl some) = false≢true (sym unfinished.no_line ∙ some)
line_finished ended start bytes unfinished (inr last) = false≢true (sym unfinished.open_yet ∙ last.0)

long_fits : (start size end : ℕ) → IsTooLong start size → Fits size end → ⊥
long_fits start size end long fits = let over = long.over in let short = fits.short in omega arith

much_fits : (start size other end : ℕ) → IsTooMuch start size end → Fits other end → ⊥
much_fits start size other end much fits = let over = much.over in let within = fits.within in omega arith

none_long : (start : ℕ) (bytes : List ℕ) → bytes ≡ [] → IsTooLong start (length (content bytes)) → ⊥
none_long start bytes none long = let over = long.over in omega (arith, ap (λ bs. length (content bs)) none)

none_much : (start : ℕ) (bytes : List ℕ) → bytes ≡ [] → start ≤ MOST_TRACE_BYTES → IsTooMuch start (length (content bytes)) (start + line_size bytes) → ⊥
none_much start bytes none within much = let over = much.over in omega (arith, ap line_size none)

unfinished_size : (start : ℕ) (bytes : List ℕ) (ended : Bool) → IsUnfinished start bytes ended → Fits (length (content bytes)) (start + line_size bytes)
unfinished_size start bytes ended unfinished =
    let plain = unfinished.no_line in
    let long : line_size bytes ≡ length (content bytes) + 0 = ap (λ t. length (content bytes) + cond t 1 0) plain in
    let same : length (content bytes) ≡ length bytes = ap length (content-none bytes plain) in
    let short = unfinished.fits.short in
    let within = unfinished.fits.within in
    record { short = omega arith; within = omega arith }

-- a first line doesn't get shorter as bytes follow
content_grows : (bytes more : List ℕ) → length (content bytes) ≤ length (content (bytes ++ more))
content_grows bytes more = from (has_newline bytes) refl
  where
    from : (t : Bool) → has_newline bytes ≡ t → length (content bytes) ≤ length (content (bytes ++ more))
    from true some = omega (arith, ap length (content-more bytes more some))
    from false none =
        let here = ap length (content-none bytes none) in
        let all = ap length (content-after bytes more none) in
        omega (arith, length-append bytes (content more))

size_grows : (bytes more : List ℕ) → line_size bytes ≤ line_size (bytes ++ more)
size_grows bytes more = from (has_newline bytes) refl
  where
    from : (t : Bool) → has_newline bytes ≡ t → line_size bytes ≤ line_size (bytes ++ more)
    from true some = omega (arith, line_size-more bytes more some)
    from false none =
        let here : line_size bytes ≡ length (content bytes) + 0 = ap (λ t. length (content bytes) + cond t 1 0) none in
        let grows = content_grows bytes more in
        omega arith

module _ {X F : Type 0} {Gives : List ℕ → Result (Option X) F → Type 0} (once : (line : List ℕ) (a b : Result (Option X) F) → Gives line a → Gives line b → a ≡ b) where
  -- bytes give one list of items, and have one first bad line
  pub reads_once : (ended : Bool) (number start : ℕ) (bytes : List ℕ) (items others : List X) (bad other : Option (BadLine F)) → start ≤ MOST_TRACE_BYTES
      → Reads Gives ended number start bytes items bad → Reads Gives ended number start bytes others other → (items ≡ others) × (bad ≡ other)
  reads_once ended number start bytes items others bad other within (Reads.at_end n s bs over none) second = from second
    where
      from : {js : List X} {b : Option (BadLine F)} → Reads Gives ended n s bs js b → ([] ≡ js) × (None ≡ b)
      from (Reads.at_end n2 s2 bs2 over2 none2) = (refl, refl)
      from (Reads.unfinished n2 s2 bs2 open_yet) = absurd (false≢true (sym open_yet.open_yet ∙ over))
      from (Reads.good_line n2 s2 bs2 i js b there fits gives more) = absurd (line_some ended bs none there)
      from (Reads.bad_line n2 s2 bs2 f there fits gives) = absurd (line_some ended bs none there)
      from (Reads.too_long n2 s2 bs2 long) = absurd (none_long s bs none long)
      from (Reads.too_much n2 s2 bs2 much) = absurd (none_much s bs none within much)
  reads_once ended number start bytes items others bad other within (Reads.unfinished n s bs unfinished) second = from second
    where
      from : {js : List X} {b : Option (BadLine F)} → Reads Gives ended n s bs js b → ([] ≡ js) × (None ≡ b)
      from (Reads.at_end n2 s2 bs2 over2 none2) = (refl, refl)
      from (Reads.unfinished n2 s2 bs2 open_yet) = (refl, refl)
      from (Reads.good_line n2 s2 bs2 i js b there fits gives more) = absurd (line_finished ended s bs unfinished there)
      from (Reads.bad_line n2 s2 bs2 f there fits gives) = absurd (line_finished ended s bs unfinished there)
      from (Reads.too_long n2 s2 bs2 long) = absurd (long_fits s (length (content bs)) (s + line_size bs) long (unfinished_size s bs ended unfinished))
      from (Reads.too_much n2 s2 bs2 much) = absurd (much_fits s (length (content bs)) (length (content bs)) (s + line_size bs) much (unfinished_size s bs ended unfinished))
  reads_once ended number start bytes items others bad other within (Reads.good_line n s bs i js b there fits gives more) second =
      let next = reads_after once ended n s bs i others other there fits gives second in
      let rest = reads_once ended (n + 1) (s + line_size bs) (after_line bs) js next.rest b other fits.within more next.reads in
      (ap (λ xs. onto i xs) rest.0 ∙ sym next.joined, rest.1)
  reads_once ended number start bytes items others bad other within (Reads.bad_line n s bs f there fits gives) second = from second
    where
      from : {js : List X} {b : Option (BadLine F)} → Reads Gives ended n s bs js b → ([] ≡ js) × (Some (record { number = n; fault = fault.Line f }) ≡ b)
      from (Reads.at_end n2 s2 bs2 over2 none2) = absurd (line_some ended bs none2 there)
      from (Reads.unfinished n2 s2 bs2 open_yet) = absurd (line_finished ended s bs open_yet there)
      from (Reads.good_line n2 s2 bs2 i js b there2 fits2 gives2 more) = absurd (none-some f (ap fault_of (once (content bs) (Ok i) (Err f) gives2 gives)))
      from (Reads.bad_line n2 s2 bs2 f2 there2 fits2 gives2) = (refl, ap (λ g. Some (record { number = n; fault = fault.Line g })) (same_Some f f2 (ap fault_of (once (content bs) (Err f) (Err f2) gives gives2))))
      from (Reads.too_long n2 s2 bs2 long) = absurd (long_fits s (length (content bs)) (s + line_size bs) long fits)
      from (Reads.too_much n2 s2 bs2 much) = absurd (much_fits s (length (content bs)) (length (content bs)) (s + line_size bs) much fits)
  reads_once ended number start bytes items others bad other within (Reads.too_long n s bs long) second = from second
    where
      from : {js : List X} {b : Option (BadLine F)} → Reads Gives ended n s bs js b → ([] ≡ js) × (Some (record { number = n; fault = fault.TooLong }) ≡ b)
      from (Reads.at_end n2 s2 bs2 over2 none2) = absurd (none_long s bs none2 long)
      from (Reads.unfinished n2 s2 bs2 unfinished) = absurd (long_fits s (length (content bs)) (s + line_size bs) long (unfinished_size s bs ended unfinished))
      from (Reads.good_line n2 s2 bs2 i js b there2 fits2 gives2 more) = absurd (long_fits s (length (content bs)) (s + line_size bs) long fits2)
      from (Reads.bad_line n2 s2 bs2 f2 there2 fits2 gives2) = absurd (long_fits s (length (content bs)) (s + line_size bs) long fits2)
      from (Reads.too_long n2 s2 bs2 long2) = (refl, refl)
      from (Reads.too_much n2 s2 bs2 much) = absurd (much.first long)
  reads_once ended number start bytes items others bad other within (Reads.too_much n s bs much) second = from second
    where
      from : {js : List X} {b : Option (BadLine F)} → Reads Gives ended n s bs js b → ([] ≡ js) × (Some (record { number = n; fault = fault.TooMuch }) ≡ b)
      from (Reads.at_end n2 s2 bs2 over2 none2) = absurd (none_much s bs none2 within much)
      from (Reads.unfinished n2 s2 bs2 unfinished) = absurd (much_fits s (length (content bs)) (length (content bs)) (s + line_size bs) much (unfinished_size s bs ended unfinished))
      from (Reads.good_line n2 s2 bs2 i js b there2 fits2 gives2 more) = absurd (much_fits s (length (content bs)) (length (content bs)) (s + line_size bs) much fits2)
      from (Reads.bad_line n2 s2 bs2 f2 there2 fits2 gives2) = absurd (much_fits s (length (content bs)) (length (content bs)) (s + line_size bs) much fits2)
      from (Reads.too_long n2 s2 bs2 long) = absurd (much.first long)
      from (Reads.too_much n2 s2 bs2 much2) = (refl, refl)

  -- a trace gives one list of items, and has one first bad line or none
  pub trace_once : (ended : Bool) (bytes : List ℕ) (items others : List X) (bad other : Option (BadLine F)) → IsTrace Gives ended bytes items bad → IsTrace Gives ended bytes others other → (items ≡ others) × (bad ≡ other)
  trace_once ended bytes items others bad other = reads_once ended 1 0 bytes items others bad other (omega arith)

  -- ---- a bad line stays bad, whatever follows

  bad_stays : (number start : ℕ) (bytes more : List ℕ) (items others : List X) (bad : Option (BadLine F)) (line : BadLine F) → bad ≡ Some line → start ≤ MOST_TRACE_BYTES → Reads Gives false number start bytes items bad → Reads Gives true number start (bytes ++ more) others None → ⊥
  bad_stays number start bytes more items others bad line is within (Reads.at_end n s bs over none) second = none-some line is
  bad_stays number start bytes more items others bad line is within (Reads.unfinished n s bs unfinished) second = none-some line is
  bad_stays number start bytes more items others bad line is within (Reads.good_line n s bs i js b there fits gives rest) second =
      let same = same_line false true bs more (λ e. absurd (false≢true e)) there in
      let fits_here : Fits (length (content (bs ++ more))) (s + line_size (bs ++ more)) = subst (λ cs. Fits (length cs) (s + line_size (bs ++ more))) (sym same.content_is) (subst (λ m. Fits (length (content bs)) (s + m)) (sym same.size_is) fits) in
      let next = reads_after once true n s (bs ++ more) i others None same.there fits_here (subst (λ cs. Gives cs (Ok i)) (sym same.content_is) gives) second in
      bad_stays (n + 1) (s + line_size bs) (after_line bs) more js next.rest b line is fits.within rest
      (subst (λ m. Reads Gives true (n + 1) (s + m) (after_line bs ++ more) next.rest None) same.size_is (subst (λ cs. Reads Gives true (n + 1) (s + line_size (bs ++ more)) cs next.rest None) same.after_is next.reads))
  bad_stays number start bytes more items others bad line is within (Reads.bad_line n s bs f there fits gives) second =
      let same = same_line false true bs more (λ e. absurd (false≢true e)) there in
      let fits_here : Fits (length (content (bs ++ more))) (s + line_size (bs ++ more)) = subst (λ cs. Fits (length cs) (s + line_size (bs ++ more))) (sym same.content_is) (subst (λ m. Fits (length (content bs)) (s + m)) (sym same.size_is) fits) in
      none-some (record { number = n; fault = fault.Line f })
      (reads_once true n s (bs ++ more) others [] None (Some (record { number = n; fault = fault.Line f })) within second (Reads.bad_line n s (bs ++ more) f same.there fits_here (subst (λ cs. Gives cs (Err f)) (sym same.content_is) gives))).1
  bad_stays number start bytes more items others bad line is within (Reads.too_long n s bs long) second =
      none-some (record { number = n; fault = fault.TooLong })
      (reads_once true n s (bs ++ more) others [] None (Some (record { number = n; fault = fault.TooLong })) within second (Reads.too_long n s (bs ++ more) (record { over = let over = long.over in let grows = content_grows bs more in omega arith; first = long.first }))).1
  bad_stays number start bytes more items others bad line is within (Reads.too_much n s bs much) second = from (cases_lt MOST_LINE_BYTES (length (content (bs ++ more)))) (cases_lt (s + MOST_LINE_BYTES) MOST_TRACE_BYTES)
    where
      over : MOST_TRACE_BYTES < s + line_size (bs ++ more)
      over = let past = much.over in let grows = size_grows bs more in omega arith

      as_much : (IsTooLong s (length (content (bs ++ more))) → ⊥) → ⊥
      as_much short = none-some (record { number = n; fault = fault.TooMuch })
          (reads_once true n s (bs ++ more) others [] None (Some (record { number = n; fault = fault.TooMuch })) within second (Reads.too_much n s (bs ++ more) (record { over = over; first = short }))).1

      from : (MOST_LINE_BYTES < length (content (bs ++ more))) ⊎ (length (content (bs ++ more)) ≤ MOST_LINE_BYTES) → (s + MOST_LINE_BYTES < MOST_TRACE_BYTES) ⊎ (MOST_TRACE_BYTES ≤ s + MOST_LINE_BYTES) → ⊥
      from (inr short) first = as_much (λ long. let past = long.over in omega arith)
      from (inl past) (inr late) = as_much (λ long. let first = long.first in omega arith)
      from (inl past) (inl early) = none-some (record { number = n; fault = fault.TooLong })
          (reads_once true n s (bs ++ more) others [] None (Some (record { number = n; fault = fault.TooLong })) within second (Reads.too_long n s (bs ++ more) (record { over = past; first = early }))).1

  -- ---- what follows for how it ends

  module _ {entry : List X → X → List ℕ} {turns : List X → X → ℕ} {IsAt : List X → Type 0} {log_before log_now : Option (List Piece)} {rest_before rest_now : Option (List ℕ)} {turns_before turns_now : ℕ} (end : declared.End F)
      (streams : Streams Gives entry turns IsAt log_before log_now rest_before rest_now turns_before turns_now end) where
    -- where no read and no write failed, a bad line is what it ends with
    pub bad_line : (end ≡ ReadFault → ⊥) → (end ≡ WriteFault → ⊥) → (items : List X) (line : BadLine F) → IsTrace Gives (has_end streams.pieces) (got_of streams.pieces) items (Some line) → (end ≡ Bad line) ⊎ (end ≡ NoMemory)
    bad_line unread unwritten items line reads = from end refl streams.held
      where
        from : (e : declared.End F) → end ≡ e → IsStreamed Gives entry turns IsAt e (got_of streams.pieces) (put_of streams.pieces) (has_end streams.pieces) turns_before turns_now → (end ≡ Bad line) ⊎ (end ≡ NoMemory)
        from Done is held = absurd (none-some line (trace_once (has_end streams.pieces) (got_of streams.pieces) held.1.items items None (Some line) held.1.read reads).1)
        from (Bad other) is held = inl (is ∙ ap (λ l. Bad l) (same_Some other line (trace_once (has_end streams.pieces) (got_of streams.pieces) held.items items (Some other) (Some line) held.read reads).1))
        from ReadFault is held = absurd (unread is)
        from WriteFault is held = absurd (unwritten is)
        from NoMemory is held = inr is

    -- where besides the rest that the port tells has none, it is done
    pub good_rest : (end ≡ ReadFault → ⊥) → (end ≡ WriteFault → ⊥) → (rest : List ℕ) (items : List X) → rest_before ≡ Some rest → IsTrace Gives true rest items None → (end ≡ Done) ⊎ (end ≡ NoMemory)
    good_rest unread unwritten rest items told good = from end refl streams.held
      where
        no_bad : (got : List ℕ) (ended : Bool) (now : Option (List ℕ)) (some : List X) (line : BadLine F) → Leaves rest_before now got → (ended ≡ true → IsAtEnd now) → IsTrace Gives ended got some (Some line) → ⊥
        no_bad got true now some line left at_end bad =
            let same : rest ≡ got = subst (λ o. IfSome o (λ r. r ≡ got)) told (rest_was_got rest_before now got left (at_end refl)) in
            none-some line (trace_once true got items some None (Some line) (subst (λ bs. IsTrace Gives true bs items None) same good) bad).1
        no_bad got false None some line left at_end bad = none-some rest (sym left ∙ told)
        no_bad got false (Some more) some line left at_end bad =
            let joined : rest ≡ got ++ more = same_Some rest (got ++ more) (sym told ∙ left) in
            bad_stays 1 0 got more some items (Some line) line refl (omega arith) bad (subst (λ bs. IsTrace Gives true bs items None) joined good)

        from : (e : declared.End F) → end ≡ e → IsStreamed Gives entry turns IsAt e (got_of streams.pieces) (put_of streams.pieces) (has_end streams.pieces) turns_before turns_now → (end ≡ Done) ⊎ (end ≡ NoMemory)
        from Done is held = inl is
        from (Bad line) is held = absurd (no_bad (got_of streams.pieces) (has_end streams.pieces) rest_now held.items line streams.left streams.at_end held.read)
        from ReadFault is held = absurd (unread is)
        from WriteFault is held = absurd (unwritten is)
        from NoMemory is held = inr is

    -- where it is done, all of the rest that the port tells was got
    pub all_got : end ≡ Done → (rest : List ℕ) → rest_before ≡ Some rest → got_of streams.pieces ≡ rest
    all_got done rest told = sym (subst (λ o. IfSome o (λ r. r ≡ got_of streams.pieces)) told (rest_was_got rest_before rest_now (got_of streams.pieces) streams.left (streams.at_end (ended end done streams.held))))
      where
        ended : (e : declared.End F) → e ≡ Done → IsStreamed Gives entry turns IsAt e (got_of streams.pieces) (put_of streams.pieces) (has_end streams.pieces) turns_before turns_now → has_end streams.pieces ≡ true
        ended e is held = (subst (λ f. IsStreamed Gives entry turns IsAt f (got_of streams.pieces) (put_of streams.pieces) (has_end streams.pieces) turns_before turns_now) is held).0

    -- after want of memory, and after a write that failed, a front of what is owed for any reading
    -- of the bytes got was put
    pub part_put : (IsPart : List ℕ → List ℕ → Type 0) → ((front whole more : List ℕ) → IsPart front whole → IsPart front (whole ++ more)) → (got put : List ℕ) (ended : Bool) → OwesMore Gives entry turns got put ended IsPart turns_before turns_now
        → (all : List X) (bad : Option (BadLine F)) → IsTrace Gives ended got all bad → IsPart put (text_of entry all) × (turns_now ≤ turns_before + turns_of turns all)
    part_put IsPart grows got put ended owes all bad reads =
        let begins = owes.first all bad reads in
        let text_is : text_of entry all ≡ text_of entry owes.items ++ text_from entry owes.items begins.0 = ap (text_of entry) begins.1 ∙ text_from-append entry [] owes.items begins.0 in
        let turns_are = ap (turns_of turns) begins.1 in
        let turns_sum = turns_from-append turns [] owes.items begins.0 in
        let most : turns_now ≤ turns_before + turns_of turns owes.items = owes.most in
        (subst (IsPart put) (sym text_is) (grows put (text_of entry owes.items) (text_from entry owes.items begins.0) owes.part), omega arith)

-- what holds of each item that a line gives holds of all items
onto_each : {X : Type 0} (P : X → Type 0) (item : Option X) (items : List X) → ((x : X) → item ≡ Some x → P x) → All P items → All P (onto item items)
onto_each P None items is all = all
onto_each P (Some x) items is all = All-cons P x items (is x refl) all

-- what holds of each item that a line gives holds of all items of a trace
pub reads_each : {X F : Type 0} {Gives : List ℕ → Result (Option X) F → Type 0} (P : X → Type 0) → ((line : List ℕ) (x : X) → Gives line (Ok (Some x)) → P x) → (ended : Bool) (number start : ℕ) (bytes : List ℕ) (items : List X) (bad : Option (BadLine F))
    → Reads Gives ended number start bytes items bad → All P items
reads_each P each ended number start bytes items bad (Reads.at_end n s bs over none) = All-nil P
reads_each P each ended number start bytes items bad (Reads.unfinished n s bs unfinished) = All-nil P
reads_each {Gives = Gives} P each ended number start bytes items bad (Reads.good_line n s bs i js b there fits gives more) =
    onto_each P i js (λ x is. each (content bs) x (subst (λ o. Gives (content bs) (Ok o)) is gives)) (reads_each P each ended (n + 1) (s + line_size bs) (after_line bs) js b more)
reads_each P each ended number start bytes items bad (Reads.bad_line n s bs f there fits gives) = All-nil P
reads_each P each ended number start bytes items bad (Reads.too_long n s bs long) = All-nil P
reads_each P each ended number start bytes items bad (Reads.too_much n s bs much) = All-nil P
