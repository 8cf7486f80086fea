-- A line is put together from what is read.
use Rattle.std.proofs.Common.{◌≡◌, ℕ, suc, ◌+◌, ◌-◌, ◌<◌, ◌≤◌, Bool, true, false, cond, ◌||◌, Option, Ok, Err, List, [], ◌∷◌, ◌++◌, length, refl, sym, ap, subst, ◌∙◌, append-nil, append_assoc, arith, length-append}
use Rattle.std.proofs.lemmas.List.{nil_from_length}
use Rattle.std.proofs.lemmas.Bool.{false≢true}
use Rattle.ff_io.specs.Pieces.{Piece, got_of, has_end, is_nil}
use Rattle.ff_io.specs.Pieces.Piece.{Got, Put}
use Rattle.ff_io.specs.Port.{Adds, Leaves, AtEnd}
use Rattle.ff_io.specs.Chunks.{IsChunk, IsReadFail}
use Rattle.ff_io.specs.Cutting.{has_newline, content, after_line, line_size, Fits, IsUnfinished}
use Rattle.ff_io.specs.Following.{LinesState, ReadsWhileNone, Nexts}
use Rattle.ff_io.specs.Gathering.{IsSizeFault, IsCut, IsUncut, IsUngathered, Gathers}
use Rattle.ff_io.specs.declared.chunk.TheConstants.{MOST_READ_BYTES}
use Rattle.ff_io.specs.declared.lines.Next.TheVariants.{End}
use Rattle.ff_io.specs.declared.lines.LineFail.{LineFail}
use Rattle.ff_io.specs.declared.lines.LineFail.TheVariants.{TooLong, TooMuch, Read, NoMemory}
use Rattle.ff_io.proofs.Joins.{got_of-append, has_end-append, Adds-trans, Leaves-trans}
use Rattle.ff_io.proofs.CuttingLemmas.{has_newline-after, content-after, after_line-after, content-none, after_line-none}
use Rattle.ff_io.specs.declared.lines.TheConstants.{MOST_LINE_BYTES}

-- ---- one cut

module _ (given : ℕ) (line chunk line_now chunk_now : List ℕ) (whole : Bool) (none : has_newline line ≡ false) (line_is : line_now ≡ line ++ content chunk) (chunk_is : chunk_now ≡ after_line chunk) (whole_is : whole ≡ has_newline chunk) where
  content_is : line_now ≡ content (line ++ chunk)
  content_is = line_is ∙ sym (content-after line chunk none)

  newline_is : whole ≡ has_newline (line ++ chunk)
  newline_is = whole_is ∙ sym (has_newline-after line chunk none)

  end_is : given + (length line_now + cond whole 1 0) ≡ given + line_size (line ++ chunk)
  end_is = ap (λ bs. given + (length bs + cond whole 1 0)) content_is ∙ ap (λ t. given + (length (content (line ++ chunk)) + cond t 1 0)) newline_is

  -- a line of a fitting size was cut off
  pub cut_fits : Fits (length line_now) (given + (length line_now + cond whole 1 0)) → IsCut given (line ++ chunk) line_now chunk_now whole
  cut_fits fits = record {
    line_is = content_is;
    rest_is = chunk_is ∙ sym (after_line-after line chunk none);
    whole_is = newline_is;
    fits = subst (λ n. Fits (length (content (line ++ chunk))) n) end_is (subst (λ bs. Fits (length bs) (given + (length line_now + cond whole 1 0))) content_is fits);
  }

  -- a line has no fitting size
  pub cut_fault : (fail : LineFail) → IsSizeFault given (length line_now) (given + (length line_now + cond whole 1 0)) fail → IsUncut given (line ++ chunk) fail
  cut_fault fail fault = from fail (subst (λ n. IsSizeFault given (length (content (line ++ chunk))) n fail) end_is (subst (λ bs. IsSizeFault given (length bs) (given + (length line_now + cond whole 1 0)) fail) content_is fault))
    where
      from : (f : LineFail) → IsSizeFault given (length (content (line ++ chunk))) (given + line_size (line ++ chunk)) f → IsUncut given (line ++ chunk) f
      from TooLong h = h
      from TooMuch h = h
      from Read h = absurd h
      from NoMemory h = tt

-- ---- the loop

-- one read more, of bytes without a line that fit
pub reads_more : (given : ℕ) (held : List ℕ) (ended : Bool) (pieces : List Piece) (bytes : List ℕ)
    → ReadsWhileNone given held ended pieces → IsUnfinished given (held ++ got_of pieces) (ended || has_end pieces) → length bytes ≤ MOST_READ_BYTES → ReadsWhileNone given held ended (pieces ++ Got bytes ∷ [])
reads_more given held ended [] bytes reads unfinished short =
    let open_yet : ended ≡ false = or_left ended false unfinished.open_yet in
    (record { no_line = rw (append-nil held) at unfinished.no_line; open_yet = open_yet; fits = rw (append-nil held) at unfinished.fits }, short, tt)
  where
    or_left : (s t : Bool) → (s || t) ≡ false → s ≡ false
    or_left true t e = e
    or_left false t e = refl
reads_more given held ended (Got b ∷ pieces) bytes reads unfinished short = (
  reads.0,
  reads.1,
  reads_more given (held ++ b) (is_nil b) pieces bytes reads.2 (record {
    no_line = rw (append_assoc held b (got_of pieces)) unfinished.no_line;
    open_yet = rw reads.0.open_yet at unfinished.open_yet;
    fits = rw (append_assoc held b (got_of pieces)) unfinished.fits;
  }) short,
)
reads_more given held ended (Put b ∷ pieces) bytes reads unfinished short = absurd reads

-- these pieces were read, and a line was cut off all the bytes, or what is held has none
pub record IsGathering (log_before log_now : Option (List Piece)) (rest_before rest_now : Option (List ℕ)) (given : ℕ) (bytes : List ℕ) (ended : Bool) (line chunk : List ℕ) (ended_now whole : Bool) : Type 0 where
  pub pieces : List Piece
  pub added : Adds log_before log_now pieces
  pub left : Leaves rest_before rest_now (got_of pieces)
  pub at_end : AtEnd pieces rest_now
  pub reads : ReadsWhileNone given bytes ended pieces
  pub cut : IsCut given (bytes ++ got_of pieces) line chunk whole
  pub seen : ended_now ≡ (ended || has_end pieces)

or_false : (b : Bool) → b ≡ (b || false)
or_false true = refl
or_false false = refl

some_bytes : (bytes : List ℕ) → is_nil bytes ≡ false → 0 < length bytes
some_bytes [] e = absurd (false≢true (sym e))
some_bytes (b ∷ bs) e = omega arith

module _ {log_before log_mid : Option (List Piece)} {rest_before rest_mid : Option (List ℕ)} {given : ℕ} {bytes : List ℕ} {ended : Bool} {line chunk : List ℕ} {ended_mid whole : Bool}
    (so_far : IsGathering log_before log_mid rest_before rest_mid given bytes ended line chunk ended_mid whole) (no_line : whole ≡ false) (open_yet : ended_mid ≡ false) where
  abbrev got : List ℕ
  got = bytes ++ got_of so_far.pieces

  none : has_newline got ≡ false
  none = sym so_far.cut.whole_is ∙ no_line

  -- what was put together has no newline yet
  pub line_none : has_newline line ≡ false
  line_none = ap has_newline (so_far.cut.line_is ∙ content-none got none) ∙ none

  open_so_far : (ended || has_end so_far.pieces) ≡ false
  open_so_far = sym so_far.seen ∙ open_yet

  size_is : line_size got ≡ length got
  size_is = ap (λ t. length (content got) + cond t 1 0) none ∙ omega (arith, ap length (content-none got none))

  unfinished : IsUnfinished given got (ended || has_end so_far.pieces)
  unfinished = record {
    no_line = none;
    open_yet = open_so_far;
    fits = subst (λ n. Fits (length got) (given + n)) size_is (subst (λ bs. Fits (length bs) (given + line_size got)) (content-none got none) so_far.cut.fits);
  }

  -- the read failed
  pub gathers_unread : {log_now : Option (List Piece)} {rest_now : Option (List ℕ)} (bytes_now line_now chunk_now : List ℕ) (ended_now : Bool) (fail : LineFail) → IsReadFail fail → IsChunk {E = LineFail} log_mid log_now rest_mid rest_now bytes_now (Err fail)
      → Gathers log_before log_now rest_before rest_now given bytes ended line_now chunk_now ended_now (Err fail)
  gathers_unread {log_now} {rest_now} bytes_now line_now chunk_now ended_now fail kind read = record {
    pieces = so_far.pieces ++ [];
    added = Adds-trans log_before log_mid log_now so_far.pieces [] so_far.added read.added;
    left = rw (got_of-append so_far.pieces []) (Leaves-trans rest_before rest_mid rest_now (got_of so_far.pieces) [] so_far.left read.left);
    at_end = λ e. absurd (false≢true (sym closed ∙ e));
    reads = rw (append-nil so_far.pieces) so_far.reads;
    answer = rw (append-nil so_far.pieces) (from fail kind);
  }
    where
      closed : has_end (so_far.pieces ++ []) ≡ false
      closed = rw (append-nil so_far.pieces) (or_right ended (has_end so_far.pieces) open_so_far)
        where
          or_right : (s t : Bool) → (s || t) ≡ false → t ≡ false
          or_right true t e = absurd (false≢true (sym e))
          or_right false t e = e

      from : (f : LineFail) → IsReadFail f → IsUngathered given got (ended || has_end so_far.pieces) f
      from Read k = unfinished
      from NoMemory k = tt
      from TooLong k = absurd k
      from TooMuch k = absurd k

  module _ {log_now : Option (List Piece)} {rest_now : Option (List ℕ)} (read_bytes : List ℕ) (read_end : Bool) (read : IsChunk {E = LineFail} log_mid log_now rest_mid rest_now read_bytes (Ok read_end)) where
    abbrev now : List Piece
    now = so_far.pieces ++ Got read_bytes ∷ []

    bytes_now : bytes ++ got_of now ≡ line ++ read_bytes
    bytes_now =
        ap (λ bs. bytes ++ bs) (got_of-append so_far.pieces (Got read_bytes ∷ []))
        ∙ ap (λ bs. bytes ++ (got_of so_far.pieces ++ bs)) (append-nil read_bytes)
        ∙ sym (append_assoc bytes (got_of so_far.pieces) read_bytes)
        ∙ ap (λ bs. bs ++ read_bytes) (sym (so_far.cut.line_is ∙ content-none got none))

    left_now : Leaves rest_before rest_now (got_of now)
    left_now = rw (got_of-append so_far.pieces (Got read_bytes ∷ [])) (Leaves-trans rest_before rest_mid rest_now (got_of so_far.pieces) (got_of (Got read_bytes ∷ [])) so_far.left read.left)

    end_now : (ended || has_end now) ≡ is_nil read_bytes
    end_now = rw (has_end-append so_far.pieces (Got read_bytes ∷ [])) (from ended (has_end so_far.pieces) open_so_far)
      where
        from : (s t : Bool) → (s || t) ≡ false → (s || (t || (is_nil read_bytes || false))) ≡ is_nil read_bytes
        from true t e = absurd (false≢true (sym e))
        from false true e = absurd (false≢true (sym e))
        from false false e = sym (or_false (is_nil read_bytes))

    at_end_now : AtEnd now rest_now
    at_end_now e = read.at_end (from ended (has_end so_far.pieces) open_so_far (rw (has_end-append so_far.pieces (Got read_bytes ∷ [])) at e))
      where
        from : (s t : Bool) → (s || t) ≡ false → (t || (is_nil read_bytes || false)) ≡ true → (is_nil read_bytes || false) ≡ true
        from true t e k = absurd (false≢true (sym e))
        from false true e k = absurd (false≢true (sym e))
        from false false e k = k

    -- the bytes read were cut
    pub gathering_more : (line_now chunk_now : List ℕ) (whole_now : Bool) → IsCut given (line ++ read_bytes) line_now chunk_now whole_now
        → IsGathering log_before log_now rest_before rest_now given bytes ended line_now chunk_now read_end whole_now
    gathering_more line_now chunk_now whole_now cut = record {
      pieces = now;
      added = Adds-trans log_before log_mid log_now so_far.pieces (Got read_bytes ∷ []) so_far.added read.added;
      left = left_now;
      at_end = at_end_now;
      reads = reads_more given bytes ended so_far.pieces read_bytes so_far.reads unfinished read.within;
      cut = subst (λ bs. IsCut given bs line_now chunk_now whole_now) (sym bytes_now) cut;
      seen = read.ended ∙ sym end_now;
    }

    -- the measure of the loop falls
    pub measure_falls : (line_now chunk_now : List ℕ) (whole_now : Bool) → IsCut given (line ++ read_bytes) line_now chunk_now whole_now
        → suc (cond (whole_now || read_end) 0 (MOST_LINE_BYTES + 2 - length line_now)) ≤ cond (whole || ended_mid) 0 (MOST_LINE_BYTES + 2 - length line)
    measure_falls line_now chunk_now whole_now cut = rw (no_line, open_yet) (from whole_now read_end refl refl)
      where
        short : length line ≤ MOST_LINE_BYTES
        short = subst (λ (bs : List ℕ). length bs ≤ MOST_LINE_BYTES) (sym so_far.cut.line_is) so_far.cut.fits.short

        from : (w e : Bool) → whole_now ≡ w → read_end ≡ e → suc (cond (w || e) 0 (MOST_LINE_BYTES + 2 - length line_now)) ≤ MOST_LINE_BYTES + 2 - length line
        from true e is at = let s = short in omega arith
        from false true is at = let s = short in omega arith
        from false false is at =
            let s = short in
            let some : 0 < length read_bytes = some_bytes read_bytes (sym read.ended ∙ at) in
            let plain : has_newline (line ++ read_bytes) ≡ false = sym cut.whole_is ∙ is in
            let long : length line_now ≡ length line + length read_bytes = ap length (cut.line_is ∙ content-none (line ++ read_bytes) plain) ∙ length-append line read_bytes in
            omega arith

    -- or they weren't
    pub gathers_uncut : (line_now chunk_now : List ℕ) (ended_now : Bool) (fail : LineFail) → IsUncut given (line ++ read_bytes) fail
        → Gathers log_before log_now rest_before rest_now given bytes ended line_now chunk_now ended_now (Err fail)
    gathers_uncut line_now chunk_now ended_now fail uncut = record {
      pieces = now;
      added = Adds-trans log_before log_mid log_now so_far.pieces (Got read_bytes ∷ []) so_far.added read.added;
      left = left_now;
      at_end = at_end_now;
      reads = reads_more given bytes ended so_far.pieces read_bytes so_far.reads unfinished read.within;
      answer = from fail (subst (λ bs. IsUncut given bs fail) (sym bytes_now) uncut);
    }
      where
        from : (f : LineFail) → IsUncut given (bytes ++ got_of now) f → IsUngathered given (bytes ++ got_of now) (ended || has_end now) f
        from TooLong h = h
        from TooMuch h = h
        from Read h = absurd h
        from NoMemory h = tt

-- ---- what is answered

abbrev state : List ℕ → ℕ → Bool → Bool → LinesState
state held given ended failed = record { held = held; given = given; ended = ended; failed = failed }

module _ {log_before log_now : Option (List Piece)} {rest_before rest_now : Option (List ℕ)} {given : ℕ} {bytes : List ℕ} {ended : Bool} {line chunk : List ℕ} {ended_now whole : Bool}
    (gathers : Gathers log_before log_now rest_before rest_now given bytes ended line chunk ended_now (Ok whole)) where
  abbrev all : List ℕ
  all = bytes ++ got_of gathers.pieces

  abbrev seen : Bool
  seen = ended || has_end gathers.pieces

  -- no byte is left at the end
  pub end_given : (size : ℕ) → size ≡ length line + cond whole 1 0 → size ≡ 0
      → Nexts log_before log_now rest_before rest_now (state bytes given ended false) (state (line ++ chunk) given ended_now false) (Ok End)
  end_given size size_is none = record {
    pieces = gathers.pieces;
    added = gathers.added;
    left = gathers.left;
    at_end = gathers.at_end;
    reads = gathers.reads;
    answer = record {
      none = no_bytes;
      at_end = at_end;
      now_is = ap (λ bs. state bs given ended_now false) held_none ∙ ap (λ e. state [] given e false) (gathers.answer.1 ∙ at_end);
    };
  }
    where
      not_whole : (w : Bool) → whole ≡ w → whole ≡ false
      not_whole false e = e
      not_whole true e = let one : size ≡ length line + 1 = size_is ∙ ap (λ t. length line + cond t 1 0) e in absurd (omega arith)

      is_part : whole ≡ false
      is_part = not_whole whole refl

      no_size : length line ≡ 0
      no_size = let e : size ≡ length line + 0 = size_is ∙ ap (λ t. length line + cond t 1 0) is_part in omega arith

      plain : has_newline all ≡ false
      plain = sym gathers.answer.0.cut.whole_is ∙ is_part

      no_line : line ≡ []
      no_line = nil_from_length line no_size

      no_bytes : all ≡ []
      no_bytes = sym (content-none all plain) ∙ sym gathers.answer.0.cut.line_is ∙ no_line

      at_end : seen ≡ true
      at_end = gathers.answer.0.stopped is_part

      held_none : line ++ chunk ≡ []
      held_none = ap (λ bs. bs ++ chunk) no_line ∙ gathers.answer.0.cut.rest_is ∙ after_line-none all plain
