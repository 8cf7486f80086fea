-- What a command that goes over a trace does to its port, by what its loop did, and by the closing
-- text that it put once reading had ended.
use Rattle.std.proofs.Common.{◌≡◌, ◌≢◌, ℕ, ◌+◌, ◌≤◌, ◌⊎◌, inl, inr, Bool, true, false, Option, Some, None, Result, Ok, Err, List, [], ◌∷◌, ◌++◌, refl, sym, ap, subst, ◌∙◌, append_assoc, append-nil, length-append, arith}
use Rattle.std.specs.Bool.{⊤}
use Rattle.std.specs.Result.{OnOk, OnErr}
use Rattle.ff_io.specs.Counts.{Rose, HasCause}
use Rattle.ff_io.specs.Pieces.{Piece, got_of, put_of, has_end, AllPut}
use Rattle.ff_io.specs.Pieces.Piece.{Got, Put}
use Rattle.ff_io.specs.Port.{Told, Adds, Leaves}
use Rattle.ff_io.specs.Fronts.{IsFront, IsProperFront}
use Rattle.ff_io.specs.Whole.{Puts}
use Rattle.ff_io.proofs.Joins.{got_of-then_put, has_end-then_put, put_of-append, Adds-trans, Adds-nil}
use Rattle.ff_status.specs.declared.status.Status.{Status}
use Rattle.ff_status.specs.declared.status.Status.TheVariants as status
use Rattle.ff_status.specs.declared.status.TraceFault.{TraceFault}
use Rattle.ff_status.specs.Words.{IsGood}
use Rattle.ff_stream.specs.Traces.{IsTrace}
use Rattle.ff_stream.specs.Owed as stream
use Rattle.ff_stream.specs.Owed.{Owes, OwesMore, Streams, IsStreamed, IsPromptAt, Prompt}
use Rattle.ff_stream.specs.declared.end.BadLine.{BadLine}
use Rattle.ff_stream.specs.declared.end.End.{End}
use Rattle.ff_stream.specs.declared.end.End.TheVariants.{Done, Bad, ReadFault, WriteFault, NoMemory}
use Rattle.ff_stream.proofs.Laws as laws
use Rattle.ff_session.specs.Closing.{IsEnded, ends_whole, Closes, IsClosed}
use Rattle.ff_session.specs.Works.{Duty, AreGot, IsOwed, IsOwedMore, IsFinished, IsWritten, Exchanged, status_as, is_whole}

-- ---- fronts

-- a longer text has the same front
pub longer_front : (front whole more : List ℕ) → IsFront front whole → IsFront front (whole ++ more)
longer_front front whole more is = record { rest = is.rest ++ more; joined = sym (append_assoc front is.rest more) ∙ ap (λ t. t ++ more) is.joined }

pub longer_proper : (front whole more : List ℕ) → IsProperFront front whole → IsProperFront front (whole ++ more)
longer_proper front whole more is = record {
  rest = is.rest ++ more;
  more = let some = is.more in omega (arith, length-append is.rest more);
  joined = sym (append_assoc front is.rest more) ∙ ap (λ t. t ++ more) is.joined;
}

-- a front of what follows a text is one with the text before both
pub front_under : (base front whole : List ℕ) → IsFront front whole → IsFront (base ++ front) (base ++ whole)
front_under base front whole is = record { rest = is.rest; joined = append_assoc base front is.rest ∙ ap (λ t. base ++ t) is.joined }

pub proper_under : (base front whole : List ℕ) → IsProperFront front whole → IsProperFront (base ++ front) (base ++ whole)
proper_under base front whole is = record { rest = is.rest; more = is.more; joined = append_assoc base front is.rest ∙ ap (λ t. base ++ t) is.joined }

pub front_none : (whole : List ℕ) → IsFront [] whole
front_none whole = record { rest = whole; joined = refl }

-- ---- ends and statuses

abbrev IsReadFault : Status → Type 0
IsReadFault status.ReadFault = ⊤
IsReadFault other = ⊥

abbrev IsWriteFault : Status → Type 0
IsWriteFault status.WriteFault = ⊤
IsWriteFault other = ⊥

good_read : (good : Status) → IsGood good → good ≡ status.ReadFault → ⊥
good_read good fine same = subst IsGood same fine

good_write : (good : Status) → IsGood good → good ≡ status.WriteFault → ⊥
good_write good fine same = subst IsGood same fine

is_read_fault : (e : End TraceFault) (good : Status) → IsGood good → status_as e good ≡ status.ReadFault → e ≡ ReadFault
is_read_fault Done good fine same = absurd (good_read good fine same)
is_read_fault (Bad line) good fine same = absurd (subst IsReadFault (sym same) tt)
is_read_fault ReadFault good fine same = refl
is_read_fault WriteFault good fine same = absurd (subst IsReadFault (sym same) tt)
is_read_fault NoMemory good fine same = absurd (subst IsReadFault (sym same) tt)

is_write_fault : (e : End TraceFault) (good : Status) → IsGood good → status_as e good ≡ status.WriteFault → e ≡ WriteFault
is_write_fault Done good fine same = absurd (good_write good fine same)
is_write_fault (Bad line) good fine same = absurd (subst IsWriteFault (sym same) tt)
is_write_fault ReadFault good fine same = absurd (subst IsWriteFault (sym same) tt)
is_write_fault WriteFault good fine same = refl
is_write_fault NoMemory good fine same = absurd (subst IsWriteFault (sym same) tt)

-- a good end is that of the loop
is_done : (e : End TraceFault) (good : Status) → IsGood (status_as e good) → e ≡ Done
is_done Done good fine = refl
is_done (Bad line) good fine = absurd fine
is_done ReadFault good fine = absurd fine
is_done WriteFault good fine = absurd fine
is_done NoMemory good fine = absurd fine

-- what a port tells
abbrev pub told_of : Option (List Piece) → Option (List ℕ) → ℕ → ℕ → Told
told_of log rest reads writes = record { log = log; rest = rest; read_faults = reads; write_faults = writes }

-- ---- writes after the last read

got_before : (xs last before after : List Piece) (bytes : List ℕ) → AllPut last → xs ++ last ≡ before ++ Got bytes ∷ after → (more : List Piece) × (xs ≡ before ++ Got bytes ∷ more)
got_before [] last before after bytes puts same = absurd (none last before puts same)
  where
    none : (ys zs : List Piece) → AllPut ys → ys ≡ zs ++ Got bytes ∷ after → ⊥
    none ys [] all is = subst AllPut is all
    none [] (z ∷ zs) all is = cc
    none (Got b ∷ ys) (z ∷ zs) all is = all
    none (Put b ∷ ys) (z ∷ zs) all is = none ys zs all.1 (ap rest_of is)
      where
        rest_of : List Piece → List Piece
        rest_of [] = []
        rest_of (p ∷ ps) = ps
got_before (x ∷ xs) last [] after bytes puts same = (xs, ap (λ p. p ∷ xs) (first same))
  where
    first : x ∷ (xs ++ last) ≡ Got bytes ∷ after → x ≡ Got bytes
    first is = cc
got_before (x ∷ xs) last (y ∷ before) after bytes puts same =
    let tail : xs ++ last ≡ before ++ Got bytes ∷ after = cc in
    let head : x ≡ y = cc in
    let found = got_before xs last before after bytes puts tail in
    (found.0, ap (λ p. p ∷ xs) head ∙ ap (λ ps. y ∷ ps) found.1)

-- promptness is not lost by writes
pub prompt_closed : {X F : Type 0} {Given : List ℕ → Result (Option X) F → Type 0} {entry : List X → X → List ℕ} (pieces last : List Piece) → AllPut last → Prompt Given entry pieces → Prompt Given entry (pieces ++ last)
prompt_closed pieces last puts prompt before bytes after same = let found = got_before pieces last before after bytes puts same in prompt before bytes found.0 found.1

-- ---- the whole

module _ {X : Type 0} {Given : List ℕ → Result (Option X) TraceFault → Type 0} (once : (line : List ℕ) (a b : Result (Option X) TraceFault) → Given line a → Given line b → a ≡ b) (owed : Duty X)
    {turns : List X → X → ℕ} {IsAt : List X → Type 0} {log_before log_mid : Option (List Piece)} {rest_before rest_now : Option (List ℕ)} {turns_before turns_now : ℕ} (end : End TraceFault)
    (streams : Streams Given owed.entry turns IsAt log_before log_mid rest_before rest_now turns_before turns_now end)
    (turns_are : (items : List X) → stream.turns_of turns items ≡ owed.turns items)
    (closing : Bool → List X → List ℕ) (text_are : (whole : Bool) (items : List X) → owed.text whole items ≡ stream.text_of owed.entry items ++ closing whole items)
    (good : Status) (fine : IsGood good) (text : List ℕ) (at_end : IsEnded end → (items : List X) → IsAt items → (text ≡ closing (ends_whole end) items) × (good ≡ owed.good items))
    (last : List Piece) (puts : AllPut last) (log_now : Option (List Piece)) (added : Adds log_mid log_now last) where
  got_is : got_of (streams.pieces ++ last) ≡ got_of streams.pieces
  got_is = got_of-then_put streams.pieces last puts

  end_is : has_end (streams.pieces ++ last) ≡ has_end streams.pieces
  end_is = has_end-then_put streams.pieces last puts

  read_as : (items : List X) (bad : Option (BadLine TraceFault)) → IsTrace Given (has_end streams.pieces) (got_of streams.pieces) items bad → AreGot Given owed (streams.pieces ++ last) items bad
  read_as items bad reads = subst (λ b. IsTrace Given b (got_of (streams.pieces ++ last)) items bad) (sym end_is) (subst (λ bs. IsTrace Given (has_end streams.pieces) bs items bad) (sym got_is) reads)

  read_of : (items : List X) (bad : Option (BadLine TraceFault)) → AreGot Given owed (streams.pieces ++ last) items bad → IsTrace Given (has_end streams.pieces) (got_of streams.pieces) items bad
  read_of items bad reads = subst (λ bs. IsTrace Given (has_end streams.pieces) bs items bad) got_is (subst (λ b. IsTrace Given b (got_of (streams.pieces ++ last)) items bad) end_is reads)

  -- all of it was put
  is_owed : (bad : Option (BadLine TraceFault)) (w : Bool) (holds : List X → Type 0) → is_whole (has_end (streams.pieces ++ last)) bad ≡ w
      → (owes : Owes Given owed.entry turns IsAt (got_of streams.pieces) (put_of streams.pieces) (has_end streams.pieces) bad turns_before turns_now)
      → put_of last ≡ closing w owes.items → holds owes.items → IsOwed Given owed (streams.pieces ++ last) bad turns_before turns_now holds
  is_owed bad w holds whole owes closes held = record {
    items = owes.items;
    read = read_as owes.items bad owes.read;
    text_is =
        put_of-append streams.pieces last ∙ ap (λ t. t ++ put_of last) owes.text_is ∙ ap (λ t. stream.text_of owed.entry owes.items ++ t) closes
        ∙ sym (text_are w owes.items) ∙ ap (λ b. owed.text b owes.items) (sym whole);
    counted = owes.counted ∙ ap (λ n. turns_before + n) (turns_are owes.items);
    held = held;
  }

  -- or a part of it, after the whole text of the loop
  part_of : (IsPart : List ℕ → List ℕ → Type 0) → ((base front whole : List ℕ) → IsPart front whole → IsPart (base ++ front) (base ++ whole))
      → (bad : Option (BadLine TraceFault)) (w : Bool) → is_whole (has_end (streams.pieces ++ last)) bad ≡ w
      → (owes : Owes Given owed.entry turns IsAt (got_of streams.pieces) (put_of streams.pieces) (has_end streams.pieces) bad turns_before turns_now)
      → IsPart (put_of last) (closing w owes.items) → IsOwedMore Given owed IsPart (streams.pieces ++ last) turns_before turns_now
  part_of IsPart under bad w whole owes part items other reads =
      let same = laws.trace_once once (has_end streams.pieces) (got_of streams.pieces) owes.items items bad other owes.read (read_of items other reads) in
      let put_is : put_of (streams.pieces ++ last) ≡ stream.text_of owed.entry owes.items ++ put_of last = put_of-append streams.pieces last ∙ ap (λ t. t ++ put_of last) owes.text_is in
      let text_is : owed.text (is_whole (has_end (streams.pieces ++ last)) other) items ≡ stream.text_of owed.entry owes.items ++ closing w owes.items =
      ap (λ b. owed.text (is_whole (has_end (streams.pieces ++ last)) b) items) (sym same.1) ∙ ap (λ b. owed.text b items) whole ∙ ap (owed.text w) (sym same.0) ∙ text_are w owes.items in
      let counted : turns_now ≡ turns_before + owed.turns items = owes.counted ∙ ap (λ n. turns_before + n) (turns_are owes.items) ∙ ap (λ is. turns_before + owed.turns is) same.0 in (
        subst (λ t. IsPart t (owed.text (is_whole (has_end (streams.pieces ++ last)) other) items)) (sym put_is)
            (subst (IsPart (stream.text_of owed.entry owes.items ++ put_of last)) (sym text_is) (under (stream.text_of owed.entry owes.items) (put_of last) (closing w owes.items) part)),
        omega arith,
      )

  -- or a part of the text of the loop
  part_before : (IsPart : List ℕ → List ℕ → Type 0) → ((front whole more : List ℕ) → IsPart front whole → IsPart front (whole ++ more)) → put_of last ≡ []
      → OwesMore Given owed.entry turns (got_of streams.pieces) (put_of streams.pieces) (has_end streams.pieces) IsPart turns_before turns_now
      → IsOwedMore Given owed IsPart (streams.pieces ++ last) turns_before turns_now
  part_before IsPart grows none owes items bad reads =
      let both = laws.part_put once end streams IsPart grows (got_of streams.pieces) (put_of streams.pieces) (has_end streams.pieces) owes items bad (read_of items bad reads) in
      let put_is : put_of (streams.pieces ++ last) ≡ put_of streams.pieces = put_of-append streams.pieces last ∙ ap (λ t. put_of streams.pieces ++ t) none ∙ append-nil (put_of streams.pieces) in
      let w = is_whole (has_end (streams.pieces ++ last)) bad in (
        subst (λ t. IsPart t (owed.text w items)) (sym put_is)
            (subst (IsPart (put_of streams.pieces)) (sym (text_are w items)) (grows (put_of streams.pieces) (stream.text_of owed.entry items) (closing w items) both.0)),
        subst (λ n. turns_now ≤ turns_before + n) (turns_are items) both.1,
      )

  finished : (s : Status) → IsGood s → IsFinished Given owed s (streams.pieces ++ last) turns_before turns_now → IsWritten Given owed s (streams.pieces ++ last) turns_before turns_now
  finished status.Done is held = held
  finished status.Leaks is held = held
  finished status.Usage is held = absurd is
  finished (status.Policy fault) is held = absurd is
  finished (status.Trace number fault) is held = absurd is
  finished status.ReadFault is held = absurd is
  finished status.WriteFault is held = absurd is
  finished status.ShelfFault is held = absurd is
  finished status.NoMemory is held = absurd is
  finished (status.Saved fault) is held = absurd is
  finished (status.Release fault) is held = absurd is

  written_closed : (e : End TraceFault) → IsEnded e → IsStreamed Given owed.entry turns IsAt e (got_of streams.pieces) (put_of streams.pieces) (has_end streams.pieces) turns_before turns_now
      → ((items : List X) → IsAt items → (text ≡ closing (ends_whole e) items) × (good ≡ owed.good items)) → put_of last ≡ text → IsWritten Given owed (status_as e good) (streams.pieces ++ last) turns_before turns_now
  written_closed Done ended held at put =
      finished good fine (end_is ∙ held.0, is_owed None true (λ items. owed.good items ≡ good) (end_is ∙ held.0) held.1 (put ∙ (at held.1.items held.1.at).0) (sym (at held.1.items held.1.at).1))
  written_closed (Bad line) ended held at put = record { which = line.fault; fault_is = refl; owed_is = is_owed (Some line) false (λ items. ⊤) refl held (put ∙ (at held.items held.at).0) tt }
  written_closed ReadFault ended held at put = (end_is ∙ held.0, is_owed None false (λ items. ⊤) (end_is ∙ held.0) held.1 (put ∙ (at held.1.items held.1.at).0) tt)
  written_closed WriteFault ended held at put = absurd ended
  written_closed NoMemory ended held at put = absurd ended

  written_failed : (e : End TraceFault) → ¬ IsEnded e → IsStreamed Given owed.entry turns IsAt e (got_of streams.pieces) (put_of streams.pieces) (has_end streams.pieces) turns_before turns_now
      → put_of last ≡ [] → IsWritten Given owed (status_as e good) (streams.pieces ++ last) turns_before turns_now
  written_failed Done ended held put = absurd (ended tt)
  written_failed (Bad line) ended held put = absurd (ended tt)
  written_failed ReadFault ended held put = absurd (ended tt)
  written_failed WriteFault ended held put = part_before IsProperFront longer_proper put held
  written_failed NoMemory ended held put = part_before IsFront longer_front put held

  written_part : (IsPart : List ℕ → List ℕ → Type 0) → ((base front whole : List ℕ) → IsPart front whole → IsPart (base ++ front) (base ++ whole)) → (e : End TraceFault) → IsEnded e
      → IsStreamed Given owed.entry turns IsAt e (got_of streams.pieces) (put_of streams.pieces) (has_end streams.pieces) turns_before turns_now
      → ((items : List X) → IsAt items → (text ≡ closing (ends_whole e) items) × (good ≡ owed.good items)) → IsPart (put_of last) text → IsOwedMore Given owed IsPart (streams.pieces ++ last) turns_before turns_now
  written_part IsPart under Done ended held at part = part_of IsPart under None true (end_is ∙ held.0) held.1 (subst (IsPart (put_of last)) (at held.1.items held.1.at).0 part)
  written_part IsPart under (Bad line) ended held at part = part_of IsPart under (Some line) false refl held (subst (IsPart (put_of last)) (at held.items held.at).0 part)
  written_part IsPart under ReadFault ended held at part = part_of IsPart under None false (end_is ∙ held.0) held.1 (subst (IsPart (put_of last)) (at held.1.items held.1.at).0 part)
  written_part IsPart under WriteFault ended held at part = absurd ended
  written_part IsPart under NoMemory ended held at part = absurd ended

  written : (s : Status) (before now : ℕ) → Closes end good text (put_of last) before now s → IsWritten Given owed s (streams.pieces ++ last) turns_before turns_now
  written s before now (Closes.closed ended put) = written_closed end ended streams.held (at_end ended) put
  written s before now (Closes.failed ended put) = written_failed end ended streams.held put
  written s before now (Closes.cut ended part rose) = written_part IsProperFront proper_under end ended streams.held (at_end ended) part
  written s before now (Closes.unmade ended put) = written_part IsFront front_under end ended streams.held (at_end ended) (subst (λ t. IsFront t text) (sym put) (front_none text))

  -- ---- turns

  none_owed : (bad : Option (BadLine TraceFault)) → Owes Given owed.entry turns IsAt (got_of streams.pieces) (put_of streams.pieces) (has_end streams.pieces) bad turns_before turns_now
      → ((items : List X) → owed.turns items ≡ 0) → turns_now ≤ turns_before
  none_owed bad owes none = let counted = owes.counted in let zero = turns_are owes.items ∙ none owes.items in omega arith

  none_made : (e : End TraceFault) → IsStreamed Given owed.entry turns IsAt e (got_of streams.pieces) (put_of streams.pieces) (has_end streams.pieces) turns_before turns_now
      → ((items : List X) → owed.turns items ≡ 0) → turns_now ≤ turns_before
  none_made Done held none = none_owed None held.1 none
  none_made (Bad line) held none = none_owed (Some line) held none
  none_made ReadFault held none = none_owed None held.1 none
  none_made WriteFault held none = let most = held.most in let zero = turns_are held.items ∙ none held.items in omega arith
  none_made NoMemory held none = let most = held.most in let zero = turns_are held.items ∙ none held.items in omega arith

  -- ---- causes

  read_fault : (s : Status) (before now : ℕ) → Closes end good text (put_of last) before now s → s ≡ status.ReadFault → end ≡ ReadFault
  read_fault s before now (Closes.closed ended put) same = is_read_fault end good fine same
  read_fault s before now (Closes.failed ended put) same = is_read_fault end good fine same
  read_fault s before now (Closes.cut ended part rose) same = absurd (subst IsWriteFault same tt)
  read_fault s before now (Closes.unmade ended put) same = absurd (subst IsReadFault (sym same) tt)

  write_fault : (s : Status) (before mid now : ℕ) → before ≤ mid → mid ≤ now → (end ≡ WriteFault → Rose before mid) → Closes end good text (put_of last) mid now s → s ≡ status.WriteFault → Rose before now
  write_fault s before mid now up more rose (Closes.closed ended put) same = let first_rose = rose (is_write_fault end good fine same) in omega arith
  write_fault s before mid now up more rose (Closes.failed ended put) same = let first_rose = rose (is_write_fault end good fine same) in omega arith
  write_fault s before mid now up more rose (Closes.cut ended part later) same = omega arith
  write_fault s before mid now up more rose (Closes.unmade ended put) same = absurd (subst IsWriteFault (sym same) tt)

  -- ---- answers

  by_end : (s : Status) (before now : ℕ) (other : End TraceFault) → Closes end good text (put_of last) before now s → s ≢ status.WriteFault → (end ≡ other) ⊎ (end ≡ NoMemory) → (s ≡ status_as other good) ⊎ (s ≡ status.NoMemory)
  by_end s before now other (Closes.closed ended put) unwritten (inl is) = inl (ap (λ e. status_as e good) is)
  by_end s before now other (Closes.closed ended put) unwritten (inr is) = inr (ap (λ e. status_as e good) is)
  by_end s before now other (Closes.failed ended put) unwritten (inl is) = inl (ap (λ e. status_as e good) is)
  by_end s before now other (Closes.failed ended put) unwritten (inr is) = inr (ap (λ e. status_as e good) is)
  by_end s before now other (Closes.cut ended part rose) unwritten which = absurd (unwritten refl)
  by_end s before now other (Closes.unmade ended put) unwritten which = inr refl

  -- a read that failed is what the status says, where no closing text failed
  unread : (s : Status) (before now : ℕ) → Closes end good text (put_of last) before now s → s ≢ status.ReadFault → s ≢ status.WriteFault → (end ≡ ReadFault → ⊥) ⊎ (s ≡ status.NoMemory)
  unread s before now (Closes.closed ended put) not_read unwritten = inl (λ is. not_read (ap (λ e. status_as e good) is))
  unread s before now (Closes.failed ended put) not_read unwritten = inl (λ is. not_read (ap (λ e. status_as e good) is))
  unread s before now (Closes.cut ended part rose) not_read unwritten = absurd (unwritten refl)
  unread s before now (Closes.unmade ended put) not_read unwritten = inr refl

  unwritten_end : (s : Status) (before now : ℕ) → Closes end good text (put_of last) before now s → s ≢ status.WriteFault → end ≡ WriteFault → ⊥
  unwritten_end s before now (Closes.closed ended put) unwritten is = unwritten (ap (λ e. status_as e good) is)
  unwritten_end s before now (Closes.failed ended put) unwritten is = unwritten (ap (λ e. status_as e good) is)
  unwritten_end s before now (Closes.cut ended part rose) unwritten is = unwritten refl
  unwritten_end s before now (Closes.unmade ended put) unwritten is = subst IsEnded is ended

  whole_end : (s : Status) (before now : ℕ) → Closes end good text (put_of last) before now s → IsGood s → end ≡ Done
  whole_end s before now (Closes.closed ended put) is = is_done end good is
  whole_end s before now (Closes.failed ended put) is = is_done end good is
  whole_end s before now (Closes.cut ended part rose) is = absurd is
  whole_end s before now (Closes.unmade ended put) is = absurd is

  -- the status of a whole trace is that of its items
  good_is : (e : End TraceFault) → e ≡ Done → IsStreamed Given owed.entry turns IsAt e (got_of streams.pieces) (put_of streams.pieces) (has_end streams.pieces) turns_before turns_now
      → ((items : List X) → IsAt items → (text ≡ closing (ends_whole e) items) × (good ≡ owed.good items))
      → (rest : List ℕ) → got_of streams.pieces ≡ rest → (items : List X) → IsTrace Given true rest items None → good ≡ owed.good items
  good_is Done is held at rest all_got items reads =
      let here : IsTrace Given (has_end streams.pieces) (got_of streams.pieces) items None = subst (λ b. IsTrace Given b (got_of streams.pieces) items None) (sym held.0) (subst (λ bs. IsTrace Given true bs items None) (sym all_got) reads) in
      (at held.1.items held.1.at).1 ∙ ap owed.good (laws.trace_once once (has_end streams.pieces) (got_of streams.pieces) held.1.items items None None held.1.read here).0
  good_is (Bad line) is held at rest all_got items reads = absurd (subst IsDone (sym is) tt)
    where
      IsDone : End TraceFault → Type 0
      IsDone Done = ⊤
      IsDone other = ⊥
  good_is ReadFault is held at rest all_got items reads = cc
  good_is WriteFault is held at rest all_got items reads = cc
  good_is NoMemory is held at rest all_got items reads = cc

  -- the command by its loop and its closing text
  pub exchanged : (s : Status) (reads_before reads_now writes_before writes_mid writes_now : ℕ) → turns_before ≤ turns_now → (end ≡ ReadFault → Rose reads_before reads_now) → (end ≡ WriteFault → Rose writes_before writes_mid)
      → writes_before ≤ writes_mid → writes_mid ≤ writes_now → Closes end good text (put_of last) writes_mid writes_now s
      → Exchanged Given owed (told_of log_before rest_before reads_before writes_before) (told_of log_now rest_now reads_now writes_now) turns_before turns_now s
  exchanged s reads_before reads_now writes_before writes_mid writes_now later read_rose write_rose up more closes = record {
    pieces = streams.pieces ++ last;
    passed = record {
      added = Adds-trans log_before log_mid log_now streams.pieces last streams.added added;
      left = subst (λ bs. Leaves rest_before rest_now bs) (sym got_is) streams.left;
      at_end = λ ended. streams.at_end (sym end_is ∙ ended);
    };
    prompt = prompt_closed streams.pieces last puts streams.prompt;
    written = written s writes_mid writes_now closes;
    later = later;
    unturned = λ none. let made = none_made end streams.held none in omega arith;
    read_fault = λ same. read_rose (read_fault s writes_mid writes_now closes same);
    write_fault = λ same. write_fault s writes_before writes_mid writes_now up more write_rose closes same;
    bad_line = λ without items line reads. elim (unread s writes_mid writes_now closes without.read without.write) [
      | inl no_read ↦ by_end s writes_mid writes_now (Bad line) closes without.write
          (laws.bad_line once end streams no_read (unwritten_end s writes_mid writes_now closes without.write) items line (read_of items (Some line) reads))
      | inr none ↦ inr none
    ];
    good_rest = λ without rest items rest_is reads. elim (unread s writes_mid writes_now closes without.read without.write) [
      | inl no_read ↦ good_end s writes_mid writes_now closes rest items rest_is reads without.write
          (laws.good_rest once end streams no_read (unwritten_end s writes_mid writes_now closes without.write) rest items rest_is reads)
      | inr none ↦ inr none
    ];
    all_got = λ is rest rest_is. got_is ∙ laws.all_got once end streams (whole_end s writes_mid writes_now closes is) rest rest_is;
  }
    where
      good_end : (s : Status) (before now : ℕ) → Closes end good text (put_of last) before now s → (rest : List ℕ) (items : List X) → rest_before ≡ Some rest → IsTrace Given true rest items None
          → s ≢ status.WriteFault → (end ≡ Done) ⊎ (end ≡ NoMemory) → (s ≡ owed.good items) ⊎ (s ≡ status.NoMemory)
      good_end s before now closes' rest items rest_is reads unwritten (inr is) = by_none (by_end s before now NoMemory closes' unwritten (inr is))
        where
          by_none : (s ≡ status.NoMemory) ⊎ (s ≡ status.NoMemory) → (s ≡ owed.good items) ⊎ (s ≡ status.NoMemory)
          by_none (inl e) = inr e
          by_none (inr e) = inr e
      good_end s before now closes' rest items rest_is reads unwritten (inl is) = elim (by_end s before now Done closes' unwritten (inl is)) [
        | inl e ↦ inl (e ∙ good_is end is streams.held (at_end (subst IsEnded (sym is) tt)) rest (laws.all_got once end streams is rest rest_is) items reads)
        | inr e ↦ inr e
      ]

-- what became of a closing text that isn't there
none_closed : (writes : ℕ) (end : End TraceFault) → Closes end status.Done [] [] writes writes (status_as end status.Done)
none_closed writes Done = Closes.closed tt refl
none_closed writes (Bad line) = Closes.closed tt refl
none_closed writes ReadFault = Closes.closed tt refl
none_closed writes WriteFault = Closes.failed (λ is. is) refl
none_closed writes NoMemory = Closes.failed (λ is. is) refl

-- a command that puts no closing text and ends as done
pub unclosed : {X : Type 0} {Given : List ℕ → Result (Option X) TraceFault → Type 0} (once : (line : List ℕ) (a b : Result (Option X) TraceFault) → Given line a → Given line b → a ≡ b) (owed : Duty X)
    {turns : List X → X → ℕ} {IsAt : List X → Type 0} {log_before log_now : Option (List Piece)} {rest_before rest_now : Option (List ℕ)} {turns_before turns_now : ℕ} (end : End TraceFault)
    (streams : Streams Given owed.entry turns IsAt log_before log_now rest_before rest_now turns_before turns_now end)
    → ((items : List X) → stream.turns_of turns items ≡ owed.turns items) → ((whole : Bool) (items : List X) → owed.text whole items ≡ stream.text_of owed.entry items)
    → ((items : List X) → status.Done ≡ owed.good items)
    → (reads_before reads_now writes_before writes_now : ℕ) → turns_before ≤ turns_now → (end ≡ ReadFault → Rose reads_before reads_now) → (end ≡ WriteFault → Rose writes_before writes_now) → writes_before ≤ writes_now
    → Exchanged Given owed (told_of log_before rest_before reads_before writes_before) (told_of log_now rest_now reads_now writes_now) turns_before turns_now (status_as end status.Done)
unclosed once owed {log_now = log_now} end streams turns_are text_is good_is reads_before reads_now writes_before writes_now later read_fault write_fault later_writes =
    exchanged once owed end streams turns_are (λ whole items. []) (λ whole items. text_is whole items ∙ sym (append-nil (stream.text_of owed.entry items)))
    status.Done tt [] (λ ended items at. (refl, good_is items)) [] tt log_now (Adds-nil log_now) (status_as end status.Done) reads_before reads_now writes_before writes_now writes_now later read_fault write_fault later_writes (omega arith) (none_closed writes_now end)

-- what a port did in a closing text that was put
pub put_closed : {T E : Type 0} (end : End TraceFault) (good : Status) (text : List ℕ) (log_before log_now : Option (List Piece)) (before now : ℕ) (r : Result T E) (put : Puts log_before log_now text r)
    → IsEnded end → (answer : T) → r ≡ Ok answer → IsClosed end good text log_before log_now before now (status_as end good)
put_closed end good text log_before log_now before now r put ended answer is = record {
  last = put.pieces;
  puts = put.all_put;
  added = put.added;
  closes = Closes.closed ended (subst (λ o. OnOk o (put_of put.pieces ≡ text)) is put.whole);
}

pub put_cut : {T E : Type 0} (end : End TraceFault) (good : Status) (text : List ℕ) (log_before log_now : Option (List Piece)) (before now : ℕ) (r : Result T E) (put : Puts log_before log_now text r)
    → IsEnded end → HasCause before now r → (error : E) → r ≡ Err error → IsClosed end good text log_before log_now before now status.WriteFault
put_cut end good text log_before log_now before now r put ended cause error is = record {
  last = put.pieces;
  puts = put.all_put;
  added = put.added;
  closes = Closes.cut ended (subst (λ o. OnErr o (IsProperFront (put_of put.pieces) text)) is put.part) (subst (λ o. OnErr o (Rose before now)) is cause.failed);
}

-- there was no memory for it, or the loop had failed: nothing more was put
pub none_put : (end : End TraceFault) (good : Status) (text : List ℕ) (log : Option (List Piece)) (writes : ℕ) → IsEnded end → IsClosed end good text log log writes writes status.NoMemory
none_put end good text log writes ended = record { last = []; puts = tt; added = Adds-nil log; closes = Closes.unmade ended refl }

pub none_owed_at : (end : End TraceFault) (good : Status) (text : List ℕ) (log : Option (List Piece)) (writes : ℕ) → ¬ IsEnded end → IsClosed end good text log log writes writes (status_as end good)
none_owed_at end good text log writes failed = record { last = []; puts = tt; added = Adds-nil log; closes = Closes.failed failed refl }

-- reading ended where neither a write nor memory failed
pub is_ended : (end : End TraceFault) → (end ≡ WriteFault → ⊥) → (end ≡ NoMemory → ⊥) → IsEnded end
is_ended Done no_write memory = tt
is_ended (Bad line) no_write memory = tt
is_ended ReadFault no_write memory = tt
is_ended WriteFault no_write memory = no_write refl
is_ended NoMemory no_write memory = memory refl
